-- How the answer of `accept` follows from those of its steps: reading a schema, then its first fault as a definition (01, "Three services").
use Prim.Native.Nat.{ℕ, ◌≤◌}
use mathlib.Core.Path.{◌≡◌, refl, sym, ap, ◌∙◌}
use mathlib.Core.List.{List}
use Rattle.std.specs.Prelude.{Result, Ok, Err}
use Rattle.model.proofs.Basics.{never}
use mathlib.Core.Bool.{Bool, true, false, cond}
use lib.ListN.{length}
use lib.Dec.{leb}
use borrow.Author.Tests.{le-leb}
use Rattle.tokens.specs.Parse.{Parse, refused, parsed}
use Rattle.syntax.specs.Tree.{Node}
use Rattle.syntax.specs.Rows.{size}
use Rattle.syntax.specs.Answer.{schema_limits, read_within, answer, answer_of, rows_in, table_of}
use Rattle.syntax.specs.declared.answers.Answer.{Answer}
use Rattle.syntax.specs.declared.limits.Limits.{Limits}
use Rattle.syntax.proofs.Theorems.{read_placed, read_table, read_code}
use Rattle.reader.proofs.Facts.{answer_zero}
use Rattle.definitions.specs.Definitions.{Located, Defined, faulty, fine, definition_at, fault_number, fault, fault_of, Defines}
use Rattle.definitions.specs.Accepting.{read_schema, not_accepted, accept_result, defined_as, accepted_as, accept}
use Rattle.rows.specs.Records.{Rowed}
use Rattle.definitions.specs.declared.definitions.Fault.{Fault}

-- ---- a text that is read

-- a refusal, or no room: the answer is not 0
unread : (which w : ℕ) (s : List ℕ) (o : Parse Node) → ((answer_of which w o).code ≡ 0 → ⊥) → Err (answer_of which w o) ≡ accept_result (accepted_as which w s o)
unfolding answer_of
unread which w s (refused c p) n = refl
unread which w s (parsed m e) n = go (leb (size m) (rows_in w)) n
  where
    full : Answer
    full = answer 8 which 0 (size m)

    go : (b : Bool) → ((cond b (answer 0 0 0 (size m)) full).code ≡ 0 → ⊥)
        → Err (cond b (answer 0 0 0 (size m)) full) ≡ accept_result (cond b (defined_as which (definition_at s m)) (not_accepted full))
    go true f = absurd (f refl)
    go false f = refl

-- a text that was read with room
pub record HasRead (l : Limits) (s t : List ℕ) : Type 0 where
  pub tree : Node
  pub end : ℕ
  pub reads : read_within l s ≡ parsed tree end
  pub room : size tree ≤ rows_in (length t)

module _ (l : Limits) (which : ℕ) (s t : List ℕ) where
  pub has_read : (answer_of which (length t) (read_within l s)).code ≡ 0 → HasRead l s t
  has_read z =
      let x = answer_zero which (length t) (read_within l s) z (λ c p q. (read_code _ _ s c p q).0) in
      record { tree = x.0; end = x.1; reads = x.2; room = x.3 }

module _ {l : Limits} {s t : List ℕ} (h : HasRead l s t) where
  -- its table holds its tree
  abbrev pub has_rows : Rowed s (table_of t (read_within l s)) 0
  has_rows = record {
    tree = h.tree;
    holds = read_table _ _ s t h.tree h.end h.reads h.room;
    placed = read_placed _ _ s h.tree h.end h.reads;
  }

-- ---- a schema

-- reading text number `which`, s, into the table t gave the answer a and the table t₂
pub record SchemaRead (which : ℕ) (s t : List ℕ) (a : Answer) (t₂ : List ℕ) : Type 0 where
  pub answers : a ≡ answer_of which (length t) (read_schema s)
  pub rows : t₂ ≡ table_of t (read_schema s)

module _ {which : ℕ} {s t : List ℕ} {a : Answer} {t₂ : List ℕ} (r : SchemaRead which s t a t₂) where
  pub accept_unread : (a.code ≡ 0 → ⊥) → Err a ≡ accept_result (accept which (length t) s)
  unfolding accept
  accept_unread n = ap (λ (b : Answer). Err b) r.answers ∙ unread which (length t) s (read_schema s) (λ z. n (ap (λ (b : Answer). b.code) r.answers ∙ z))

  module _ (z : a.code ≡ 0) where
    read : HasRead schema_limits s t
    read = has_read schema_limits which s t (sym (ap (λ (b : Answer). b.code) r.answers) ∙ z)

    pub accept_rowed : Rowed s t₂ 0
    unfolding read
    accept_rowed = rw r.rows (has_rows read)

    accepts : accept which (length t) s ≡ defined_as which (definition_at s read.tree)
    unfolding accept
    accepts = rw (read.reads, le-leb (size read.tree) (rows_in (length t)) read.room)

    module _ {x : Result (Unit {0}) Fault} (d : Defines s t₂ 0 x) where
      told : x ≡ fault_of (definition_at s read.tree)
      unfolding read
      told = (rw r.rows at d).tells (has_rows read)

      pub accept_faulty : {f : Fault} → x ≡ Err f → {b : Answer} → b ≡ answer (fault_number f.code) which f.place 0 → Err b ≡ accept_result (accept which (length t) s)
      accept_faulty {f = f} e q = rw (q, accepts) (go (definition_at s read.tree) (sym e ∙ told))
        where
          go : (y : Defined Located) → Err f ≡ fault_of y → Err (answer (fault_number f.code) which f.place 0) ≡ accept_result (defined_as which y)
          go (faulty c p) h = (let i : f ≡ fault c p = cc in rw i)
          go (fine y) h = never (cc)

      pub accept_fine : {u : Unit {0}} → x ≡ Ok u → Ok tt ≡ accept_result (accept which (length t) s)
      accept_fine {u = u} e = rw accepts (go (definition_at s read.tree) (sym e ∙ told))
        where
          go : (y : Defined Located) → Ok u ≡ fault_of y → Ok tt ≡ accept_result (defined_as which y)
          go (faulty c p) h = never (cc)
          go (fine y) h = refl
