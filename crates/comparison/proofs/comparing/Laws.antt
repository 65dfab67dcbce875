-- Compare on plain values: its promise from the answers of its steps (01, "Three services" and demand 3).
use Prim.Native.Nat.{ℕ}
use mathlib.Core.Path.{◌≡◌, refl, sym, ap, ap₂, ◌∙◌}
use mathlib.Core.Bool.{Bool, true, false}
use mathlib.Core.Logic.{inl, inr}
use mathlib.Core.List.{List}
use lib.ListN.{length}
use Rattle.std.specs.Prelude.{Ok, Err}
use Rattle.model.proofs.Basics.{never}
use Rattle.model.specs.Value.{IsJson}
use Rattle.model.specs.Definition.{Def}
use Rattle.model.specs.Subtype.{subtype}
use Rattle.model.proofs.Theorem.{Decided as Decides, decided}
use Rattle.syntax.specs.Answer.{schema_limits, answer, table_of}
use Rattle.syntax.specs.Spelling.{value_of}
use Rattle.syntax.specs.declared.answers.Answer.{Answer}
use Rattle.syntax.proofs.Theorems.{read_json}
use Rattle.definitions.specs.Definitions.{Located, bare}
use Rattle.definitions.specs.Accepting.{read_schema, Accepted, not_accepted, accepted, accept_result, accept}
use Rattle.comparison.specs.Comparing.{Schema, Compared, Answers, Compares, compare_table}
use Rattle.definitions.specs.Shapes.{DefinedRow}
use Rattle.comparison.specs.Carrying.{Pairing, Decided}
use Rattle.definitions.proofs.Facts.{defined_plain, some_defined, Takes, Way, accept_way, HasRead, has_rows}

-- ---- the promise determines the answer
compared_one : (a b : Def) {r q : Answer} → Compared a b r → Compared a b q → r ≡ q
compared_one a b (inl x) (inl y) = x.0 ∙ sym y.0
compared_one a b (inl x) (inr y) = absurd (y.1.3 (x.1 y.1.0 y.1.1 y.1.2))
compared_one a b (inr x) (inl y) = absurd (x.1.3 (y.1 x.1.0 x.1.1 x.1.2))
compared_one a b (inr x) (inr y) = x.0 ∙ sym y.0

answers_one : (x y : Accepted) {r q : Answer} → Answers x y r → Answers x y q → r ≡ q
answers_one (not_accepted a) y h k = h ∙ sym k
answers_one (accepted d) (not_accepted a) h k = h ∙ sym k
answers_one (accepted d) (accepted e) h k = compared_one (bare d) (bare e) h k

pub one_answer : {w₁ w₂ : ℕ} {new old : List ℕ} {r q : Answer} → Compares w₁ w₂ new old r → Compares w₁ w₂ new old q → r ≡ q
one_answer {w₁} {w₂} {new} {old} h k = answers_one (accept 1 w₁ new) (accept 2 w₂ old) h.answers k.answers

-- ---- one schema

-- its definition, with places
schema_takes : {w : ℕ} {s : List ℕ} {d : Def} → Schema w s d → (e : Located) × Takes w s e × (bare e ≡ d)
schema_takes {s = s} {d = d} h =
    let x = some_defined s h.tree d h.defines in
    (x.0, record { tree = h.tree; read = h.read; defines = x.1 }, x.2)

-- and the value that it spells has that definition, without places
takes_schema : {w : ℕ} {s : List ℕ} {e : Located} → Takes w s e → Schema w s (bare e)
takes_schema {s = s} {e = e} h = record { tree = h.tree; read = h.read; defines = defined_plain s h.tree e h.defines }

-- it is not accepted: a is the answer
record Refused (which w : ℕ) (s : List ℕ) (a : Answer) : Type 0 where
  is : accept which w s ≡ not_accepted a
  none : (d : Def) → Schema w s d → ⊥

-- it is accepted, with one definition
record Accepts (which w : ℕ) (s : List ℕ) : Type 0 where
  pub definition : Located
  is : accept which w s ≡ accepted definition
  takes : Takes w s definition
  only : (d : Located) → Takes w s d → definition ≡ d

module _ (which w : ℕ) (s : List ℕ) where
  refused : {a : Answer} → Err a ≡ accept_result (accept which w s) → Refused which w s a
  refused {a} q = go (accept which w s) refl q (accept_way which w s)
    where
      go : (x : Accepted) → accept which w s ≡ x → Err a ≡ accept_result x → Way which w s x → Refused which w s a
      go (not_accepted b) i e h = let z : b ≡ a = cc in record { is = i ∙ ap not_accepted z; none = λ d y. (let k = schema_takes y in h.1 k.0 k.1) }
      go (accepted d) i e h = never (cc)

  accepted-as : {u : Unit {0}} → Ok u ≡ accept_result (accept which w s) → Accepts which w s
  accepted-as {u} q = go (accept which w s) refl q (accept_way which w s)
    where
      go : (x : Accepted) → accept which w s ≡ x → Ok u ≡ accept_result x → Way which w s x → Accepts which w s
      go (not_accepted b) i e h = never (cc)
      go (accepted d) i e h = record { definition = d; is = i; takes = h.0; only = h.1 }

schema_json : {w : ℕ} {s : List ℕ} {d : Def} (h : Schema w s d) → IsJson (value_of s h.tree)
schema_json {s = s} h = read_json _ _ s h.tree h.read.end h.read.reads

-- the schema's table holds it
abbrev accepts_row : {which : ℕ} {s : List ℕ} (t : List ℕ) → Accepts which (length t) s → DefinedRow s (table_of t (read_schema s)) 0
accepts_row {s = s} t a =
    let k = a.takes in
    let h : HasRead schema_limits s t = record { tree = k.tree; end = k.read.end; reads = k.read.reads; room = k.read.room } in
    record { row = has_rows h; definition = a.definition; defines = k.defines }

-- ---- both schemas

module _ (s₁ s₂ t₁ t₂ : List ℕ) where
  -- a is the answer on the new one
  module _ {a : Answer} (q : Err a ≡ accept_result (accept 1 (length t₁) s₁)) where
    pub new_refused : Compares (length t₁) (length t₂) s₁ s₂ a
    new_refused = let f = refused 1 (length t₁) s₁ q in record { answers = rw f.is refl; compares = λ d e y z. absurd (f.none d y) }

    -- so the old one's table is as found
    pub old_unread : t₂ ≡ compare_table (length t₁) t₂ s₁ s₂
    unfolding compare_table
    old_unread = rw (refused 1 (length t₁) s₁ q).is refl

  -- the new one is accepted
  module _ {x : Unit {0}} (q : Ok x ≡ accept_result (accept 1 (length t₁) s₁)) where
    new_taken : Accepts 1 (length t₁) s₁
    new_taken = accepted-as 1 (length t₁) s₁ q

    -- so the old one was reached, and u₂ is its table then
    pub old_read : {u₂ : List ℕ} → u₂ ≡ table_of t₂ (read_schema s₂) → u₂ ≡ compare_table (length t₁) t₂ s₁ s₂
    unfolding compare_table
    old_read y = rw new_taken.is y

    pub old_refused : {a : Answer} → Err a ≡ accept_result (accept 2 (length t₂) s₂) → Compares (length t₁) (length t₂) s₁ s₂ a
    old_refused r =
        let f = refused 2 (length t₂) s₂ r in
        record { answers = rw (new_taken.is, f.is) refl; compares = λ d e v w. absurd (f.none e w) }

    -- both are accepted, and their tables are u₁ and u₂
    module _ {u₁ : List ℕ} (y : u₁ ≡ table_of t₁ (read_schema s₁)) {v : Unit {0}} (r : Ok v ≡ accept_result (accept 2 (length t₂) s₂))
        {u₂ : List ℕ} (z : u₂ ≡ table_of t₂ (read_schema s₂)) where
      old_taken : Accepts 2 (length t₂) s₂
      old_taken = accepted-as 2 (length t₂) s₂ r

      abbrev new_definition : Def
      new_definition = bare new_taken.definition

      abbrev old_definition : Def
      old_definition = bare old_taken.definition

      pair : Pairing s₁ s₂ (table_of t₁ (read_schema s₁)) (table_of t₂ (read_schema s₂)) 0 0
      pair = record { new = accepts_row t₁ new_taken; old = accepts_row t₂ old_taken }

      pub compare_pair : Pairing s₁ s₂ u₁ u₂ 0 0
      compare_pair = rw (y, z) pair

      -- c is whether the new definition is carried to the old one
      module _ {c : Bool} (k : Decided s₁ s₂ u₁ u₂ 0 0 c) where
        told : c ≡ subtype new_definition old_definition
        unfolding pair
        told = (rw (y, z) at k).tells pair

        -- the decision on the definitions of both schemas
        decides : (d e : Def) → Schema (length t₁) s₁ d → Schema (length t₂) s₂ e → (subtype d e ≡ c) × Decides d e
        decides d e f g =
            let m = schema_takes f in
            let n = schema_takes g in
            let i : new_definition ≡ d = ap bare (new_taken.only m.0 m.1) ∙ m.2 in
            let j : old_definition ≡ e = ap bare (old_taken.only n.0 n.1) ∙ n.2 in
            (sym (told ∙ ap₂ subtype i j), decided (value_of s₁ f.tree) (value_of s₂ g.tree) (schema_json f) (schema_json g) d e f.defines g.defines)

        promised : {a : Answer} → ((d e : Def) → Schema (length t₁) s₁ d → Schema (length t₂) s₂ e → Compared d e a) → Compares (length t₁) (length t₂) s₁ s₂ a
        promised f =
            let h = f new_definition old_definition (takes_schema new_taken.takes) (takes_schema old_taken.takes) in
            record { answers = rw (new_taken.is, old_taken.is) h; compares = f }

      pub compare_carried : Decided s₁ s₂ u₁ u₂ 0 0 true → {a : Answer} → a ≡ answer 0 0 0 0 → Compares (length t₁) (length t₂) s₁ s₂ a
      compare_carried k i = promised k (λ d e f g. (let m = decides k d e f g in inl (i, m.1.carried m.0)))

      pub compare_not_carried : Decided s₁ s₂ u₁ u₂ 0 0 false → {a : Answer} → a ≡ answer 30 0 0 0 → Compares (length t₁) (length t₂) s₁ s₂ a
      compare_not_carried k i = promised k (λ d e f g. (let m = decides k d e f g in inr (i, m.1.not_carried m.0)))
