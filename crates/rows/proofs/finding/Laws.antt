-- Looking a name up among the members of an object, on plain values.
use Prim.Native.Nat.{ℕ, ◌+◌, ◌-◌}
use mathlib.Core.Path.{◌≡◌, sym, ap, ◌∙◌, subst}
use mathlib.Core.Bool.{Bool, true, false, cond}
use Rattle.std.specs.Prelude.{Option, Some, None}
use mathlib.Core.List.{List}
use native.Mathlib.Omega.{arith}
use Rattle.model.specs.Text.{same}
use Rattle.chars.specs.Strings.{characters, part}
use Rattle.syntax.specs.Tree.{Node, Members}
use Rattle.syntax.specs.Grammar.{name_of}
use Rattle.syntax.specs.Holding.{word}
use Rattle.rows.specs.Finding.{lookup, Agrees, Finds}
use Rattle.rows.specs.Records.{Reads, ObjectRow}
use Rattle.rows.specs.Children.{Passes, Begins}
use Rattle.rows.specs.declared.children.Children.{Children}
use Rattle.rows.specs.declared.records.Record.{Record}
use Rattle.rows.proofs.records.Trees.{same_members}
use Rattle.rows.proofs.records.Members.{MemberHere}
use Rattle.rows.proofs.children.Laws.{NamesLeft, names_start, name_here, names_next, names_end}

-- the name was not among the members before those that are left
pub record Seeking (s t : List ℕ) (r : ℕ) (key : List ℕ) (c : Children 1) : Type 0 where
  pub rest : Members
  pub ahead : NamesLeft s t c rest
  pub stays : (o : ObjectRow s t r) → lookup s key o.members ≡ lookup s key rest

module _ {s t : List ℕ} {r : ℕ} {key : List ℕ} {c : Children 1} where
  pub seek : (o : ObjectRow s t r) → Begins t r c → Seeking s t r key c
  seek o b = record { rest = o.members; ahead = names_start o b; stays = λ p. ap (lookup s key) (same_members p o) }

  module _ (a : Seeking s t r key c) where
    found_as : (v : Option ℕ) (x : Option Node) → lookup s key a.rest ≡ x → Agrees t v x → Finds s t r key v
    found_as v x e h = record { tells = λ o. subst (Agrees t v) (sym (a.stays o ∙ e)) h }

    pub seek_end : c.left ≡ 0 → Finds s t r key None
    seek_end l = found_as None None (ap (lookup s key) (names_end a.ahead l)) tt

    module _ {row : ℕ} {d : Children 1} (p : Passes c row d) where
      pub candidate : MemberHere s t row a.rest
      candidate = name_here a.ahead p

      -- the members from here on, by the comparison of the names
      splits : (b : Bool) → same key (name_of s (word t row 1) (word t row 2)) ≡ b
          → lookup s key a.rest ≡ cond b (Some candidate.value.tree) (lookup s key candidate.others)
      splits b e = ap (lookup s key) candidate.is ∙ rw e

      pub hit : same key (name_of s (word t row 1) (word t row 2)) ≡ true → Finds s t r key (Some (row + 1))
      hit e = found_as (Some (row + 1)) (Some candidate.value.tree) (splits true e) (omega arith, candidate.value.holds)

      pub missed : same key (name_of s (word t row 1) (word t row 2)) ≡ false → Seeking s t r key d
      missed e = record { rest = candidate.others; ahead = names_next a.ahead p candidate; stays = λ o. a.stays o ∙ splits false e }

-- the name at a row, as it was read, was compared with the key
pub read_same : (s key : List ℕ) {t bytes : List ℕ} {row : ℕ} {x : Record} {b : Bool} → Reads t row x → bytes ≡ part s (x.first + 1) (x.end - 1)
    → b ≡ same key (characters bytes) → same key (name_of s (word t row 1) (word t row 2)) ≡ b
read_same s key w p e = rw (← w.first, ← w.last, ← p) (sym e)
