-- The first fault of the definitions under the names of an object: one law for each way out of `define_fields`, and its invariant (01, "Definitions").
use Prim.Native.Nat.{ℕ, ◌+◌, ◌<◌}
use mathlib.Core.Path.{◌≡◌, refl, sym, ap, ◌∙◌}
use mathlib.Core.List.{List}
use Rattle.std.specs.Prelude.{Option, Some, None, Result, Ok, Err}
use native.Mathlib.Omega.{arith}
use Rattle.syntax.specs.Tree.{Members}
use Rattle.syntax.specs.Grammar.{name_of}
use Rattle.syntax.specs.Rows.{sizes_members}
use Rattle.syntax.specs.Holding.{word}
use Rattle.definitions.specs.Definitions.{definition_at, fields_at, fault_of, Defines, DefinesFields}
use Rattle.rows.specs.Records.{PartRow}
use Rattle.rows.specs.Children.{Passes, Begins}
use Rattle.rows.specs.declared.children.Children.{Children}
use Rattle.definitions.specs.declared.definitions.Fault.{Fault}
use Rattle.rows.proofs.Facts.{row, as_row, part_object, same_part, MemberHere, NamesLeft, names_start, name_here, names_next, names_end}
use Rattle.definitions.proofs.definitions.Body.{part_rows}
use Rattle.definitions.proofs.definitions.Laws.{first_fault, fault_added}

-- the members of the part at row r whose names are left have the fault of the whole part
pub record InFields (s t : List ℕ) (r : Option ℕ) (c : Children 1) : Type 0 where
  pub whole : PartRow s t r
  pub rest : Members
  pub ahead : NamesLeft s t c rest
  pub less : sizes_members rest < part_rows t r
  pub is : fault_of (fields_at s rest) ≡ fault_of (fields_at s whole.members)

part_defined : {s t : List ℕ} {r : Option ℕ} {g : Result (Unit {0}) Fault} (w : PartRow s t r) → g ≡ fault_of (fields_at s w.members) → DefinesFields s t r g
part_defined {s} w q = record { tells = λ v. q ∙ ap (λ (ms : Members). fault_of (fields_at s ms)) (same_part w v) }

pub fields_none : {s t : List ℕ} → PartRow s t None → DefinesFields s t None (Ok tt)
fields_none {s} w = part_defined w (sym (ap (λ (ms : Members). fault_of (fields_at s ms)) (w.absent refl)))

module _ {s t : List ℕ} {c : Children 1} where
  pub fields_start : {r : ℕ} → PartRow s t (Some r) → Begins t r c → InFields s t (Some r) c
  fields_start w b =
      let o = part_object w refl in
      record { whole = w; rest = w.members; ahead = names_start o b; less = omega (arith, (row (as_row o)).subtree); is = refl }

  module _ {r : Option ℕ} (a : InFields s t r c) where
    pub fields_end : c.left ≡ 0 → DefinesFields s t r (Ok tt)
    fields_end l = part_defined a.whole (sym (ap (λ (ms : Members). fault_of (fields_at s ms)) (names_end a.ahead l)) ∙ a.is)

    -- with one of them at row n
    module _ {n : ℕ} {d : Children 1} (p : Passes c n d) where
      abbrev pub field_here : MemberHere s t n a.rest
      field_here = name_here a.ahead p

      pub field_less : word t (n + 1) 4 < part_rows t r
      field_less = omega (arith, (row field_here.value).subtree, a.less, ap sizes_members field_here.is)

      all_fields : first_fault (fault_of (definition_at s field_here.value.tree)) (fault_of (fields_at s field_here.others)) ≡ fault_of (fields_at s a.whole.members)
      all_fields =
          sym (fault_added (word t n 1) (name_of s (word t n 1) (word t n 2)) (definition_at s field_here.value.tree) (fields_at s field_here.others))
          ∙ sym (ap (λ (ms : Members). fault_of (fields_at s ms)) field_here.is)
          ∙ a.is

      module _ {x : Result (Unit {0}) Fault} (h : Defines s t (n + 1) x) where
        pub field_fault : {f : Fault} → x ≡ Err f → DefinesFields s t r (Err f)
        field_fault e = part_defined a.whole (rw (sym (h.tells field_here.value) ∙ e) at all_fields)

        pub field_next : x ≡ Ok tt → InFields s t r d
        field_next e = record {
          whole = a.whole;
          rest = field_here.others;
          ahead = names_next a.ahead p field_here;
          less = omega (arith, a.less, ap sizes_members field_here.is);
          is = rw (sym (h.tells field_here.value) ∙ e) at all_fields;
        }
