-- How many rows a text has goes by the value alone that it spells.
use Prim.Native.Nat.{ℕ, suc, ◌+◌}
use mathlib.Core.Path.{◌≡◌, refl, sym, ap, ap₂, ◌∙◌}
use mathlib.Core.List.{List}
use Rattle.model.specs.Value.{Value, null, boolean, number, string, Values, vnil, vcons, mnil, mcons, array as list, object as record_of}
use Rattle.model.specs.Value.{Members as ValueMembers}
use Rattle.tokens.specs.declared.tokens.Kind.{Kind}
use Rattle.tokens.specs.declared.tokens.Kind.TheVariants.{Null, False, True, Whole, Fractional, Quoted}
use Rattle.syntax.specs.Tree.{Node, scalar, array, object, Nodes, none, more, Members, no_member, member}
use Rattle.syntax.specs.Rows.{size, sizes, sizes_members}
use Rattle.syntax.specs.Spelling.{scalar_of, value_of, values_of, members_of}

-- "One row for each value and each member name" (01, "Rows"), of a value
abbrev mutual
  rows : Value → ℕ
  rows null = 1
  rows (boolean b) = 1
  rows (number s) = 1
  rows (string s) = 1
  rows (list vs) = suc (rows_all vs)
  rows (record_of ms) = suc (rows_members ms)

  rows_all : Values → ℕ
  rows_all vnil = 0
  rows_all (vcons v vs) = rows v + rows_all vs

  rows_members : ValueMembers → ℕ
  rows_members mnil = 0
  rows_members (mcons n v ms) = suc (rows v + rows_members ms)

module _ (s : List ℕ) where
  scalar_rows : (k : Kind) (f e : ℕ) → rows (scalar_of s k f e) ≡ 1
  scalar_rows Null f e = refl
  scalar_rows False f e = refl
  scalar_rows True f e = refl
  scalar_rows Whole f e = refl
  scalar_rows Fractional f e = refl
  scalar_rows Quoted f e = refl

  mutual
    size_rows : (n : Node) → size n ≡ rows (value_of s n)
    size_rows (scalar k f e) = sym (scalar_rows k f e)
    size_rows (array f e ns) = ap suc (sizes_rows ns)
    size_rows (object f e ms) = ap suc (members_rows ms)

    sizes_rows : (ns : Nodes) → sizes ns ≡ rows_all (values_of s ns)
    sizes_rows none = refl
    sizes_rows (more n ns) = ap₂ ◌+◌ (size_rows n) (sizes_rows ns)

    members_rows : (ms : Members) → sizes_members ms ≡ rows_members (members_of s ms)
    members_rows no_member = refl
    members_rows (member f e n ms) = ap suc (ap₂ ◌+◌ (size_rows n) (members_rows ms))

pub same_size : (s t : List ℕ) (n m : Node) → value_of s n ≡ value_of t m → size n ≡ size m
same_size s t n m e = size_rows s n ∙ ap rows e ∙ sym (size_rows t m)
