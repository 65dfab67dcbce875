-- Arrays and objects by the kinds of their rows.
use mathlib.Core.Path.{◌≡◌, refl, sym}
use native.Mathlib.Omega.{arith}
use lib.Dec.{eqb}
use borrow.Author.Tests.{ne_eqb}
use Rattle.tokens.specs.Tokens.{kind_number}
use Rattle.syntax.specs.Tree.{Node, scalar, array, object}
use Rattle.syntax.proofs.Facts.{kind_small}
use Rattle.schema.specs.Judging.{is_array, is_object}
use Rattle.rows.proofs.Facts.{kind_of}

pub array_kind : (n : Node) → is_array n ≡ eqb (kind_of n) 7
array_kind (scalar k f e) = sym (ne_eqb (kind_number k) 7 (λ q. omega (arith, kind_small k)))
array_kind (array f e ns) = refl
array_kind (object f e ms) = refl

pub object_kind : (n : Node) → is_object n ≡ eqb (kind_of n) 8
object_kind (scalar k f e) = sym (ne_eqb (kind_number k) 8 (λ q. omega (arith, kind_small k)))
object_kind (array f e ns) = refl
object_kind (object f e ms) = refl
