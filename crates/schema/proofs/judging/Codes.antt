-- The code of a mismatch in an answer: 20, 21 or 22.
use Prim.Native.Nat.{◌≤◌}
use mathlib.Core.Path.{◌≡◌, refl}
use native.Mathlib.Omega.{arith}
use Rattle.std.specs.Prelude.{Ok, Err}
use Rattle.schema.specs.Judging.{mismatch_number, Judgement, nothing}
use Rattle.schema.specs.Checking.{mismatch_answer}
use Rattle.schema.specs.declared.judging.MismatchCode.{MismatchCode}
use Rattle.schema.specs.declared.judging.MismatchCode.TheVariants.{WrongKind, MissingName, NoDate}

pub number_bounds : (c : MismatchCode) → (20 ≤ mismatch_number c) × (mismatch_number c ≤ 22)
number_bounds WrongKind = omega arith
number_bounds MissingName = omega arith
number_bounds NoDate = omega arith

pub mismatch_codes : (m : Judgement) → (m ≡ nothing → ⊥) → (20 ≤ (mismatch_answer m).code) × ((mismatch_answer m).code ≤ 22)
mismatch_codes (Ok u) h = absurd (h refl)
mismatch_codes (Err m) h = number_bounds m.code
