-- The end of a date, on plain values: a zone that begins with a letter.
use mathlib.Core.Path.{◌≡◌, sym, ap, ◌∙◌}
use mathlib.Core.Logic.{⊎_elim}
use mathlib.Core.List.{List, [], ◌∷◌}
use mathlib.Core.Bool.{Bool, true, false, ◌||◌, and-true, and-false, false≢true}
use Prim.Native.Nat.{ℕ, ◌<◌}
use native.Mathlib.Omega.{arith}
use lib.ListN.{length, drop}
use lib.Seq.{drop-drop}
use lib.Dec.{leb, eqb}
use borrow.Author.Tests.{lt-leb, ne_eqb, eqb-true}
use Rattle.std.specs.Bool.{then_some}
use Rattle.std.specs.Prelude.{Some}
use Rattle.model.specs.Value.{is_digit}
use Rattle.model.specs.Date.{at, after_digits}
use Rattle.model.proofs.Basics.{or-true}
use Rattle.chars.specs.Strings.{chars_at}
use Rattle.date.specs.declared.walk.Number.{Number}
use Rattle.date.specs.Walk.{DigitTold}
use Rattle.date.specs.Endings.{zone_read, end_read}
use Rattle.date.proofs.walk.Laws.{at_drop}

-- a letter is no sign
letter_sign : (c x : ℕ) → c < 0x5A → eqb x 0x5A || eqb x 0x7A ≡ true → eqb x c ≡ false
letter_sign c x k h =
    ⊎_elim
    (λ t. rw (eqb-true x 0x5A t) (ne_eqb 0x5A c (λ e. omega arith)))
    (λ t. rw (eqb-true x 0x7A t) (ne_eqb 0x7A c (λ e. omega arith)))
    (or-true (eqb x 0x5A) (eqb x 0x7A) h)

-- it is a zone where nothing stands behind it
letter_alone : (l : List ℕ) → eqb (at l 0) 0x5A || eqb (at l 0) 0x7A ≡ true → then_some (leb (length l) 1) 1440 ≡ zone_read l
letter_alone [] h = absurd (false≢true h)
letter_alone (x ∷ []) h = simp (and-true, h, letter_sign 0x2B x (omega arith) h, letter_sign 0x2D x (omega arith) h)
letter_alone (x ∷ y ∷ t) h =
    simp (and-false, letter_sign 0x2B x (omega arith) h, letter_sign 0x2D x (omega arith) h, lt-leb (length (x ∷ y ∷ t)) 1 (omega arith))

pub letter_read :
    (l : List ℕ) → eqb (at l 0) 0x5A || eqb (at l 0) 0x7A ≡ true → (r : Bool) → r ≡ leb (length l) 1 → then_some r 1440 ≡ zone_read l
letter_read l h r e = rw e (letter_alone l h)

-- ---- fractions

digit_skip : (l : List ℕ) → is_digit (at l 0) ≡ true → after_digits l ≡ after_digits (drop 1 l)
digit_skip [] h = absurd (false≢true h)
digit_skip (x ∷ t) h = rw h

digit_less : (l : List ℕ) → is_digit (at l 0) ≡ true → length (drop 1 l) < length l
digit_less [] h = absurd (false≢true h)
digit_less (x ∷ t) h = omega arith

-- a digit is skipped, and then the characters left are fewer
module _ (s l : List ℕ) (n : Number) (t : DigitTold s l 0 (Some n)) where
  pub fewer : length (chars_at s n.next) < length l
  fewer = rw t.2 (digit_less l t.0)

  pub skipped : after_digits l ≡ after_digits (chars_at s n.next)
  skipped = digit_skip l t.0 ∙ ap after_digits (sym t.2)

-- the zone behind a point, a digit and the digits behind that
pub fraction :
    (s l : List ℕ) (n : Number) → eqb (at l 0) 0x2E ≡ true → DigitTold s l 1 (Some n) → zone_read (after_digits (chars_at s n.next)) ≡ end_read l
fraction s l n p t =
    let e : after_digits (drop 1 l) ≡ after_digits (chars_at s n.next) =
    digit_skip (drop 1 l) (ap is_digit (at_drop l 1) ∙ t.0) ∙ ap after_digits (drop-drop 1 1 l ∙ sym t.2) in
    rw (p, t.0, e)
