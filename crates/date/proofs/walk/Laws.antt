-- The walk over the characters of a string, on plain values: what is told of a place by what is told of the steps from it.
use mathlib.Core.Path.{◌≡◌, refl, sym, ap, subst, ◌∙◌}
use mathlib.Core.List.{List}
use mathlib.Core.Bool.{Bool, true, false, not}
use Prim.Native.Nat.{ℕ, ◌+◌, ◌-◌, ◌≤◌}
use native.Mathlib.Nat.{add-zero}
use native.Mathlib.Omega.{arith}
use lib.ListN.{length, drop, length-drop}
use lib.Seq.{get_or-drop, drop-drop}
use lib.Dec.{leb}
use borrow.Author.Tests.{le-leb, lt-leb, eq-eqb}
use Rattle.std.specs.Prelude.{Option, Some, None, is_some}
use Rattle.model.specs.Date.{at}
use Rattle.chars.specs.declared.characters.Character.{Character}
use Rattle.chars.specs.Bytes.{byte_at}
use Rattle.chars.specs.Characters.{character, character_in, character_at}
use Rattle.chars.specs.Strings.{chars_at}
use Rattle.model.proofs.DateFields.{digit_range, two_range}
use Rattle.chars.proofs.Facts.{char_read, chars_char, chars_none, digit_read}
use Rattle.date.specs.declared.walk.Number.{Number}
use Rattle.date.specs.Walk.{Stands, CharTold, DigitTold, TwoTold, MarkTold}

pub at_drop : (l : List ℕ) (k : ℕ) → at (drop k l) 0 ≡ at l k
at_drop l k = get_or-drop k l 0 0 ∙ ap (at l) (add-zero k)

-- ---- one character, by what is read at a place

pub char_told : (s : List ℕ) (i : ℕ) (r : Option Character) → r ≡ character_at s i → (l : List ℕ) (k : ℕ) → Stands s i l k → CharTold s l k r
char_told s i (Some c) t l k e = sym e ∙ chars_char s i _ _ (char_read s i c.value c.next (sym t))
char_told s i None t l k e = sym e ∙ chars_none s i (sym t)

-- the character v, behind which stands what is at j
module _ (s l : List ℕ) (k v j : ℕ) (t : CharTold s l k (Some (character v j))) where
  first_is : at l k ≡ v
  first_is = sym (at_drop l k) ∙ ap (λ (t : List ℕ). at t 0) t

  rest_is : Stands s j l (k + 1)
  rest_is = ap (drop 1) (sym t) ∙ drop-drop 1 k l

  pub digit_told : 0x30 ≤ v → v ≤ 0x39 → DigitTold s l k (Some (record { value = v - 0x30; next = j }))
  digit_told lo hi = (rw (first_is, le-leb 0x30 v lo, le-leb v 0x39 hi), rw first_is, rest_is)

  pub mark_told : (c : ℕ) → v ≡ c → MarkTold s l k c (Some j)
  mark_told c h = (rw first_is (eq-eqb v c h), rest_is)

  more : leb (length l) k ≡ false
  more = lt-leb (length l) k (omega (arith, length-drop k l, ap length t))

-- whether the string ends there
pub end_told : (s l : List ℕ) (k : ℕ) (a : Option Character) → CharTold s l k a → (r : Bool) → is_some a ≡ not r → r ≡ leb (length l) k
end_told s l k (Some c) t true e = (cc)
end_told s l k (Some c) t false e = sym (more s l k c.value c.next t)
end_told s l k None t true e = sym (le-leb (length l) k (omega (arith, length-drop k l, ap length t)))
end_told s l k None t false e = (cc)

-- the byte b is a digit, whose number is v
pub byte_told :
    (s : List ℕ) (i : ℕ) (l : List ℕ) (k : ℕ) → Stands s i l k → (b : ℕ) → b ≡ byte_at s i → 0x30 ≤ b → b ≤ 0x39 → (v : ℕ) → v ≡ b - 0x30
    → DigitTold s l k (Some (record { value = v; next = i + 1 }))
byte_told s i l k e b t lo hi v is =
    rw is (digit_told s l k b (i + 1) (char_told s i (Some (character b (i + 1))) (sym (ap character_in (digit_read s i t lo hi))) l k e) lo hi)

-- ---- what the functions tell of a place, whatever characters stand there: one digit and two are small numbers

abbrev pub Digit : List ℕ → ℕ → Option Number → Type 0
Digit s i r = (l : List ℕ) (k : ℕ) → Stands s i l k → DigitTold s l k r

abbrev pub Two : List ℕ → ℕ → Option Number → Type 0
Two s i r = (l : List ℕ) (k : ℕ) → Stands s i l k → TwoTold s l k r

pub digit_most : {a : Option Number} {n : Number} → a ≡ Some n → (s : List ℕ) (i : ℕ) → Digit s i a → n.value ≤ 9
digit_most q s i t =
    let l = chars_at s i in
    let x = subst (Digit s i) q t l 0 refl in
    omega (arith, digit_range (at l 0) x.0, x.1)

pub two_most : {a : Option Number} {n : Number} → a ≡ Some n → (s : List ℕ) (i : ℕ) → Two s i a → n.value ≤ 99
two_most q s i t =
    let l = chars_at s i in
    let x = subst (Two s i) q t l 0 refl in
    omega (arith, two_range l 0 x.0, x.1)
