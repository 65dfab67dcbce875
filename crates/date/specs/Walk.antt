-- For private contracts: what a function tells of the characters of l from the kth on, which it reads at a place of the string s.
use Rattle.std.specs.Prelude.{ℕ, ◌+◌, ◌-◌, ◌*◌, ◌≡◌, true, false, ◌&&◌, ◌||◌, List, [], ◌∷◌, eqb, drop, Option, Some, None}
use Rattle.model.specs.Value.{is_digit}
use Rattle.model.specs.Date.{at, two_digits, two, day_of, is_day, is_clock, minutes}
use Rattle.chars.specs.declared.characters.Character.{Character}
use Rattle.chars.specs.Strings.{chars_at, characters}
use Rattle.date.specs.declared.walk.Number.{Number}
use Rattle.date.specs.declared.fields.Date.{Date}
use Rattle.date.specs.declared.fields.Time.{Time}

-- at the place i of s stand the characters of l from the kth on
abbrev pub Stands : List ℕ → ℕ → List ℕ → ℕ → Type 0
Stands s i l k = chars_at s i ≡ drop k l

-- a character and the place behind it, or that none is left
abbrev pub CharTold : List ℕ → List ℕ → ℕ → Option Character → Type 0
CharTold s l k (Some c) = drop k l ≡ c.value ∷ chars_at s c.next
CharTold s l k None = drop k l ≡ []

abbrev pub DigitTold : List ℕ → List ℕ → ℕ → Option Number → Type 0
DigitTold s l k (Some n) = (is_digit (at l k) ≡ true) × (n.value ≡ at l k - 0x30) × Stands s n.next l (k + 1)
DigitTold s l k None = is_digit (at l k) ≡ false

abbrev pub TwoTold : List ℕ → List ℕ → ℕ → Option Number → Type 0
TwoTold s l k (Some n) = (two_digits l k ≡ true) × (n.value ≡ two l k) × Stands s n.next l (k + 2)
TwoTold s l k None = two_digits l k ≡ false

abbrev pub FourTold : List ℕ → List ℕ → ℕ → Option Number → Type 0
FourTold s l k (Some n) =
    (two_digits l k && two_digits l (k + 2) ≡ true) × (n.value ≡ 100 * two l k + two l (k + 2)) × Stands s n.next l (k + 4)
FourTold s l k None = two_digits l k && two_digits l (k + 2) ≡ false

-- the character c, behind which is the place j
abbrev pub MarkTold : List ℕ → List ℕ → ℕ → ℕ → Option ℕ → Type 0
MarkTold s l k c (Some j) = (eqb (at l k) c ≡ true) × Stands s j l (k + 1)
MarkTold s l k c None = eqb (at l k) c ≡ false

-- the character a or b
abbrev pub EitherTold : List ℕ → List ℕ → ℕ → ℕ → ℕ → Option ℕ → Type 0
EitherTold s l k a b (Some j) = (eqb (at l k) a || eqb (at l k) b ≡ true) × Stands s j l (k + 1)
EitherTold s l k a b None = eqb (at l k) a || eqb (at l k) b ≡ false

-- the character c, and two digits
abbrev pub MarkedTold : List ℕ → List ℕ → ℕ → ℕ → Option Number → Type 0
MarkedTold s l k c (Some n) =
    (eqb (at l k) c && two_digits l (k + 1) ≡ true) × (n.value ≡ two l (k + 1)) × Stands s n.next l (k + 3)
MarkedTold s l k c None = eqb (at l k) c && two_digits l (k + 1) ≡ false

abbrev pub ClockTold : List ℕ → List ℕ → ℕ → Option Time → Type 0
ClockTold s l k (Some t) = (is_clock l k ≡ true) × (t.minutes ≡ minutes l k) × Stands s t.next l (k + 5)
ClockTold s l k None = is_clock l k ≡ false

-- a day is read at the start
abbrev pub DayTold : List ℕ → Option Date → Type 0
DayTold s (Some d) =
    let l = characters s in
    (is_day l ≡ true) × (d.day ≡ day_of l) × Stands s d.next l 10
DayTold s None = is_day (characters s) ≡ false
