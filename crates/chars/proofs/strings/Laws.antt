-- The characters of a string, one after the other.
use mathlib.Core.Path.{◌≡◌, refl, sym, ap, ◌∙◌}
use mathlib.Core.List.{List, [], ◌∷◌}
use mathlib.Core.Bool.{Bool, true, false}
use Prim.Native.Nat.{ℕ, zero, suc, ◌+◌, ◌-◌, ◌≤◌, ◌<◌}
use native.Mathlib.Omega.{arith}
use lib.ListN.{length}
use borrow.Author.Tests.{eq-eqb, ne_eqb}
use Rattle.chars.specs.declared.characters.Step.{Step}
use Rattle.chars.specs.declared.characters.Step.TheVariants.{Char, Quote}
use Rattle.chars.specs.Bytes.{byte_at}
use Rattle.chars.specs.declared.characters.Character.{Character}
use Rattle.chars.specs.Characters.{char_at, character, character_in, character_at}
use Rattle.chars.specs.Strings.{go_on, string_from, string_at, values_on, chars_from, chars_at}
use Rattle.model.specs.Text.{same}
use Rattle.model.proofs.Basics.{never}
use Rattle.chars.proofs.characters.Laws.{Scalar, Ahead, char_ahead, char_end}
use Rattle.std.specs.Prelude.{Ok, Err, Option, Some, None, is_some, not}
use Rattle.chars.specs.Refusals.{number, Reading}
use Rattle.chars.specs.declared.refusals.Refusal.{Refusal}

-- a character ends behind its place
module _ (s : List ℕ) (i v j : ℕ) (e : char_at s i ≡ Ok (Char v j)) where
  pub char_next : (i < j) × (j ≤ length s) × Scalar v
  char_next = rw e at (char_ahead s i)

pub quote_in : (s : List ℕ) (i : ℕ) → char_at s i ≡ Ok Quote → i < length s
quote_in s i e = (rw e at (char_ahead s i)).0

-- what stands at a place, as a `?` has it and a match then tells it
pub stands : (s : List ℕ) (i : ℕ) {r : Reading Step} {st x : Step} → r ≡ char_at s i → r ≡ Ok st → st ≡ x → char_at s i ≡ Ok x
stands s i e w q = sym e ∙ w ∙ ap Ok q

go_same : (f g : ℕ → Reading ℕ) (i : ℕ) (st : Reading Step) → ((v j : ℕ) → st ≡ Ok (Char v j) → f j ≡ g j) → go_on f i st ≡ go_on g i st
go_same f g i (Ok (Char v j)) h = h v j refl
go_same f g i (Ok Quote) h = refl
go_same f g i (Err r) h = refl

spell_same : (f g : ℕ → List ℕ) (st : Reading Step) → ((v j : ℕ) → st ≡ Ok (Char v j) → f j ≡ g j) → values_on f st ≡ values_on g st
spell_same f g (Ok (Char v j)) h = ap (◌∷◌ v) (h v j refl)
spell_same f g (Ok Quote) h = refl
spell_same f g (Err r) h = refl

read_char : (st : Reading Step) (v j : ℕ) → character_in st ≡ Some (character v j) → st ≡ Ok (Char v j)
read_char (Ok (Char w n)) v j e =
    let q : character w n ≡ character v j = cc in
    ap (λ (x : Character). Ok (Char x.value x.next)) q
read_char (Ok Quote) v j e = never (cc)
read_char (Err r) v j e = never (cc)

no_char : (f : ℕ → List ℕ) (st : Reading Step) → character_in st ≡ None → values_on f st ≡ []
no_char f (Ok (Char v j)) e = never (cc)
no_char f (Ok Quote) e = refl
no_char f (Err r) e = refl

-- the character at a place is the one that stands there
pub char_read : (s : List ℕ) (i v j : ℕ) → character_at s i ≡ Some (character v j) → char_at s i ≡ Ok (Char v j)
char_read s i v j e = read_char (char_at s i) v j e

module _ (s : List ℕ) where
  -- any number that is at least the bytes left will do
  string_enough : (k m i : ℕ) → length s ≤ i + k → length s ≤ i + m → string_from k s i ≡ string_from m s i
  unfolding string_from
  string_enough zero zero i h g = refl
  string_enough zero (suc m) i h g = rw (char_end s i (omega arith))
  string_enough (suc k) zero i h g = rw (char_end s i (omega arith))
  string_enough (suc k) (suc m) i h g =
      go_same (λ j. string_from k s j) (λ j. string_from m s j) i (char_at s i)
      (λ v j e. string_enough k m j (omega (arith, char_next s i v j e)) (omega (arith, char_next s i v j e)))

  chars_enough : (k m i : ℕ) → length s ≤ i + k → length s ≤ i + m → chars_from k s i ≡ chars_from m s i
  unfolding chars_from
  chars_enough zero zero i h g = refl
  chars_enough zero (suc m) i h g = rw (char_end s i (omega arith))
  chars_enough (suc k) zero i h g = rw (char_end s i (omega arith))
  chars_enough (suc k) (suc m) i h g =
      spell_same (λ j. chars_from k s j) (λ j. chars_from m s j) (char_at s i)
      (λ v j e. chars_enough k m j (omega (arith, char_next s i v j e)) (omega (arith, char_next s i v j e)))

  -- a step
  pub string_step : (i : ℕ) → string_at s i ≡ go_on (string_at s) i (char_at s i)
  unfolding string_at string_from
  string_step i =
      string_enough (length s - i) (suc (length s)) i (omega arith) (omega arith)
      ∙ go_same (λ j. string_from (length s) s j) (λ j. string_from (length s - j) s j) i (char_at s i)
      (λ v j e. string_enough (length s) (length s - j) j (omega arith) (omega arith))

  pub chars_step : (i : ℕ) → chars_at s i ≡ values_on (chars_at s) (char_at s i)
  unfolding chars_at chars_from
  chars_step i =
      chars_enough (length s - i) (suc (length s)) i (omega arith) (omega arith)
      ∙ spell_same (λ j. chars_from (length s) s j) (λ j. chars_from (length s - j) s j) (char_at s i)
      (λ v j e. chars_enough (length s) (length s - j) j (omega arith) (omega arith))

  pub string_char : (i v j : ℕ) → char_at s i ≡ Ok (Char v j) → string_at s i ≡ string_at s j
  string_char i v j e = string_step i ∙ ap (go_on (string_at s) i) e

  pub string_quote : (i : ℕ) → char_at s i ≡ Ok Quote → string_at s i ≡ Ok (i + 1)
  string_quote i e = string_step i ∙ ap (go_on (string_at s) i) e

  pub string_stop : (i : ℕ) (r : Refusal) → char_at s i ≡ Err r → string_at s i ≡ Err r
  string_stop i r e = string_step i ∙ ap (go_on (string_at s) i) e

  pub chars_char : (i v j : ℕ) → char_at s i ≡ Ok (Char v j) → chars_at s i ≡ v ∷ chars_at s j
  chars_char i v j e = chars_step i ∙ ap (values_on (chars_at s)) e

  pub chars_none : (i : ℕ) → character_at s i ≡ None → chars_at s i ≡ []
  chars_none i e = chars_step i ∙ no_char (chars_at s) (char_at s i) e

-- a string ends behind its start and within the text, at a quote
abbrev pub ScanAhead : List ℕ → ℕ → Reading ℕ → Type 0
ScanAhead s i (Ok e) = (i < e) × (e ≤ length s) × (byte_at s (e - 1) ≡ 0x22)
ScanAhead s i (Err r) = (r.place ≤ length s) × (2 ≤ number r.code) × (number r.code ≤ 5)

earlier : (s : List ℕ) (i j : ℕ) → i < j → (x : Reading ℕ) → ScanAhead s j x → ScanAhead s i x
earlier s i j l (Ok e) h = (omega arith, h.1, h.2)
earlier s i j l (Err r) h = h

go_ahead : (s : List ℕ) (i : ℕ) (f : ℕ → Reading ℕ) → ((j : ℕ) → ScanAhead s j (f j)) → (st : Reading Step) → Ahead s i st → ScanAhead s i (go_on f i st)
go_ahead s i f h (Ok (Char v j)) a = earlier s i j a.0 (f j) (h j)
go_ahead s i f h (Ok Quote) a = let z : i + 1 - 1 ≡ i = omega arith in (omega arith, omega arith, rw z a.1)
go_ahead s i f h (Err r) a = a

from_ahead : (k : ℕ) (s : List ℕ) (i : ℕ) → ScanAhead s i (string_from k s i)
unfolding string_from
from_ahead zero s i = omega arith
from_ahead (suc k) s i = go_ahead s i (λ j. string_from k s j) (λ j. from_ahead k s j) (char_at s i) (char_ahead s i)

pub string_ahead : (s : List ℕ) (i : ℕ) → ScanAhead s i (string_at s i)
unfolding string_at
string_ahead s i = from_ahead (length s - i) s i

pub string_close : (s : List ℕ) (i e : ℕ) → string_at s i ≡ Ok e → (i < e) × (e ≤ length s) × (byte_at s (e - 1) ≡ 0x22)
string_close s i e q = rw q at (string_ahead s i)

pub string_bounds : (s : List ℕ) (i e : ℕ) → string_at s i ≡ Ok e → (i < e) × (e ≤ length s)
string_bounds s i e q = let h = string_close s i e q in (h.0, h.1)

-- two lists, by their first elements
module _ {p q xs ys : List ℕ} {x y : ℕ} where
  pub differ : p ≡ x ∷ xs → q ≡ y ∷ ys → (x ≡ y → ⊥) → same p q ≡ false
  differ e g n = rw (e, g, ne_eqb x y n)

  alike : p ≡ x ∷ xs → q ≡ y ∷ ys → x ≡ y → same p q ≡ same xs ys
  alike e g n = rw (e, g, eq-eqb x y n)

-- two names, by the character that stands at i of the one, and the one that stands at j of the other
module _ (a b : List ℕ) (i j : ℕ) where
  abbrev Same : Bool → Type 0
  Same t = same (chars_at a i) (chars_at b j) ≡ t

  module _ {x : Character} (l : character_at a i ≡ Some x) where
    pub names_differ : {y : Character} → character_at b j ≡ Some y → (x.value ≡ y.value → ⊥) → Same false
    names_differ {y} r h = differ (chars_char a i _ _ (char_read a i _ _ l)) (chars_char b j _ _ (char_read b j _ _ r)) h

    pub names_alike : {y : Character} → character_at b j ≡ Some y → x.value ≡ y.value → Same (same (chars_at a x.next) (chars_at b y.next))
    names_alike {y} r h = alike (chars_char a i _ _ (char_read a i _ _ l)) (chars_char b j _ _ (char_read b j _ _ r)) h

    pub first_longer : character_at b j ≡ None → Same false
    first_longer r = rw (chars_char a i _ _ (char_read a i _ _ l), chars_none b j r)

  module _ (l : character_at a i ≡ None) where
    -- the other ends too, or is longer
    pub first_ended : (o : Option Character) (t : Bool) → o ≡ character_at b j → is_some o ≡ not t → Same t
    first_ended (Some y) true r n = never (cc)
    first_ended (Some y) false r n = rw (chars_none a i l, chars_char b j _ _ (char_read b j _ _ (sym r)))
    first_ended None true r n = rw (chars_none a i l, chars_none b j (sym r))
    first_ended None false r n = never (cc)
