-- The characters of a string are those of its bytes between the quotes, taken by themselves.
use mathlib.Core.Path.{◌≡◌, refl, sym, ap, ◌∙◌}
use mathlib.Core.List.{List, ◌∷◌}
use mathlib.Core.Bool.{Bool, true, false, cond}
use Prim.Native.Nat.{ℕ, zero, suc, ◌+◌, ◌-◌, ◌*◌, ◌≤◌, ◌<◌}
use native.Mathlib.Omega.{arith}
use lib.ListN.{length, get_or, drop, length-take, length-drop}
use lib.Seq.{get_or-take, get_or-drop}
use lib.Dec.{ltb, leb, eqb}
use borrow.Author.Tests.{leb-true}
use Rattle.model.proofs.Basics.{never}
use Rattle.chars.specs.declared.characters.Step.{Step}
use Rattle.chars.specs.declared.characters.Step.TheVariants.{Char, Quote}
use Rattle.chars.specs.Bytes.{byte_at, from_to, digit, escape_of, lowest, highest, six_bits}
use Rattle.chars.specs.Characters.{need_some, hex_pair, with_pair, pair_value, partner_at, rest_at, unicode_at, escape_at}
use Rattle.chars.specs.Characters.{two_at, three_at, four_at, char_from, char_at}
use Rattle.chars.specs.Strings.{string_at, chars_at, characters, part, values_on}
use Rattle.chars.proofs.bytes.Laws.{both, and_ways, outside}
use Rattle.chars.proofs.characters.Laws.{Ahead, HexAhead, by_some, hex_ahead, partner_ahead, rest_ahead, unicode_ahead, char_ahead, char_end}
use Rattle.chars.proofs.strings.Laws.{char_next, chars_step, chars_char, string_char, string_quote, string_stop, string_bounds}
use Rattle.std.specs.Prelude.{◌||◌, Ok, Err, Option, Some, None}
use Rattle.chars.specs.Refusals.{refusal, Reading}
use Rattle.chars.specs.declared.refusals.Refusal.{Refusal}
use Rattle.chars.specs.declared.refusals.Code.TheVariants.{Ended, LoneSurrogate}

-- a character that ends at c at the latest stands d places earlier in the other text
abbrev Moved : ℕ → ℕ → Reading Step → Reading Step → Type 0
Moved d c (Ok (Char v j)) st = j ≤ c → st ≡ Ok (Char v (j - d))
Moved d c (Ok Quote) st = Unit
Moved d c (Err r) st = Unit

both₂ : (P : Reading Step → Reading Step → Type 0) (b : Bool) {x y x₂ y₂ : Reading Step} → (b ≡ true → P x x₂) → (b ≡ false → P y y₂) → P (cond b x y) (cond b x₂ y₂)
both₂ P true f g = f refl
both₂ P false f g = g refl

with_ways : (P : Reading Step → Type 0) (k : ℕ → Reading Step) (h : Reading ℕ) → ((v : ℕ) → h ≡ Ok v → P (k v)) → ((r : Refusal) → P (Err r)) → P (with_pair k h)
with_ways P k (Ok v) f g = f v refl
with_ways P k (Err r) f g = g r

-- two digits that were read
pair_of : {P : Type 0} (p q : Option ℕ) (v : ℕ) (r r₂ : Refusal) → need_some p (Err r) (λ a. need_some q (Err r₂) (λ b. Ok (16 * a + b))) ≡ Ok v
    → ((a b : ℕ) → p ≡ Some a → q ≡ Some b → 16 * a + b ≡ v → P) → P
pair_of (Some a) (Some b) v r r₂ e f = f a b refl refl (cc)
pair_of (Some a) None v r r₂ e f = never (cc)
pair_of None q v r r₂ e f = never (cc)

module _ (s t : List ℕ) (d c : ℕ) (agree : (y x : ℕ) → x ≡ y + d → x < c → byte_at t y ≡ byte_at s x) where
  via : (o st st₂ : Reading Step) (m : ℕ) → Moved d c o st → Ahead s m o → (m < c → st₂ ≡ st) → Moved d c o st₂
  via (Ok (Char v j)) st st₂ m h a f = λ g. f (omega arith) ∙ h g
  via (Ok Quote) st st₂ m h a f = tt
  via (Err r) st st₂ m h a f = tt

  hex_moved : (y x v : ℕ) → x ≡ y + d → x + 2 ≤ c → hex_pair s x ≡ Ok v → hex_pair t y ≡ Ok v
  unfolding hex_pair
  hex_moved y x v q l e =
      pair_of (digit (byte_at s x)) (digit (byte_at s (x + 1))) v _ _ e
      (λ a b first second z. rw (agree y x q (omega arith), agree (y + 1) (x + 1) (omega arith) (omega arith), first, second) (ap Ok z))

  partner_moved : (y x high : ℕ) → x ≡ y + d → Moved d c (partner_at s x high) (partner_at t y high)
  unfolding partner_at
  partner_moved y x high q =
      let P : Reading Step → Type 0 = λ o. Moved d c o (partner_at t y high) in
      both P (eqb (byte_at s x) 0x5C)
      (λ t₁. both P (eqb (byte_at s (x + 1)) 0x75)
      (λ t₂. both P (eqb (byte_at s (x + 2)) 0x44 || eqb (byte_at s (x + 2)) 0x64)
      (λ t₃. by_some P (digit (byte_at s (x + 3)))
      (λ a t₄. both P (from_to 12 15 a)
      (λ t₅. with_ways P (λ l. Ok (Char (pair_value high (256 * (0xD0 + a) + l)) (x + 6))) (hex_pair s (x + 4))
      (λ l e g. let n : y + 6 ≡ x + 6 - d = omega arith in
      rw (
        agree y x q (omega arith),
        t₁,
        agree (y + 1) (x + 1) (omega arith) (omega arith),
        t₂,
        agree (y + 2) (x + 2) (omega arith) (omega arith),
        t₃,
        agree (y + 3) (x + 3) (omega arith) (omega arith),
        t₄,
        t₅,
        hex_moved (y + 4) (x + 4) l (omega arith) (omega arith) e,
        n,
      ))
      (λ r. tt))
      (λ _. tt))
      (λ _. tt))
      (λ _. tt))
      (λ _. tt))
      (λ _. tt)

  rest_moved : (y x h : ℕ) → x ≡ y + d → Moved d c (rest_at s x h) (rest_at t y h)
  unfolding rest_at
  rest_moved y x h q =
      let P : Reading Step → Type 0 = λ o. Moved d c o (rest_at t y h) in
      with_ways P (λ l. cond (from_to 0xD8 0xDB h) (partner_at s (x + 6) (256 * h + l)) (Ok (Char (256 * h + l) (x + 6)))) (hex_pair s (x + 4))
      (λ l e. both P (from_to 0xD8 0xDB h)
      (λ u. and_ways (leb 0xD8 h) (leb h 0xDB) u
      (λ a b. let w : HexAhead s (x + 4) (Ok l) = rw e at (hex_ahead s (x + 4)) in
      via (partner_at s (x + 6) (256 * h + l)) (partner_at t (y + 6) (256 * h + l)) (rest_at t y h) (x + 5)
      (partner_moved (y + 6) (x + 6) (256 * h + l) (omega arith))
      (partner_ahead s (x + 5) (x + 6) (256 * h + l) (omega arith) (omega (arith, leb-true 0xD8 h a)) (omega (arith, leb-true h 0xDB b)))
      (λ g. rw (hex_moved (y + 4) (x + 4) l (omega arith) (omega arith) e, u))))
      (λ u g. let n : y + 6 ≡ x + 6 - d = omega arith in rw (hex_moved (y + 4) (x + 4) l (omega arith) (omega arith) e, u, n)))
      (λ r. tt)

  unicode_moved : (y x : ℕ) → x ≡ y + d → Moved d c (unicode_at s x) (unicode_at t y)
  unfolding unicode_at
  unicode_moved y x q =
      let P : Reading Step → Type 0 = λ o. Moved d c o (unicode_at t y) in
      with_ways P (λ h. cond (from_to 0xDC 0xDF h) (Err (refusal LoneSurrogate (x + 3))) (rest_at s x h)) (hex_pair s (x + 2))
      (λ h e. both P (from_to 0xDC 0xDF h) (λ _. tt)
      (λ u. let w : HexAhead s (x + 2) (Ok h) = rw e at (hex_ahead s (x + 2)) in
      via (rest_at s x h) (rest_at t y h) (unicode_at t y) (x + 5) (rest_moved y x h q) (rest_ahead s (x + 5) x h (omega arith) w.1 (outside 0xDC 0xDF h u))
      (λ g. rw (hex_moved (y + 2) (x + 2) h (omega arith) (omega arith) e, u))))
      (λ r. tt)

  escape_moved : (y x : ℕ) → x ≡ y + d → Moved d c (escape_at s x) (escape_at t y)
  unfolding escape_at
  escape_moved y x q =
      let P : Reading Step → Type 0 = λ o. Moved d c o (escape_at t y) in
      both P (eqb (byte_at s (x + 1)) 0x75)
      (λ u. via (unicode_at s x) (unicode_at t y) (escape_at t y) (x + 5) (unicode_moved y x q) (unicode_ahead s (x + 5) x (omega arith))
      (λ g. rw (agree (y + 1) (x + 1) (omega arith) (omega arith), u)))
      (λ u. by_some P (escape_of (byte_at s (x + 1)))
      (λ v w g. let n : y + 2 ≡ x + 2 - d = omega arith in rw (agree (y + 1) (x + 1) (omega arith) (omega arith), u, w, n))
      (λ _. tt))

  two_moved : (y x b : ℕ) → x ≡ y + d → Moved d c (two_at s x b) (two_at t y b)
  unfolding two_at
  two_moved y x b q =
      by_some (λ o. Moved d c o (two_at t y b)) (six_bits (byte_at s (x + 1)) 0x80 0xBF)
      (λ v u g. let n : y + 2 ≡ x + 2 - d = omega arith in rw (agree (y + 1) (x + 1) (omega arith) (omega arith), u, n))
      (λ _. tt)

  three_moved : (y x b : ℕ) → x ≡ y + d → Moved d c (three_at s x b) (three_at t y b)
  unfolding three_at
  three_moved y x b q =
      let P : Reading Step → Type 0 = λ o. Moved d c o (three_at t y b) in
      by_some P (six_bits (byte_at s (x + 1)) (lowest b) (highest b))
      (λ _ u. by_some P (six_bits (byte_at s (x + 2)) 0x80 0xBF)
      (λ _ w g. let n : y + 3 ≡ x + 3 - d = omega arith in
      rw (agree (y + 1) (x + 1) (omega arith) (omega arith), u, agree (y + 2) (x + 2) (omega arith) (omega arith), w, n))
      (λ _. tt))
      (λ _. tt)

  four_moved : (y x b : ℕ) → x ≡ y + d → Moved d c (four_at s x b) (four_at t y b)
  unfolding four_at
  four_moved y x b q =
      let P : Reading Step → Type 0 = λ o. Moved d c o (four_at t y b) in
      by_some P (six_bits (byte_at s (x + 1)) (lowest b) (highest b))
      (λ _ u. by_some P (six_bits (byte_at s (x + 2)) 0x80 0xBF)
      (λ _ w. by_some P (six_bits (byte_at s (x + 3)) 0x80 0xBF)
      (λ _ z g. let n : y + 4 ≡ x + 4 - d = omega arith in
      let f = agree (y + 3) (x + 3) (omega arith) (omega arith) in
      rw (agree (y + 1) (x + 1) (omega arith) (omega arith), u, agree (y + 2) (x + 2) (omega arith) (omega arith), w, f, z, n))
      (λ _. tt))
      (λ _. tt))
      (λ _. tt)

  from_moved : (y x b : ℕ) → x ≡ y + d → Moved d c (char_from s x b) (char_from t y b)
  unfolding char_from
  from_moved y x b q =
      both₂ (Moved d c) (eqb b 0x22) (λ _. tt)
      (λ _. both₂ (Moved d c) (eqb b 0x5C) (λ _. escape_moved y x q)
      (λ _. both₂ (Moved d c) (ltb b 0x20) (λ _. tt)
      (λ _. both₂ (Moved d c) (ltb b 0x80) (λ _ g. let n : y + 1 ≡ x + 1 - d = omega arith in rw n)
      (λ _. both₂ (Moved d c) (ltb b 0xC2) (λ _. tt)
      (λ _. both₂ (Moved d c) (ltb b 0xE0) (λ _. two_moved y x b q)
      (λ _. both₂ (Moved d c) (ltb b 0xF0) (λ _. three_moved y x b q)
      (λ _. both₂ (Moved d c) (ltb b 0xF5) (λ _. four_moved y x b q) (λ _. tt))))))))

  char_moved : (y x v j : ℕ) → x ≡ y + d → char_at s x ≡ Ok (Char v j) → j ≤ c → char_at t y ≡ Ok (Char v (j - d))
  unfolding char_at
  char_moved y x v j q e =
      rw e at (via (char_at s x) (char_from t y (byte_at s x)) (char_at t y) x (from_moved y x (byte_at s x) q) (char_ahead s x) (λ g. rw (agree y x q g)))

  step_cases : {P : Type 0} (st : Reading Step) → ((v j : ℕ) → st ≡ Ok (Char v j) → P) → (st ≡ Ok Quote → P) → ((r : Refusal) → st ≡ Err r → P) → P
  step_cases (Ok (Char v j)) f g h = f v j refl
  step_cases (Ok Quote) f g h = g refl
  step_cases (Err r) f g h = h r refl

  -- the closing quote is at c, and the other text ends there
  walk : length t + d ≡ c → (k y x : ℕ) → x ≡ y + d → length s ≤ x + k → string_at s x ≡ Ok (c + 1) → chars_at t y ≡ chars_at s x
  walk z zero y x q l e = absurd (omega (arith, string_bounds s x (c + 1) e))
  walk z (suc k) y x q l e =
      step_cases (char_at s x)
      (λ v j f. let e₂ : string_at s j ≡ Ok (c + 1) = sym (string_char s x v j f) ∙ e in
      let n = char_next s x v j f in
      let m : j ≤ c = omega (arith, string_bounds s j (c + 1) e₂) in
      chars_char t y v (j - d) (char_moved y x v j q f m)
      ∙ ap (◌∷◌ v) (walk z k (j - d) j (omega arith) (omega arith) e₂)
      ∙ sym (chars_char s x v j f))
      (λ f. let r : Ok (x + 1) ≡ Ok (c + 1) = sym (string_quote s x f) ∙ e in
      let m : x + 1 ≡ c + 1 = cc in
      let u : char_at t y ≡ Err (refusal Ended (length t)) = char_end t y (omega arith) in
      chars_step t y ∙ ap (values_on (chars_at t)) u ∙ sym (chars_step s x ∙ ap (values_on (chars_at s)) f))
      (λ r f. let n : Err r ≡ Ok (c + 1) = sym (string_stop s x r f) ∙ e in never (cc))

pub part_characters : (s : List ℕ) (i c : ℕ) → string_at s i ≡ Ok (c + 1) → characters (part s i c) ≡ chars_at s i
part_characters s i c e =
    let b = string_bounds s i (c + 1) e in
    let n : length (part s i c) + i ≡ c = simp (length-take, length-drop) (omega arith) in
    walk s (part s i c) i c
    (λ y x q l. let m : y < c - i = omega arith in let w : i + y ≡ x = omega arith in
    get_or-take (c - i) (drop i s) y 0 m ∙ get_or-drop i s y 0 ∙ ap (λ (k : ℕ). get_or s k 0) w)
    n (length s) 0 i (omega arith) (omega arith) e

-- the same, by the place behind the closing quote
pub body_characters : (s : List ℕ) (i e : ℕ) → string_at s i ≡ Ok e → characters (part s i (e - 1)) ≡ chars_at s i
body_characters s i e q = let b = string_bounds s i e q in let z : e ≡ e - 1 + 1 = omega arith in part_characters s i (e - 1) (q ∙ ap Ok z)
