-- What stands at a place takes a part of the text: a character ends behind its place and within the text, and is a scalar value.
use mathlib.Core.Path.{◌≡◌, refl, sym}
use mathlib.Core.List.{List}
use mathlib.Core.Bool.{cond}
use Prim.Native.Nat.{ℕ, ◌+◌, ◌-◌, ◌*◌, ◌≤◌, ◌<◌}
use native.Mathlib.Nat.{eq-or-lt_of_le}
use native.Mathlib.Decide.{dec_lt}
use mathlib.Core.Logic.{⊎_elim}
use native.Mathlib.Omega.{arith}
use lib.ListN.{length, get_or-eq_default}
use lib.Dec.{ltb, leb, eqb}
use borrow.Author.Tests.{ltb-true, ltb-false, leb-true, eqb-true, le-ltb}
use Rattle.chars.specs.declared.characters.Step.{Step}
use Rattle.chars.specs.declared.characters.Step.TheVariants.{Char, Quote}
use Rattle.chars.specs.Bytes.{byte_at, from_to, code_of, digit, escape_of, lowest, highest, six_bits}
use Rattle.chars.specs.Characters.{refusal_at, stop_at, wrong, need_some, hex_pair, with_pair, pair_value, partner_at, rest_at, unicode_at, escape_at}
use Rattle.chars.specs.Characters.{two_at, three_at, four_at, char_from, char_at}
use Rattle.chars.proofs.bytes.Laws.{both, and_ways, outside, in_text, code_bound, digit_ways, digit_in, six_ways, lowest_of, highest_of, highest_most, escape_ways}
use Rattle.std.specs.Prelude.{◌||◌, Ok, Err, Option, Some, None}
use Rattle.chars.specs.Refusals.{number, refusal, Reading}
use Rattle.chars.specs.declared.refusals.Code.{Code}
use Rattle.chars.specs.declared.refusals.Code.TheVariants.{Ended, NotAllowed, NotUtf8, LoneSurrogate}

-- a Unicode scalar value: at most 10FFFF, and no surrogate
abbrev pub Scalar : ℕ → Type 0
Scalar v = (v ≤ 0x10FFFF) × (0xD800 ≤ v → 0xE000 ≤ v)

-- a character ends behind its place; a refusal has a code from 2 to 5
abbrev pub Ahead : List ℕ → ℕ → Reading Step → Type 0
Ahead s i (Ok (Char v j)) = (i < j) × (j ≤ length s) × Scalar v
Ahead s i (Ok Quote) = (i < length s) × (byte_at s i ≡ 0x22)
Ahead s i (Err r) = (r.place ≤ length s) × (2 ≤ number r.code) × (number r.code ≤ 5)

abbrev pub HexAhead : List ℕ → ℕ → Reading ℕ → Type 0
HexAhead s i (Ok v) = (i + 2 ≤ length s) × (v < 256)
HexAhead s i (Err r) = (r.place ≤ length s) × (2 ≤ number r.code) × (number r.code ≤ 5)

-- two numbers, in one of three orders
by_order : {P : Type 0} (a b : ℕ) → (a < b → P) → (a ≡ b → P) → (b < a → P) → P
by_order {P} a b f g h = go (dec_lt a b)
  where
    go : Dec (a < b) → P
    go (yes l) = f l
    go (no n) = let m : b ≤ a = omega arith in ⊎_elim (λ e. g (sym e)) h (eq-or-lt_of_le m)

-- both ways of a value that may be missing
pub by_some : {A B : Type 0} (P : Reading B → Type 0) (o : Option A) {other : Reading B} {k : A → Reading B}
    → ((x : A) → o ≡ Some x → P (k x)) → (o ≡ None → P other) → P (need_some o other k)
by_some P (Some x) f g = f x refl
by_some P None f g = g refl

module _ (s : List ℕ) where
  stop_ahead : (i j : ℕ) (c : Code) → (2 ≤ number c) × (number c ≤ 5) → Ahead s i (stop_at s j c)
  unfolding refusal_at
  stop_ahead i j c h = both (λ r. Ahead s i (Err r)) (ltb j (length s)) (λ t. omega (arith, ltb-true j (length s) t)) (λ _. omega arith)

  wrong_ahead : (i j : ℕ) → Ahead s i (Err (wrong s j))
  wrong_ahead i j = stop_ahead i j (code_of (byte_at s j)) (code_bound (byte_at s j))

  pub hex_ahead : (i : ℕ) → HexAhead s i (hex_pair s i)
  unfolding hex_pair
  hex_ahead i =
      by_some (HexAhead s i) (digit (byte_at s i))
      (λ a t. by_some (HexAhead s i) (digit (byte_at s (i + 1)))
      (λ b u. (omega (arith, digit_in s (i + 1) u), omega (arith, digit_ways _ t, digit_ways _ u)))
      (λ _. wrong_ahead i (i + 1)))
      (λ _. wrong_ahead i i)

  with_ahead : (i j : ℕ) (k : ℕ → Reading Step) (h : Reading ℕ) → HexAhead s j h → ((v : ℕ) → j + 2 ≤ length s → v < 256 → Ahead s i (k v)) → Ahead s i (with_pair k h)
  with_ahead i j k (Ok v) a f = f v a.0 a.1
  with_ahead i j k (Err r) a f = a

  pub partner_ahead : (i j high : ℕ) → i < j → 0xD800 ≤ high → high ≤ 0xDBFF → Ahead s i (partner_at s j high)
  unfolding partner_at
  partner_ahead i j high l lo hi =
      both (Ahead s i) (eqb (byte_at s j) 0x5C)
      (λ _. both (Ahead s i) (eqb (byte_at s (j + 1)) 0x75)
      (λ _. both (Ahead s i) (eqb (byte_at s (j + 2)) 0x44 || eqb (byte_at s (j + 2)) 0x64)
      (λ _. by_some (Ahead s i) (digit (byte_at s (j + 3)))
      (λ d _. both (Ahead s i) (from_to 12 15 d)
      (λ t. and_ways (leb 12 d) (leb d 15) t
      (λ x y. let x₂ : 12 ≤ d = leb-true _ _ x in let y₂ : d ≤ 15 = leb-true _ _ y in
      with_ahead i (j + 4) (λ l. Ok (Char (pair_value high (256 * (0xD0 + d) + l)) (j + 6))) (hex_pair s (j + 4)) (hex_ahead (j + 4))
      (λ v m w. (omega arith, omega arith, (omega arith, λ g. omega arith)))))
      (λ _. stop_ahead i (j + 3) LoneSurrogate (omega arith)))
      (λ _. stop_ahead i (j + 3) LoneSurrogate (omega arith)))
      (λ _. stop_ahead i (j + 2) LoneSurrogate (omega arith)))
      (λ _. stop_ahead i (j + 1) LoneSurrogate (omega arith)))
      (λ _. stop_ahead i j LoneSurrogate (omega arith))

  pub rest_ahead : (i x h : ℕ) → i < x + 6 → h < 256 → (0xDC ≤ h → 0xDF < h) → Ahead s i (rest_at s x h)
  unfolding rest_at
  rest_ahead i x h l small none =
      with_ahead i (x + 4) (λ l. cond (from_to 0xD8 0xDB h) (partner_at s (x + 6) (256 * h + l)) (Ok (Char (256 * h + l) (x + 6))))
      (hex_pair s (x + 4)) (hex_ahead (x + 4))
      (λ v m w. both (Ahead s i) (from_to 0xD8 0xDB h)
      (λ t. and_ways (leb 0xD8 h) (leb h 0xDB) t
      (λ p q. partner_ahead i (x + 6) (256 * h + v) l (omega (arith, leb-true 0xD8 h p)) (omega (arith, leb-true h 0xDB q))))
      (λ t. (omega arith, omega arith, (omega arith, λ g. omega (arith, none (outside 0xD8 0xDB h t (omega arith)))))))

  pub unicode_ahead : (i x : ℕ) → i < x + 6 → Ahead s i (unicode_at s x)
  unfolding unicode_at
  unicode_ahead i x l =
      with_ahead i (x + 2) (λ h. cond (from_to 0xDC 0xDF h) (Err (refusal LoneSurrogate (x + 3))) (rest_at s x h)) (hex_pair s (x + 2)) (hex_ahead (x + 2))
      (λ v m w. both (Ahead s i) (from_to 0xDC 0xDF v) (λ _. omega arith) (λ t. rest_ahead i x v l w (outside 0xDC 0xDF v t)))

  escape_ahead : (i : ℕ) → Ahead s i (escape_at s i)
  unfolding escape_at
  escape_ahead i =
      both (Ahead s i) (eqb (byte_at s (i + 1)) 0x75) (λ _. unicode_ahead i i (omega arith))
      (λ _. by_some (Ahead s i) (escape_of (byte_at s (i + 1)))
      (λ v t. let h = escape_ways (byte_at s (i + 1)) t in
      let l = in_text s (i + 1) h.0 in (omega arith, omega arith, (omega arith, λ g. omega arith)))
      (λ _. wrong_ahead i (i + 1)))

  -- the bits of a byte that continues a character, which lies within the text
  six_in : (i : ℕ) {v : ℕ} → six_bits (byte_at s i) 0x80 0xBF ≡ Some v → (i < length s) × (v ≤ 63)
  six_in i t = let h = six_ways (byte_at s i) 0x80 0xBF t in (in_text s i (omega arith), omega arith)

  second_small : (b x : ℕ) {v : ℕ} → six_bits x (lowest b) (highest b) ≡ Some v → v ≤ 63
  second_small b x t = omega (arith, six_ways x (lowest b) (highest b) t, highest_most b)

  two_ahead : (i b : ℕ) → b < 0xE0 → Ahead s i (two_at s i b)
  unfolding two_at
  two_ahead i b hi =
      by_some (Ahead s i) (six_bits (byte_at s (i + 1)) 0x80 0xBF)
      (λ c t. let x = six_in (i + 1) t in (omega arith, omega arith, (omega arith, λ g. omega arith)))
      (λ _. stop_ahead i (i + 1) NotUtf8 (omega arith))

  three_ahead : (i b : ℕ) → 0xE0 ≤ b → b < 0xF0 → Ahead s i (three_at s i b)
  unfolding three_at
  three_ahead i b lo hi =
      by_some (Ahead s i) (six_bits (byte_at s (i + 1)) (lowest b) (highest b))
      (λ c t. by_some (Ahead s i) (six_bits (byte_at s (i + 2)) 0x80 0xBF)
      (λ d u. let x = six_in (i + 2) u in
      let m = second_small b _ t in
      let w = six_ways (byte_at s (i + 1)) (lowest b) (highest b) t in (
        omega arith,
        omega arith,
        (omega arith, λ g. three_high b c d lo m x.1 (λ e. omega (arith, (highest_of b (byte_at s (i + 1)) w.1).0 e)) g),
      ))
      (λ _. stop_ahead i (i + 2) NotUtf8 (omega arith)))
      (λ _. stop_ahead i (i + 1) NotUtf8 (omega arith))
    where
      three_high : (b c d : ℕ) → 0xE0 ≤ b → c ≤ 63 → d ≤ 63 → (b ≡ 0xED → c ≤ 31)
          → 0xD800 ≤ 4096 * (b - 0xE0) + 64 * c + d → 0xE000 ≤ 4096 * (b - 0xE0) + 64 * c + d
      three_high b c d lo hc hd f g = by_order b 0xED (λ l. absurd (omega arith)) (λ e. absurd (omega (arith, f e))) (λ l. omega arith)

  four_ahead : (i b : ℕ) → 0xF0 ≤ b → b < 0xF5 → Ahead s i (four_at s i b)
  unfolding four_at
  four_ahead i b lo hi =
      by_some (Ahead s i) (six_bits (byte_at s (i + 1)) (lowest b) (highest b))
      (λ c t. by_some (Ahead s i) (six_bits (byte_at s (i + 2)) 0x80 0xBF)
      (λ d u. by_some (Ahead s i) (six_bits (byte_at s (i + 3)) 0x80 0xBF)
      (λ e z. let x = six_in (i + 2) u in
      let y = six_in (i + 3) z in
      let w = six_ways (byte_at s (i + 1)) (lowest b) (highest b) t in
      let r = four_range b c d e lo hi (second_small b _ t) x.1 y.1
      (λ q. omega (arith, (lowest_of b (byte_at s (i + 1)) w.0).1 q)) (λ q. omega (arith, (highest_of b (byte_at s (i + 1)) w.1).1 q)) in
      (omega arith, omega arith, (r.1, λ _. omega arith)))
      (λ _. stop_ahead i (i + 3) NotUtf8 (omega arith)))
      (λ _. stop_ahead i (i + 2) NotUtf8 (omega arith)))
      (λ _. stop_ahead i (i + 1) NotUtf8 (omega arith))
    where
      four_range : (b c d e : ℕ) → 0xF0 ≤ b → b < 0xF5 → c ≤ 63 → d ≤ 63 → e ≤ 63 → (b ≡ 0xF0 → 16 ≤ c) → (b ≡ 0xF4 → c ≤ 15)
          → (0x10000 ≤ 262144 * (b - 0xF0) + 4096 * c + 64 * d + e) × (262144 * (b - 0xF0) + 4096 * c + 64 * d + e ≤ 0x10FFFF)
      four_range b c d e lo hi hc hd he f g = (
        by_order b 0xF0 (λ l. absurd (omega arith)) (λ q. omega (arith, f q)) (λ l. omega arith),
        by_order b 0xF4 (λ l. omega arith) (λ q. omega (arith, g q)) (λ l. absurd (omega arith)),
      )

  pub char_ahead : (i : ℕ) → Ahead s i (char_at s i)
  unfolding char_at char_from
  char_ahead i =
      let b : ℕ = byte_at s i in
      both (Ahead s i) (eqb b 0x22) (λ t. let q = eqb-true b 0x22 t in (in_text s i (omega arith), q))
      (λ _. both (Ahead s i) (eqb b 0x5C) (λ _. escape_ahead i)
      (λ _. both (Ahead s i) (ltb b 0x20) (λ _. stop_ahead i i NotAllowed (omega arith))
      (λ t. both (Ahead s i) (ltb b 0x80)
      (λ u. let l = in_text s i (omega (arith, ltb-false b 0x20 t)) in
      let h : b < 0x80 = ltb-true b 0x80 u in (omega arith, omega arith, (omega arith, λ g. omega arith)))
      (λ _. both (Ahead s i) (ltb b 0xC2) (λ _. stop_ahead i i NotUtf8 (omega arith))
      (λ _. both (Ahead s i) (ltb b 0xE0) (λ u. two_ahead i b (ltb-true b 0xE0 u))
      (λ u. both (Ahead s i) (ltb b 0xF0) (λ v. three_ahead i b (ltb-false b 0xE0 u) (ltb-true b 0xF0 v))
      (λ v. both (Ahead s i) (ltb b 0xF5) (λ w. four_ahead i b (ltb-false b 0xF0 v) (ltb-true b 0xF5 w)) (λ _. stop_ahead i i NotUtf8 (omega arith)))))))))

  -- behind the text
  pub char_end : (i : ℕ) → length s ≤ i → char_at s i ≡ Err (refusal Ended (length s))
  unfolding char_at char_from refusal_at
  char_end i h = let e : byte_at s i ≡ 0 = get_or-eq_default s 0 h in rw (e, le-ltb i (length s) h)
