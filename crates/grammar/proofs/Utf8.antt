-- The table of UTF-8: each Unicode scalar value has one sequence of bytes, and no other number has any.
use Prim.Native.Nat.{ℕ, ◌+◌, ◌-◌, ◌*◌, ◌/◌, ◌%◌, ◌≤◌, ◌<◌}
use mathlib.Core.Path.{◌≡◌, refl, subst}
use mathlib.Core.Logic.{◌⊎◌, inl, inr, ⊎_elim}
use mathlib.Core.Bool.{true}
use mathlib.Core.List.{List, [], ◌∷◌}
use native.Mathlib.Omega.{arith}
use lib.Dec.{ltb, leb, eqb}
use borrow.Author.Tests.{ltb-true, ltb-false, leb-true, eqb-true, eqb-false, lt-ltb, le-ltb, le-leb}
use Rattle.model.specs.Text.{is_scalar}
use Rattle.model.proofs.Basics.{both, and_ways, by_test, or-true, or_left, or_right}
use Rattle.grammar.specs.Utf8.{In, IsTail, StartsThree, e0, e1_ec, ed, ee_ef, StartsFour, f0, f1_f3, f4, IsUtf8, utf8_1, utf8_2, utf8_3, utf8_4, utf8}

-- ---- Unicode scalar values: 0000-D7FF and E000-10FFFF

abbrev pub ScalarRange : ℕ → Type 0
ScalarRange v = (v < 0xD800) ⊎ In 0xE000 0x10FFFF v

pub is_scalar_lem : (v : ℕ) → ScalarRange v → is_scalar v ≡ true
is_scalar_lem v (inl h) = or_left _ _ (lt-ltb v 0xD800 h)
is_scalar_lem v (inr h) = or_right (ltb v 0xD800) _ (rw (le-leb 0xE000 v h.0, le-leb v 0x10FFFF h.1))

pub scalar_range : (v : ℕ) → is_scalar v ≡ true → ScalarRange v
scalar_range v t =
    ⊎_elim (λ u. inl (ltb-true v 0xD800 u)) (λ u. and_ways (leb 0xE000 v) (leb v 0x10FFFF) u (λ l m. inr (leb-true _ _ l, leb-true _ _ m)))
    (or-true (ltb v 0xD800) _ t)

-- ---- the first two bytes of three and of four

-- the bits behind the marks of a first byte, whose mark is m, and of a second
abbrev bits : ℕ → ℕ → ℕ → ℕ
bits m b c = 64 * (b - m) + (c - 0x80)

-- E0 A0-BF are the bits from 800 on, ED 80-9F those up to D7FF
pub three_bits : {b c : ℕ} → StartsThree b c → In 0xE0 0xEF b × IsTail c × (In 0x20 0x35F (bits 0xE0 b c) ⊎ In 0x380 0x3FF (bits 0xE0 b c))
three_bits (e0 h) = (omega arith, omega arith, inl (omega arith))
three_bits (e1_ec h t) = (omega arith, t, inl (omega arith))
three_bits (ed h) = (omega arith, omega arith, inl (omega arith))
three_bits (ee_ef h t) = (omega arith, t, inr (omega arith))

-- F0 90-BF are the bits from 10000 on, F4 80-8F those up to 10FFFF
pub four_bits : {b c : ℕ} → StartsFour b c → In 0xF0 0xF4 b × IsTail c × In 0x10 0x10F (bits 0xF0 b c)
four_bits (f0 h) = (omega arith, omega arith, omega arith)
four_bits (f1_f3 h t) = (omega arith, t, omega arith)
four_bits (f4 h) = (omega arith, omega arith, omega arith)

-- the rows of three bytes differ from one another in the second byte of E0 and of ED only, those of four in that of F0 and of F4
pub starts_three : (b c : ℕ) → In 0xE0 0xEF b → IsTail c → (b ≡ 0xE0 → 0xA0 ≤ c) → (b ≡ 0xED → c ≤ 0x9F) → StartsThree b c
starts_three b c h t f g =
    by_test (eqb b 0xE0) (λ e. let e = eqb-true b 0xE0 e in rw e (e0 (f e, t.1)))
    (λ n. by_test (eqb b 0xED) (λ e. let e = eqb-true b 0xED e in rw e (ed (t.0, g e)))
    (λ m. by_test (ltb b 0xED) (λ l. e1_ec (omega (arith, eqb-false b 0xE0 n, ltb-true b 0xED l)) t)
    (λ l. ee_ef (omega (arith, eqb-false b 0xED m, ltb-false b 0xED l)) t)))

pub starts_four : (b c : ℕ) → In 0xF0 0xF4 b → IsTail c → (b ≡ 0xF0 → 0x90 ≤ c) → (b ≡ 0xF4 → c ≤ 0x8F) → StartsFour b c
starts_four b c h t f g =
    by_test (eqb b 0xF0) (λ e. let e = eqb-true b 0xF0 e in rw e (f0 (f e, t.1)))
    (λ n. by_test (eqb b 0xF4) (λ e. let e = eqb-true b 0xF4 e in rw e (f4 (t.0, g e)))
    (λ m. f1_f3 (omega (arith, eqb-false b 0xF0 n, eqb-false b 0xF4 m)) t))

-- ---- each sequence spells a scalar value

pub utf8_range : {w : List ℕ} {v : ℕ} → IsUtf8 w v → ScalarRange v
utf8_range (utf8_1 h) = inl (omega arith)
utf8_range (utf8_2 h t) = inl (omega arith)
utf8_range (utf8_3 s t) = ⊎_elim (λ r. inl (omega arith)) (λ r. inr (omega arith)) (three_bits s).2
utf8_range (utf8_4 s t u) = let r = four_bits s in inr (omega arith)

pub utf8_scalar : {w : List ℕ} {v : ℕ} → IsUtf8 w v → is_scalar v ≡ true
utf8_scalar {v = v} u = is_scalar_lem v (utf8_range u)

-- one of several bytes spells none below 80
pub utf8_wide : {b : ℕ} {w : List ℕ} {v : ℕ} → IsUtf8 (b ∷ w) v → 0x80 ≤ b → 0x80 ≤ v
utf8_wide (utf8_1 h) l = l
utf8_wide (utf8_2 h t) l = omega arith
utf8_wide (utf8_3 s t) l = ⊎_elim (λ r. omega arith) (λ r. omega arith) (three_bits s).2
utf8_wide (utf8_4 s t u) l = let r = four_bits s in omega arith

-- ---- it is the only one of that value

module _ (v b c : ℕ) where
  two_only : In 0xC2 0xDF b → IsTail c → v ≡ 64 * (b - 0xC0) + (c - 0x80) → b ∷ c ∷ [] ≡ utf8 v
  unfolding utf8
  two_only h t e =
      let p : 0xC0 + v / 64 ≡ b = omega arith in
      let q : 0x80 + v % 64 ≡ c = omega arith in
      rw (le-ltb v 0x80 (omega arith), lt-ltb v 0x800 (omega arith), p, q)

  three_only : (d : ℕ) → StartsThree b c → IsTail d → v ≡ 4096 * (b - 0xE0) + 64 * (c - 0x80) + (d - 0x80) → b ∷ c ∷ d ∷ [] ≡ utf8 v
  unfolding utf8
  three_only d s t e =
      let r = three_bits s in
      let least : 0x800 ≤ v = ⊎_elim (λ x. omega arith) (λ x. omega arith) r.2 in
      let p : 0xE0 + v / 4096 ≡ b = omega arith in
      let q : 0x80 + v / 64 % 64 ≡ c = omega arith in
      let o : 0x80 + v % 64 ≡ d = omega arith in
      rw (le-ltb v 0x80 (omega arith), le-ltb v 0x800 least, lt-ltb v 0x10000 (omega arith), p, q, o)

  four_only : (d f : ℕ) → StartsFour b c → IsTail d → IsTail f → v ≡ 262144 * (b - 0xF0) + 4096 * (c - 0x80) + 64 * (d - 0x80) + (f - 0x80)
      → b ∷ c ∷ d ∷ f ∷ [] ≡ utf8 v
  unfolding utf8
  four_only d f s t u e =
      let r = four_bits s in
      let p : 0xF0 + v / 262144 ≡ b = omega arith in
      let q : 0x80 + v / 4096 % 64 ≡ c = omega arith in
      let o : 0x80 + v / 64 % 64 ≡ d = omega arith in
      let n : 0x80 + v % 64 ≡ f = omega arith in
      rw (le-ltb v 0x80 (omega arith), le-ltb v 0x800 (omega arith), le-ltb v 0x10000 (omega arith), p, q, o, n)

pub utf8_only : {w : List ℕ} {v : ℕ} → IsUtf8 w v → w ≡ utf8 v
unfolding utf8
utf8_only (utf8_1 {b} h) = rw (lt-ltb b 0x80 (omega arith))
utf8_only {v = v} (utf8_2 {b} {c} h t) = two_only v b c h t refl
utf8_only {v = v} (utf8_3 {b} {c} {d} s t) = three_only v b c d s t refl
utf8_only {v = v} (utf8_4 {b} {c} {d} {e} s t u) = four_only v b c d e s t u refl

-- ---- each scalar value has it

module _ (v : ℕ) where
  equal : {w : List ℕ} {u : ℕ} → u ≡ v → IsUtf8 w u → IsUtf8 w v
  equal {w} e h = subst (IsUtf8 w) e h

  two_spelled : 0x80 ≤ v → v < 0x800 → IsUtf8 ((0xC0 + v / 64) ∷ (0x80 + v % 64) ∷ []) v
  two_spelled l h = let e : 64 * (0xC0 + v / 64 - 0xC0) + (0x80 + v % 64 - 0x80) ≡ v = omega arith in equal e (utf8_2 (omega arith) (omega arith))

  three_spelled : 0x800 ≤ v → v < 0x10000 → ScalarRange v → IsUtf8 ((0xE0 + v / 4096) ∷ (0x80 + v / 64 % 64) ∷ (0x80 + v % 64) ∷ []) v
  three_spelled l h r =
      let b = 0xE0 + v / 4096 in
      let c = 0x80 + v / 64 % 64 in
      let d = 0x80 + v % 64 in
      let p : v / 64 / 64 ≡ v / 4096 = omega arith in
      let e : 4096 * (b - 0xE0) + 64 * (c - 0x80) + (d - 0x80) ≡ v = omega arith in
      let s = starts_three b c (omega arith) (omega arith) (λ x. omega arith) (λ x. ⊎_elim (λ y. omega arith) (λ y. omega arith) r) in
      equal e (utf8_3 s (omega arith))

  four_spelled : 0x10000 ≤ v → v ≤ 0x10FFFF → IsUtf8 ((0xF0 + v / 262144) ∷ (0x80 + v / 4096 % 64) ∷ (0x80 + v / 64 % 64) ∷ (0x80 + v % 64) ∷ []) v
  four_spelled l h =
      let b = 0xF0 + v / 262144 in
      let c = 0x80 + v / 4096 % 64 in
      let d = 0x80 + v / 64 % 64 in
      let f = 0x80 + v % 64 in
      let p : v / 64 / 64 ≡ v / 4096 = omega arith in
      let q : v / 4096 / 64 ≡ v / 262144 = omega arith in
      let e : 262144 * (b - 0xF0) + 4096 * (c - 0x80) + 64 * (d - 0x80) + (f - 0x80) ≡ v = omega arith in
      let s = starts_four b c (omega arith) (omega arith) (λ x. omega arith) (λ x. omega arith) in
      equal e (utf8_4 s (omega arith) (omega arith))

pub utf8_spelled : (v : ℕ) → is_scalar v ≡ true → IsUtf8 (utf8 v) v
unfolding utf8
utf8_spelled v t =
    let r = scalar_range v t in
    let P : List ℕ → Type 0 = λ w. IsUtf8 w v in
    both P (ltb v 0x80) (λ h. utf8_1 (omega (arith, ltb-true v 0x80 h)))
    (λ l. both P (ltb v 0x800) (λ h. two_spelled v (ltb-false v 0x80 l) (ltb-true v 0x800 h))
    (λ l. both P (ltb v 0x10000) (λ h. three_spelled v (ltb-false v 0x800 l) (ltb-true v 0x10000 h) r)
    (λ l. let m = ltb-false v 0x10000 l in four_spelled v m (⊎_elim (λ y. omega arith) (λ y. y.1) r))))
