-- Bounds of the classes of bytes; a byte that is not 0 lies within the text.
use mathlib.Core.Path.{◌≡◌, refl, subst}
use mathlib.Core.List.{List}
use mathlib.Core.Bool.{true, false, cond, ◌||◌}
use Prim.Native.Nat.{ℕ, ◌-◌, ◌≤◌, ◌<◌}
use native.Mathlib.Decide.{dec_lt}
use native.Mathlib.Omega.{arith}
use lib.ListN.{length, get_or-eq_default}
use lib.Dec.{eqb, leb}
use borrow.Author.Tests.{leb-true, leb-false, eqb-true, le-leb, lt-leb}
pub use Rattle.model.proofs.Basics.{both, and_ways}
use Rattle.model.proofs.Basics.{by_test}
use Rattle.chars.specs.Bytes.{byte_at, from_to, code_of, digit, escape_of, lowest, highest, six_bits}
use Rattle.chars.specs.Refusals.{number}
use Rattle.std.specs.Prelude.{Option, Some, IfSome}

-- within a range, and outside of it
pub inside : (lo hi b : ℕ) → lo ≤ b → b ≤ hi → from_to lo hi b ≡ true
inside lo hi b l h = rw (le-leb lo b l, le-leb b hi h)

pub beside : (lo hi b : ℕ) → (lo ≤ b → hi < b) → from_to lo hi b ≡ false
beside lo hi b n = by_test (leb lo b) (λ t. rw (t, lt-leb b hi (n (leb-true lo b t)))) (λ t. rw t)

pub outside : (lo hi b : ℕ) → from_to lo hi b ≡ false → lo ≤ b → hi < b
outside lo hi b t l = leb-false b hi (rw (le-leb lo b l) at t)

pub in_text : (s : List ℕ) (i : ℕ) → 0 < byte_at s i → i < length s
in_text s i h = go (dec_lt i (length s))
  where
    go : Dec (i < length s) → i < length s
    go (yes l) = l
    go (no n) = let d : byte_at s i ≡ 0 = get_or-eq_default s 0 (omega arith) in omega arith

pub code_bound : (b : ℕ) → (2 ≤ number (code_of b)) × (number (code_of b) ≤ 5)
unfolding code_of
code_bound b = both (λ c. (2 ≤ number c) × (number c ≤ 5)) (from_to 0x80 0xC1 b || leb 0xF5 b) (λ _. omega arith) (λ _. omega arith)

-- a hex digit
abbrev Nibble : ℕ → Option ℕ → Type 0
Nibble b o = IfSome o (λ v. (0 < b) × (v ≤ 15))

digit_some : (b : ℕ) → Nibble b (digit b)
unfolding digit
digit_some b =
    ranged 0x30 0x39 _ (λ l h. (omega arith, omega arith))
    (ranged 0x41 0x46 _ (λ l h. (omega arith, omega arith)) (ranged 0x61 0x66 _ (λ l h. (omega arith, omega arith)) tt))
  where
    ranged : (lo hi : ℕ) {v : ℕ} (o : Option ℕ) → (lo ≤ b → b ≤ hi → Nibble b (Some v)) → Nibble b o → Nibble b (cond (from_to lo hi b) (Some v) o)
    ranged lo hi o f g =
        both (Nibble b) (from_to lo hi b)
        (λ t. and_ways (leb lo b) (leb b hi) t (λ l h. f (leb-true lo b l) (leb-true b hi h)))
        (λ _. g)

pub digit_ways : (b : ℕ) {v : ℕ} → digit b ≡ Some v → (0 < b) × (v ≤ 15)
digit_ways b e = rw e at (digit_some b)

pub digit_in : (s : List ℕ) (i : ℕ) {v : ℕ} → digit (byte_at s i) ≡ Some v → i < length s
digit_in s i e = in_text s i (digit_ways (byte_at s i) e).0

-- a byte that continues a character
abbrev Six : ℕ → ℕ → ℕ → Option ℕ → Type 0
Six b lo hi o = IfSome o (λ v. (lo ≤ b) × (b ≤ hi) × (v ≡ b - 0x80))

six_some : (b lo hi : ℕ) → Six b lo hi (six_bits b lo hi)
unfolding six_bits
six_some b lo hi =
    both (Six b lo hi) (from_to lo hi b)
    (λ t. and_ways (leb lo b) (leb b hi) t (λ l m. (leb-true lo b l, leb-true b hi m, refl)))
    (λ _. tt)

pub six_ways : (b lo hi : ℕ) {v : ℕ} → six_bits b lo hi ≡ Some v → (lo ≤ b) × (b ≤ hi) × (v ≡ b - 0x80)
six_ways b lo hi e = rw e at (six_some b lo hi)

pub lowest_least : (b : ℕ) → 0x80 ≤ lowest b
unfolding lowest
lowest_least b = both (λ x. 0x80 ≤ x) (eqb b 0xE0) (λ _. omega arith) (λ _. both (λ x. 0x80 ≤ x) (eqb b 0xF0) (λ _. omega arith) (λ _. omega arith))

pub highest_most : (b : ℕ) → highest b ≤ 0xBF
unfolding highest
highest_most b = both (λ x. x ≤ 0xBF) (eqb b 0xED) (λ _. omega arith) (λ _. both (λ x. x ≤ 0xBF) (eqb b 0xF4) (λ _. omega arith) (λ _. omega arith))

pub lowest_of : (b c : ℕ) → lowest b ≤ c → (b ≡ 0xE0 → 0xA0 ≤ c) × (b ≡ 0xF0 → 0x90 ≤ c)
unfolding lowest
lowest_of b c h = (λ e. subst (λ (x : ℕ). lowest x ≤ c) e h, λ e. subst (λ (x : ℕ). lowest x ≤ c) e h)

pub highest_of : (b c : ℕ) → c ≤ highest b → (b ≡ 0xED → c ≤ 0x9F) × (b ≡ 0xF4 → c ≤ 0x8F)
unfolding highest
highest_of b c h = (λ e. subst (λ (x : ℕ). c ≤ highest x) e h, λ e. subst (λ (x : ℕ). c ≤ highest x) e h)

abbrev Small : ℕ → Option ℕ → Type 0
Small b o = IfSome o (λ v. (0 < b) × (v ≤ 0x7F))

small : (b k v : ℕ) (o : Option ℕ) → 0 < k → v ≤ 0x7F → Small b o → Small b (cond (eqb b k) (Some v) o)
small b k v o l h g = both (Small b) (eqb b k) (λ t. let e : b ≡ k = eqb-true b k t in (omega arith, h)) (λ _. g)

-- a letter that names a character, which is a small one
escape_some : (b : ℕ) → Small b (escape_of b)
unfolding escape_of
escape_some b =
    small b 0x22 _ _ (omega arith) (omega arith) (small b 0x5C _ _ (omega arith) (omega arith) (small b 0x2F _ _ (omega arith) (omega arith)
    (small b 0x62 _ _ (omega arith) (omega arith) (small b 0x66 _ _ (omega arith) (omega arith) (small b 0x6E _ _ (omega arith) (omega arith)
    (small b 0x72 _ _ (omega arith) (omega arith) (small b 0x74 _ _ (omega arith) (omega arith) tt)))))))

pub escape_ways : (b : ℕ) {v : ℕ} → escape_of b ≡ Some v → (0 < b) × (v ≤ 0x7F)
escape_ways b e = rw e at (escape_some b)
