-- A number in decimal: its last digit behind the others, and how many there are.
use Prim.Native.Nat.{ℕ, zero, suc, ◌+◌, ◌*◌, ◌/◌, ◌%◌, ◌≤◌, ◌<◌}
use mathlib.Core.Path.{◌≡◌, refl}
use mathlib.Core.List.{List, [], ◌∷◌, ◌++◌}
use native.Mathlib.Omega.{arith}
use lib.ListN.{length, length-append}
use lib.Dec.{ltb}
use borrow.Author.Tests.{lt-ltb, le-ltb}
use Rattle.model.proofs.Basics.{both}
use Rattle.explain.specs.Pointers.{digits, decimal}
use Rattle.explain.specs.Writing.{Puts}

-- any number that is at least n will do
digits_enough : (k j n : ℕ) → n ≤ k → n ≤ j → digits k n ≡ digits j n
unfolding digits
digits_enough zero zero n h g = refl
digits_enough zero (suc j) n h g = rw (lt-ltb n 10 (omega arith))
digits_enough (suc k) zero n h g = rw (lt-ltb n 10 (omega arith))
digits_enough (suc k) (suc j) n h g = rw (digits_enough k j (n / 10) (omega arith) (omega arith))

pub decimal_small : (n : ℕ) → n < 10 → decimal n ≡ (0x30 + n % 10) ∷ []
unfolding digits
decimal_small zero l = refl
decimal_small (suc n) l = let z : suc n % 10 ≡ suc n = omega arith in rw (lt-ltb (suc n) 10 l, z)

pub decimal_large : (n : ℕ) → 10 ≤ n → decimal n ≡ decimal (n / 10) ++ ((0x30 + n % 10) ∷ [])
unfolding digits
decimal_large zero l = absurd (omega arith)
decimal_large (suc n) l = rw (le-ltb (suc n) 10 l, digits_enough n (suc n / 10) (suc n / 10) (omega arith) (omega arith))

-- ten, d times over
abbrev tens : ℕ → ℕ
tens zero = 10
tens (suc d) = 10 * tens d

digits_few : (d k n : ℕ) → n < tens d → length (digits k n) ≤ suc d
unfolding digits
digits_few d zero n l = omega arith
digits_few zero (suc k) n l = rw (lt-ltb n 10 l) (omega arith)
digits_few (suc d) (suc k) n l =
    both (λ (w : List ℕ). length w ≤ suc (suc d)) (ltb n 10)
    (λ t. omega arith)
    (λ t. omega (arith, digits_few d k (n / 10) (omega arith), length-append (digits k (n / 10)) ((0x30 + n % 10) ∷ [])))

pub decimal_few : (n : ℕ) → n < 0x10000000000000000 → length (decimal n) ≤ 20
decimal_few n l = digits_few 19 n n (omega arith)

pub decimal_near : {n i k : ℕ} {out out₂ : List ℕ} → Puts (decimal n) i k out out₂ → n < 0x10000000000000000 → k ≤ i + 20
decimal_near {n} p l = omega (arith, p.next, decimal_few n l)
