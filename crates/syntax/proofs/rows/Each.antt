-- What holds of the things that stand in rows, one behind the other.
use mathlib.Core.Path.{◌≡◌}
use mathlib.Core.List.{List, [], ◌∷◌, ◌++◌}
use Prim.Native.Nat.{ℕ, zero, suc, ◌+◌, ◌<◌}
use native.Mathlib.Omega.{arith}
use lib.ListN.{length, get_or}

module _ {A : Type 0} (P : ℕ → A → Type 0) where
  abbrev pub Each : ℕ → List A → Type 0
  Each r [] = Unit
  Each r (x ∷ xs) = P r x × Each (r + 1) xs

  pub each : (d : A) (r : ℕ) (xs : List A) → ((j : ℕ) → j < length xs → P (r + j) (get_or xs j d)) → Each r xs
  each d r [] h = tt
  each d r (x ∷ xs) h = (
    (let e : r + 0 ≡ r = omega arith in rw e at (h 0 (omega arith))),
    each d (r + 1) xs (λ j l. let e : r + suc j ≡ r + 1 + j = omega arith in rw e at (h (suc j) (omega arith))),
  )

  pub each_left : (r : ℕ) (xs ys : List A) → Each r (xs ++ ys) → Each r xs
  each_left r [] ys h = tt
  each_left r (x ∷ xs) ys h = (h.0, each_left (r + 1) xs ys h.1)

  pub each_right : (r : ℕ) (xs ys : List A) {k : ℕ} → k ≡ r + length xs → Each r (xs ++ ys) → Each k ys
  each_right r [] ys {k} e h = let q : k ≡ r = omega arith in rw q h
  each_right r (x ∷ xs) ys e h = each_right (r + 1) xs ys (omega arith) h.1

  pub each_join : (r : ℕ) (xs ys : List A) {k : ℕ} → k ≡ r + length xs → Each r xs → Each k ys → Each r (xs ++ ys)
  each_join r [] ys {k} e g h = let q : r ≡ k = omega arith in rw q h
  each_join r (x ∷ xs) ys e g h = (g.0, each_join (r + 1) xs ys (omega arith) g.1 h)

  pub each_at : (d : A) (r : ℕ) (xs : List A) → Each r xs → (j : ℕ) → j < length xs → P (r + j) (get_or xs j d)
  each_at d r [] h j l = absurd (omega arith)
  each_at d r (x ∷ xs) h zero l = let e : r + 0 ≡ r = omega arith in rw e h.0
  each_at d r (x ∷ xs) h (suc j) l = let e : r + suc j ≡ r + 1 + j = omega arith in rw e (each_at d (r + 1) xs h.1 j (omega arith))
