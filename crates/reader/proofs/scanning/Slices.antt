-- Parts of a list that is written: what stays as it was, and what stands where it was written.
use mathlib.Core.Path.{◌≡◌, sym, ap, ◌∙◌}
use mathlib.Core.List.{List, ◌∷◌, ◌++◌}
use Prim.Native.Nat.{ℕ, suc, ◌+◌, ◌≤◌, ◌<◌}
use native.Mathlib.Numerals.{add-one}
use native.Mathlib.Omega.{arith}
use lib.ListN.{length, take, drop, get_or, set, length-set, take-append-drop}
use lib.Seq.{slice, slice-cons, take-take, take-set-le, take-set-lt, drop-set-lt, drop-append-le, get_or-set_same, length-take-le}
use Rattle.marks.proofs.Facts.{same_below}

-- a part lies where nothing was written
pub slice_kept : (f t : ℕ) (l₂ l : List ℕ) → take t l₂ ≡ take t l → slice f t l₂ ≡ slice f t l
slice_kept f t l₂ l k = ap (drop f) k

-- two parts that meet
pub slice_meet : (f m t : ℕ) (l : List ℕ) → f ≤ m → m ≤ t → t ≤ length l → slice f t l ≡ slice f m l ++ slice m t l
slice_meet f m t l a b c =
    let w : f ≤ length (take m (take t l)) = omega (arith, length-take-le m (take t l) (omega (arith, length-take-le t l c))) in
    ap (drop f) (sym (take-append-drop m (take t l)))
    ∙ drop-append-le f (take m (take t l)) (drop m (take t l)) w
    ∙ ap (λ (y : List ℕ). drop f y ++ slice m t l) (take-take m t l b)

-- the first of a part was written last
pub slice_header : (r t x : ℕ) (l : List ℕ) → r < t → t ≤ length l → slice r t (set l r x) ≡ x ∷ slice (r + 1) t l
slice_header r t x l a b =
    slice-cons r t (set l r x) 0 a (omega (arith, length-set l r x))
    ∙ ap (λ (y : ℕ). y ∷ slice (suc r) t (set l r x)) (get_or-set_same l r x 0 (omega arith))
    ∙ ap (λ (ys : List ℕ). x ∷ ys) (ap (drop (suc r)) (take-set-lt t l r x a) ∙ drop-set-lt (suc r) (take t l) r x (omega arith))
    ∙ rw add-one

-- what stands below n stands below any smaller m
pub kept_below : (m n : ℕ) (l₂ l : List ℕ) → m ≤ n → take n l₂ ≡ take n l → take m l₂ ≡ take m l
kept_below m n l₂ l h e = sym (take-take m n l₂ h) ∙ ap (take m) e ∙ take-take m n l h

-- x stays where it was written while only what is above it changes
pub kept_write : (l l₂ : List ℕ) (t x : ℕ) → t < length l → take (t + 1) l₂ ≡ take (t + 1) (set l t x) → (take t l₂ ≡ take t l) × (get_or l₂ t 0 ≡ x)
kept_write l l₂ t x b k = (
  kept_below t (t + 1) l₂ (set l t x) (omega arith) k ∙ take-set-le t l t x (omega arith),
  same_below (t + 1) l₂ (set l t x) k t (omega arith) ∙ get_or-set_same l t x 0 b,
)
