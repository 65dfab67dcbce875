-- Laws of tests, of tests that all characters of a text pass, and of the equality of texts.
use Prim.Native.Nat.{ℕ}
use mathlib.Core.Path.{◌≡◌, refl, sym, ap, ap₂, ◌∙◌}
use mathlib.Core.Logic.{◌⊎◌, inl, inr}
use mathlib.Core.Bool.{Bool, true, false, not, cond, ◌&&◌, ◌||◌, false≢true, true≢false, and-eq-true_iff, and_assoc}
use mathlib.Core.List.{List, [], ◌∷◌, ◌++◌}
use native.Mathlib.Omega.{arith}
use lib.Dec.{T, eqb, eqb→eq, eqb_refl}
use Rattle.model.specs.Text.{all, same}

pub true→T : (b : Bool) → b ≡ true → T b
true→T true e = tt
true→T false e = absurd (false≢true e)

pub T→true : (b : Bool) → T b → b ≡ true
T→true true t = refl
T→true false t = absurd t

pub or-true : (x y : Bool) → x || y ≡ true → (x ≡ true) ⊎ (y ≡ true)
or-true true y e = inl refl
or-true false y e = inr e

pub or-false : (x y : Bool) → x || y ≡ false → (x ≡ false) × (y ≡ false)
or-false true y e = absurd (true≢false e)
or-false false y e = (refl, e)

pub not-true : (x : Bool) → not x ≡ true → x ≡ false
not-true true e = absurd (false≢true e)
not-true false e = refl

pub not-false : (x : Bool) → not x ≡ false → x ≡ true
not-false true e = refl
not-false false e = absurd (true≢false e)

-- where code asks `!f(x)`: r is what f returned, b the test that it promises
pub fails : {r b : Bool} → r ≡ b → not r ≡ true → b ≡ false
fails {r} e h = sym e ∙ not-true r h

pub passes : {r b : Bool} → r ≡ b → not r ≡ false → b ≡ true
passes {r} e h = sym e ∙ not-false r h

pub clash : {A : Type 0} (x : Bool) → x ≡ true → x ≡ false → A
clash x p q = absurd (true≢false (sym p ∙ q))

-- a case that cannot be: equations that clash give 0 ≡ 1, mostly by `cc`
pub never : {A : Type 0} → ◌≡◌ {A = ℕ} 0 1 → A
never z = absurd (omega arith)

pub same_eq : (a b : List ℕ) → same a b ≡ true → a ≡ b
same_eq [] [] e = refl
same_eq [] (y ∷ ys) e = absurd (false≢true e)
same_eq (x ∷ xs) [] e = absurd (false≢true e)
same_eq (x ∷ xs) (y ∷ ys) e =
    let h = (and-eq-true_iff (eqb x y) (same xs ys)).0 e in
    ap₂ ◌∷◌ (eqb→eq x y (true→T (eqb x y) h.0)) (same_eq xs ys h.1)

pub same_refl : (a : List ℕ) → same a a ≡ true
same_refl [] = refl
same_refl (x ∷ xs) = (and-eq-true_iff (eqb x x) (same xs xs)).1 (T→true (eqb x x) (eqb_refl x), same_refl xs)

pub same_of : (a b : List ℕ) → a ≡ b → same a b ≡ true
same_of a b p = rw p (same_refl b)

pub or_left : (x y : Bool) → x ≡ true → x || y ≡ true
or_left x y e = rw e refl

pub or_right : (x y : Bool) → y ≡ true → x || y ≡ true
or_right true y e = refl
or_right false y e = e

-- a test that implies a false one is false
pub false_of : (x y : Bool) → (x ≡ true → y ≡ true) → y ≡ false → x ≡ false
false_of true y f e = clash y (f refl) e
false_of false y f e = refl

-- a choice has a property that both its sides have
pub both {ℓ m} : {A : Type ℓ} (P : A → Type m) (b : Bool) {x y : A} → (b ≡ true → P x) → (b ≡ false → P y) → P (cond b x y)
both P true f g = f refl
both P false f g = g refl

-- both parts of a conjunction that holds
pub and_ways : {P : Type 0} (a b : Bool) → a && b ≡ true → (a ≡ true → b ≡ true → P) → P
and_ways a b t f = let h = (and-eq-true_iff a b).0 t in f h.0 h.1

-- every character of both texts passes the test
pub all_append : (p : ℕ → Bool) (s t : List ℕ) → all p (s ++ t) ≡ (all p s && all p t)
all_append p [] t = refl
all_append p (c ∷ s) t = ap (λ (b : Bool). p c && b) (all_append p s t) ∙ sym (and_assoc (p c) (all p s) (all p t))

-- what passes one test passes another
pub all_imp : (p q : ℕ → Bool) → ((c : ℕ) → p c ≡ true → q c ≡ true) → (s : List ℕ) → all p s ≡ true → all q s ≡ true
all_imp p q f [] h = refl
all_imp p q f (c ∷ s) h = and_ways (p c) (all p s) h (λ t u. rw (f c t) (all_imp p q f s u))

-- by cases on a test
pub by_test : {A : Type 0} (b : Bool) → (b ≡ true → A) → (b ≡ false → A) → A
by_test true f g = f refl
by_test false f g = g refl

-- two texts are the same in either order
pub same_comm : (a b : List ℕ) → same a b ≡ same b a
same_comm a b =
    by_test (same a b) (λ t. t ∙ sym (same_of b a (sym (same_eq a b t))))
    (λ f. f ∙ sym (false_of (same b a) (same a b) (λ t. same_of a b (sym (same_eq b a t))) f))
