-- Bytes put into a buffer: one piece behind the other, and from place 0 on.
use Prim.Native.Nat.{ℕ, suc, ◌+◌, ◌<◌}
use mathlib.Core.Path.{◌≡◌, refl, sym, ap, ◌∙◌}
use mathlib.Core.List.{List, [], ◌∷◌, ◌++◌}
use native.Mathlib.Numerals.{add-one}
use native.Mathlib.Omega.{arith}
use lib.ListN.{length, get_or, take, set, length-append}
use lib.Seq.{sets, length-sets, take-suc}
use Rattle.explain.specs.Pointers.{fitted}
use Rattle.explain.specs.Writing.{Puts}

sets_append : (u v out : List ℕ) (i : ℕ) → sets out i (u ++ v) ≡ sets (sets out i u) (i + length u) v
sets_append [] v out i = let z : i + 0 ≡ i = omega arith in rw z
sets_append (x ∷ u) v out i =
    let z : suc i + length u ≡ i + suc (length u) = omega arith in
    sets_append u v (set out i x) (suc i) ∙ ap (λ (k : ℕ). sets (sets (set out i x) (suc i) u) k v) z

-- nothing
pub puts_none : (i : ℕ) (out : List ℕ) → Puts [] i i out out
puts_none i out = record { next = omega arith; holds = refl }

-- one piece more
pub puts_append : {u v : List ℕ} {i j k : ℕ} {out out₂ out₃ : List ℕ} → Puts u i j out out₂ → Puts v j k out₂ out₃ → Puts (u ++ v) i k out out₃
puts_append {u} {v} {i} {j} {k} {out} {out₂} {out₃} p q =
    record {
      next = omega (arith, p.next, q.next, length-append u v);
      holds =
          q.holds ∙ ap (λ (o : List ℕ). sets o j v) p.holds ∙ ap (λ (n : ℕ). sets (sets out i u) n v) p.next ∙ sym (sets_append u v out i);
    }

-- bytes one behind the other: the first i of them, and one more
abbrev pub PutsTo : List ℕ → ℕ → ℕ → List ℕ → List ℕ → Type 0
PutsTo bytes at i out out₂ = Puts (take i bytes) at (at + i) out out₂

pub puts_one : (bytes : List ℕ) (at i : ℕ) {r : ℕ} {out out₂ out₃ : List ℕ} → i < length bytes → PutsTo bytes at i out out₂
    → Puts (get_or bytes i 0 ∷ []) (at + i) r out₂ out₃ → PutsTo bytes at (i + 1) out out₃
puts_one bytes at i {r} {out} {out₂} {out₃} l p q =
    let e : at + (i + 1) ≡ r = omega (arith, q.next) in
    let t : take (i + 1) bytes ≡ take i bytes ++ (get_or bytes i 0 ∷ []) = rw add-one (take-suc bytes i 0 l) in
    rw (e, t) (puts_append p q)

pub puts_as : {u w : List ℕ} {i k : ℕ} {out out₂ : List ℕ} → u ≡ w → Puts w i k out out₂ → Puts u i k out out₂
puts_as e p = rw e p

pub puts_length : {w : List ℕ} {i k : ℕ} {out out₂ : List ℕ} → Puts w i k out out₂ → length out₂ ≡ length out
puts_length {w} {i} {k} {out} p = ap length p.holds ∙ length-sets out i w

-- ---- from place 0 on, it is what fits

sets_behind : (w out : List ℕ) (o i : ℕ) → sets (o ∷ out) (suc i) w ≡ o ∷ sets out i w
sets_behind [] out o i = refl
sets_behind (b ∷ w) out o i = sets_behind w (set out i b) o (suc i)

sets_nothing : (w : List ℕ) (i : ℕ) → sets [] i w ≡ []
sets_nothing [] i = refl
sets_nothing (b ∷ w) i = sets_nothing w (suc i)

sets_fitted : (w out : List ℕ) → sets out 0 w ≡ fitted w out
sets_fitted [] out = refl
sets_fitted (b ∷ w) [] = sets_nothing w 1
sets_fitted (b ∷ w) (o ∷ out) = sets_behind w out b 0 ∙ ap (◌∷◌ b) (sets_fitted w out)

pub puts_fitted : {w : List ℕ} {k : ℕ} {out out₂ : List ℕ} → Puts w 0 k out out₂ → (k ≡ length w) × (out₂ ≡ fitted w out)
puts_fitted {w} {k} {out} p = (omega (arith, p.next), p.holds ∙ sets_fitted w out)
