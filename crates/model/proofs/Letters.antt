-- For code: the letters of a fresh name, by counting how many of the names begin with those found so far.
use mathlib.Core.Path.{◌≡◌, refl, ap, ◌∙◌}
use mathlib.Core.List.{List, [], ◌∷◌, ◌++◌}
use mathlib.Core.Bool.{cond}
use Prim.Native.Nat.{ℕ, zero, suc, ◌*◌, ◌≤◌, ◌<◌}
use native.Mathlib.Omega.{arith}
use lib.ListN.{length}
use lib.Dec.{leb, eqb}
use Rattle.model.specs.Definition.{Def}
use Rattle.model.specs.Witness.{following, behind, rarer, avoiding, own_names, fresh, begins, counted}
use Rattle.model.proofs.Basics.{by_test}
use Rattle.model.proofs.Samples.{half}

-- what follows p in the names that begin with it
abbrev behind_all : List ℕ → List (List ℕ) → List (List ℕ)
behind_all [] ns = ns
behind_all (c ∷ p) ns = behind_all p (behind c ns)

behind_more : (p : List ℕ) (c : ℕ) (ns : List (List ℕ)) → behind c (behind_all p ns) ≡ behind_all (p ++ c ∷ []) ns
behind_more [] c ns = refl
behind_more (b ∷ p) c ns = behind_more p c (behind b ns)

counted_all : (ns : List (List ℕ)) → length ns ≡ counted [] ns
counted_all [] = refl
counted_all (n ∷ ns) = ap suc (counted_all ns)

counted_following : (c : ℕ) (p n : List ℕ) (ns : List (List ℕ)) → counted p (following c n ns) ≡ cond (begins (c ∷ p) n) (suc (counted p ns)) (counted p ns)
counted_following c p [] ns = refl
counted_following c p (x ∷ n) ns = by_test (eqb x c) (λ t. rw t) (λ f. rw f)

counted_behind : (c : ℕ) (p : List ℕ) (ns : List (List ℕ)) → counted p (behind c ns) ≡ counted (c ∷ p) ns
counted_behind c p [] = refl
counted_behind c p (n ∷ ns) = counted_following c p n (behind c ns) ∙ ap (λ (k : ℕ). cond (begins (c ∷ p) n) (suc k) k) (counted_behind c p ns)

counts : (p : List ℕ) (ns : List (List ℕ)) → length (behind_all p ns) ≡ counted p ns
counts [] ns = counted_all ns
counts (c ∷ p) ns = counts p (behind c ns) ∙ counted_behind c p ns

-- the letter that fewer of the names have behind p
abbrev pub next_letter : List ℕ → List (List ℕ) → ℕ
next_letter p ns = cond (leb (counted (p ++ 0x61 ∷ []) ns) (counted (p ++ 0x62 ∷ []) ns)) 0x61 0x62

rarer_counts : (p : List ℕ) (ns : List (List ℕ)) → rarer (behind_all p ns) ≡ next_letter p ns
rarer_counts p ns =
    rw (ap length (behind_more p 0x61 ns) ∙ counts (p ++ 0x61 ∷ []) ns, ap length (behind_more p 0x62 ns) ∙ counts (p ++ 0x62 ∷ []) ns)

-- fewer of the names go on with it
pub letters_fewer : (p : List ℕ) (ns : List (List ℕ)) → 0 < counted p ns → counted (p ++ next_letter p ns ∷ []) ns < counted p ns
letters_fewer p ns l =
    let h : 2 * length (behind (next_letter p ns) (behind_all p ns)) ≤ length (behind_all p ns) = rw (rarer_counts p ns) at (half (behind_all p ns)) in
    omega (arith, ap length (behind_more p (next_letter p ns) ns), counts (p ++ next_letter p ns ∷ []) ns, counts p ns)

-- the letters from behind p on, k at most
abbrev pub letters_from : ℕ → List ℕ → List (List ℕ) → List ℕ
letters_from k p ns = avoiding k (behind_all p ns)

module _ (k : ℕ) (p : List ℕ) (ns : List (List ℕ)) where
  pub letters_stop : counted p ns ≡ 0 → letters_from k p ns ≡ []
  letters_stop z = go k (behind_all p ns) (counts p ns ∙ z)
    where
      go : (k : ℕ) (ms : List (List ℕ)) → length ms ≡ 0 → avoiding k ms ≡ []
      go zero ms z = refl
      go (suc k) [] z = refl
      go (suc k) (m ∷ ms) z = absurd (omega arith)

  pub letters_next : 0 < counted p ns → letters_from (suc k) p ns ≡ next_letter p ns ∷ letters_from k (p ++ next_letter p ns ∷ []) ns
  letters_next l =
      go (behind_all p ns) (omega (arith, counts p ns))
      ∙ rw (rarer_counts p ns) (ap (λ (ms : List (List ℕ)). next_letter p ns ∷ avoiding k ms) (behind_more p (next_letter p ns) ns))
    where
      go : (ms : List (List ℕ)) → 0 < length ms → avoiding (suc k) ms ≡ rarer ms ∷ avoiding k (behind (rarer ms) ms)
      go [] l = absurd (omega arith)
      go (m ∷ ms) l = refl

pub fresh_letters : (a : Def) → fresh a ≡ 0x61 ∷ letters_from (length (own_names a)) (0x61 ∷ []) (own_names a)
fresh_letters a = refl
