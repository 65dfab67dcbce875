-- One moment more, on plain values. A signed number is read back through its bits.
use Prim.Native.Nat.{ℕ, ◌+◌, ◌≤◌, ◌<◌}
use mathlib.Core.Path.{◌≡◌, refl, sym, ◌∙◌}
use mathlib.Core.List.{List, [], ◌∷◌, ◌++◌}
use native.Mathlib.Omega.{arith}
use lib.Dec.{leb}
use lib.IntN.{ℤ, pos}
use lib.ListN.{length, length-append}
use lib.Signed.{mag}
use mir.Syntax.{w64}
use mir.Val.{SFits, to_z, of_z}
use mir.ValLaws.{to_z-of_z}
use borrow.Author.Tests.{leb-true, leb-false, le-leb, lt-leb}
use Rattle.std.specs.Int.{int_min, int_max}
use Rattle.model.proofs.Basics.{by_test}
use Rattle.schema.specs.Dates.{lesser, greater, least_of, greatest_of, earliest, latest}
use Rattle.schema.specs.Walks.{most_dates, capped, Tallied, Counted}
use Rattle.schema.specs.declared.dates.Dates.{Dates}

-- a number as it is read back
abbrev plain : ℤ → ℤ
plain z = to_z w64 (of_z w64 z)

abbrev Small : ℤ → Type 0
Small z = mag z < 9223372036854775808

back : (z : ℤ) → Small z → plain z ≡ z
back z h = to_z-of_z w64 z (record { sfits = h })

-- ---- the earliest and the latest

least_more : (a k : ℤ) (ms : List ℤ) → least_of a (ms ++ (k ∷ [])) ≡ lesser k (least_of a ms)
unfolding least_of
least_more a k [] = refl
least_more a k (m ∷ ms) = least_more (lesser m a) k ms

greatest_more : (a k : ℤ) (ms : List ℤ) → greatest_of a (ms ++ (k ∷ [])) ≡ greater (greatest_of a ms) k
unfolding greatest_of
greatest_more a k [] = refl
greatest_more a k (m ∷ ms) = greatest_more (greater a m) k ms

earliest_more : (ms : List ℤ) (k : ℤ) → (length ms ≡ 0 → ⊥) → earliest (ms ++ (k ∷ [])) ≡ lesser k (earliest ms)
unfolding earliest
earliest_more [] k h = absurd (h refl)
earliest_more (m ∷ ms) k h = least_more m k ms

latest_more : (ms : List ℤ) (k : ℤ) → (length ms ≡ 0 → ⊥) → latest (ms ++ (k ∷ [])) ≡ greater (latest ms) k
unfolding latest
latest_more [] k h = absurd (h refl)
latest_more (m ∷ ms) k h = greatest_more m k ms

-- ---- the count

capped_more : (n : ℕ) → capped n < most_dates → capped (n + 1) ≡ capped n + 1
capped_more n h =
    by_test (leb n most_dates)
    (λ t. let e : capped n ≡ n = rw t in rw (e, le-leb (n + 1) most_dates (omega (arith, h, e))))
    (λ t. absurd (let e : capped n ≡ most_dates = rw t in omega (arith, h, e)))

capped_full : (n : ℕ) → most_dates ≤ capped n → capped (n + 1) ≡ capped n
capped_full n h =
    by_test (leb n most_dates)
    (λ t. let e : capped n ≡ n = rw t in rw (e, lt-leb (n + 1) most_dates (omega (arith, h, e))) (omega (arith, h, e, leb-true n most_dates t)))
    (λ t. rw (t, lt-leb (n + 1) most_dates (omega (arith, leb-false n most_dates t))))

capped_none : (n : ℕ) → capped n ≡ 0 → n ≡ 0
capped_none n h = by_test (leb n most_dates) (λ t. let e : capped n ≡ n = rw t in sym e ∙ h) (λ t. absurd (let e : capped n ≡ most_dates = rw t in omega arith))

-- ---- `add`

pub tallied_none : Tallied (record { count = 0; earliest = pos 0; latest = pos 0 }) []
unfolding earliest latest
tallied_none = record { count = refl; first = refl; last = refl; first_fits = omega arith; last_fits = omega arith }

module _ {k : ℤ} (f : SFits w64 k) {d : Dates} where
  pub first_counted : d.count ≡ 0 → Counted k d (record { count = 1; earliest = plain k; latest = plain k })
  unfolding earliest latest least_of greatest_of
  first_counted z ms t = go ms (capped_none (length ms) (sym t.count ∙ z))
    where
      go : (ms : List ℤ) → length ms ≡ 0 → Tallied (record { count = 1; earliest = plain k; latest = plain k }) (ms ++ (k ∷ []))
      go [] e = rw (back k f.sfits) (record { count = refl; first = refl; last = refl; first_fits = f.sfits; last_fits = f.sfits })
      go (m ∷ ms) e = absurd (omega arith)

  module _ (z : d.count ≡ 0 → ⊥) {a b : ℤ} (p : a ≡ int_min (plain d.earliest) (plain k)) (q : b ≡ int_max (plain k) (plain d.latest))
      (v : Small a) (w : Small b) where
    -- the count is n
    further : (n : ℕ) (ms : List ℤ) → Tallied d ms → n ≡ capped (length ms + 1) → Tallied (record { count = n; earliest = plain a; latest = plain b }) (ms ++ (k ∷ []))
    further n ms t e =
        let some : length ms ≡ 0 → ⊥ = λ l. z (t.count ∙ rw l) in
        let x : a ≡ lesser k (earliest ms) = p ∙ rw (back k f.sfits, back d.earliest t.first_fits, t.first) in
        let y : b ≡ greater (latest ms) k = q ∙ rw (back k f.sfits, back d.latest t.last_fits, t.last) in
        rw (back a v, back b w) (record {
          count = rw (length-append ms (k ∷ []), e);
          first = x ∙ sym (earliest_more ms k some);
          last = y ∙ sym (latest_more ms k some);
          first_fits = v;
          last_fits = w;
        })

    pub more_counted : d.count < most_dates → Counted k d (record { count = d.count + 1; earliest = plain a; latest = plain b })
    more_counted l ms t = further (d.count + 1) ms t (rw t.count (sym (capped_more (length ms) (rw t.count at l))))

    pub full_counted : most_dates ≤ d.count → Counted k d (record { count = d.count; earliest = plain a; latest = plain b })
    full_counted l ms t = further d.count ms t (rw t.count (sym (capped_full (length ms) (rw t.count at l))))
