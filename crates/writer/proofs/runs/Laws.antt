-- Copying: the bytes of a run that were passed are copied.
use Prim.Native.Nat.{ℕ, ◌+◌, ◌-◌, ◌≤◌, ◌<◌, max}
use mathlib.Core.Path.{◌≡◌, sym, ap, ◌∙◌}
use mathlib.Core.Bool.{Bool, true}
use mathlib.Core.List.{List}
use native.Mathlib.Omega.{arith}
use lib.ListN.{length, set, length-take, length-drop}
use lib.Dec.{leb}
use borrow.Author.Tests.{leb-true, leb-false}
use Rattle.model.proofs.Basics.{by_test}
use Rattle.chars.specs.Bytes.{byte_at}
use Rattle.chars.specs.Runs.{run}
use Rattle.chars.specs.Strings.{part}
use Rattle.chars.proofs.Facts.{run_end, run_next, run-from, run_within}
use Rattle.tokens.proofs.Facts.{part_one, part_join}
use Rattle.writer.specs.Compact.{over}
use Rattle.writer.proofs.Over.{length_over, over_byte}

-- the run from `at` on goes on at i, its bytes up to there are written, and there is room for all of them
pub record Copying (p : ℕ → Bool) (s : List ℕ) (at : ℕ) (before : List ℕ) (i : ℕ) (out : List ℕ) : Type 0 where
  pub ahead : at ≤ i
  pub within : i ≤ max at (length s)
  pub goes-on : run p s at ≡ run p s i
  pub holds : out ≡ over (part s at i) before
  pub room : run p s at ≤ at + length before

pub length_part : (s : List ℕ) (a e : ℕ) → a ≤ e → e ≤ max a (length s) → length (part s a e) ≡ e - a
length_part s a e l h = simp (length-take, length-drop) (omega arith)

-- a run ends within the text, or where it begins
pub run_most : (p : ℕ → Bool) (s : List ℕ) (i : ℕ) → run p s i ≤ max i (length s)
run_most p s i =
    by_test (leb i (length s)) (λ t. omega (arith, run_within p s i (leb-true i (length s) t)))
    (λ f. let l : length s < i = leb-false i (length s) f in omega (arith, run_end p s i (omega arith)))

pub run_length : (p : ℕ → Bool) (s : List ℕ) (i : ℕ) → length (part s i (run p s i)) ≡ run p s i - i
run_length p s i = length_part s i (run p s i) (run-from p s i) (run_most p s i)

-- room for its bytes is room for it
pub run_room : (p : ℕ → Bool) (s : List ℕ) (i m : ℕ) → length (part s i (run p s i)) ≤ m → run p s i ≤ i + m
run_room p s i m h = omega (arith, run_length p s i, run-from p s i)

module _ {p : ℕ → Bool} {s : List ℕ} {at : ℕ} {before : List ℕ} {i : ℕ} {out : List ℕ} (g : Copying p s at before i out) where
  fits : length (part s at i) ≤ length before
  fits = omega (arith, length_part s at i g.ahead g.within, g.goes-on, run-from p s i)

  copying_length : length out ≡ length before
  copying_length = ap length g.holds ∙ length_over before (part s at i) fits

  -- the run has ended
  pub copying_done : run p s i ≡ i → (i ≡ run p s at) × (out ≡ over (part s at (run p s at)) before)
  copying_done e = let z : run p s at ≡ i = g.goes-on ∙ e in (sym z, rw z g.holds)

  -- or goes on
  module _ (l : i < length s) (t : p (byte_at s i) ≡ true) where
    -- there is room for the next byte
    pub copying_room : i - at < length out
    copying_room = omega (arith, copying_length, g.ahead, g.goes-on, run_next p s i l t, run-from p s (i + 1))

    pub copying_next : Copying p s at before (i + 1) (set out (i - at) (byte_at s i))
    copying_next =
        let n : i - at ≡ length (part s at i) = sym (length_part s at i g.ahead g.within) in
        record {
          ahead = omega (arith, g.ahead);
          within = omega arith;
          goes-on = g.goes-on ∙ run_next p s i l t;
          holds = rw (
            g.holds,
            over_byte before (part s at i) (i - at) (byte_at s i) n (omega (arith, copying_room, copying_length)),
            ← (part_one s i l),
            part_join s at i (i + 1) g.ahead (omega arith),
          );
          room = g.room;
        }
