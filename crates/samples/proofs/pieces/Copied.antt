-- How many of some bytes are written.
use Prim.Native.Nat.{ℕ, ◌+◌, ◌≤◌, ◌<◌}
use mathlib.Core.Path.{◌≡◌, sym}
use mathlib.Core.List.{List, [], ◌∷◌, ◌++◌}
use native.Mathlib.Nat.{sub-zero}
use native.Mathlib.Omega.{arith}
use lib.ListN.{length, set}
use lib.Seq.{take-length}
use Rattle.chars.specs.Bytes.{byte_at}
use Rattle.chars.specs.Strings.{part}
use Rattle.tokens.proofs.Facts.{part_one, part_join}
use Rattle.writer.proofs.Facts.{Wrote, wrote_none, wrote_length}
use Rattle.samples.proofs.Lent.{wrote, wrote_as, lent, lent_last}
use Rattle.samples.specs.Writing.{Writes}

-- the first i of the bytes are written
pub record Copied (bytes before : List ℕ) (i : ℕ) (out : List ℕ) : Type 0 where
  pub within : i ≤ length bytes
  pub wrote : Wrote before i out (part bytes 0 i)

module _ {bytes before : List ℕ} where
  pub copied_none : Copied bytes before 0 before
  copied_none = record { within = omega arith; wrote = wrote_none before }

  module _ {i : ℕ} {out : List ℕ} (g : Copied bytes before i out) where
    pub copied_all : length bytes ≤ i → Writes bytes (length bytes) before out
    copied_all l =
        let e : i ≡ length bytes = omega (arith, g.within) in
        let w : part bytes 0 i ≡ bytes = rw (e, sub-zero) (take-length bytes) in
        rw e at (wrote_as g.wrote (sym w))

    module _ (room : length bytes ≤ length before) where
      pub copied_length : length out ≡ length before
      copied_length = wrote_length g.wrote (omega (arith, g.within))

      -- one byte more
      one_more : i < length bytes → part bytes 0 i ++ (byte_at bytes i ∷ []) ≡ part bytes 0 (i + 1)
      one_more l = rw (← (part_one bytes i l)) (part_join bytes 0 i (i + 1) (omega arith) (omega arith))

      pub copied_next : i < length bytes → Copied bytes before (i + 1) (set out i (byte_at bytes i))
      copied_next l = record {
        within = omega arith;
        wrote = wrote (lent_last (lent {more = 1} g.wrote (omega arith)) (omega arith) (byte_at bytes i) (sym (one_more l)));
      }
