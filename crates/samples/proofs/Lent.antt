-- What is lent and written, piece by piece: of a buffer so much is written, and what is left has room for so much more.
use Prim.Native.Nat.{ℕ, ◌+◌, ◌-◌, ◌≤◌, ◌<◌}
use mathlib.Core.Path.{◌≡◌, refl, sym, ap, ◌∙◌}
use mathlib.Core.List.{List, [], ◌∷◌, ◌++◌}
use native.Mathlib.Omega.{arith}
use lib.ListN.{length, length-append, set, length-set}
use borrow.Rule.Slice.PartMut.{mid_of, put_mid}
use Rattle.writer.specs.Compact.{over}
use Rattle.writer.proofs.Facts.{Wrote, wrote_length, left_length, wrote_more, wrote_last}
use Rattle.samples.specs.Writing.{Writes}

-- what is left of a buffer behind n bytes, and the buffer when what is left has become y
abbrev pub left_of : ℕ → List ℕ → List ℕ
left_of n out = mid_of n (length out - n) out

abbrev pub put_back : ℕ → List ℕ → List ℕ → List ℕ
put_back n out y = put_mid n (length out - n) out y

-- ---- the first piece

pub wrote : {w : List ℕ} {n : ℕ} {out out₂ : List ℕ} → Writes w n out out₂ → Wrote out n out₂ w
wrote h = record { count = h.0; holds = h.1 }

pub wrote_one : (out : List ℕ) (x : ℕ) → 0 < length out → Wrote out 1 (set out 0 x) (x ∷ [])
wrote_one [] x l = absurd (omega arith)
wrote_one (u ∷ out) x l = record { count = refl; holds = refl }

pub wrote_two : (out : List ℕ) (x y : ℕ) → 1 < length out → Wrote out 2 (set (set out 0 x) 1 y) (x ∷ y ∷ [])
wrote_two [] x y l = absurd (omega arith)
wrote_two (u ∷ []) x y l = absurd (omega arith)
wrote_two (u ∷ v ∷ out) x y l = record { count = refl; holds = refl }

-- what is written, as it is given back
pub wrote_as : {w done : List ℕ} {n : ℕ} {before out : List ℕ} → Wrote before n out done → w ≡ done → Writes w n before out
wrote_as {before = before} g e = (g.count ∙ ap length (sym e), g.holds ∙ ap (λ (w : List ℕ). over w before) (sym e))

-- ---- and those behind it

-- of a buffer that held `before`, n bytes are written, those of `done`; what is left is lent on, with room for `more`
pub record Lent (before : List ℕ) (n : ℕ) (out done : List ℕ) (more : ℕ) : Type 0 where
  pub wrote : Wrote before n out done
  pub room : n + more ≤ length before
  pub same : length out ≡ length before
  pub left : more ≤ length (left_of n out)

pub lent : {before : List ℕ} {n : ℕ} {out done : List ℕ} {more : ℕ} → Wrote before n out done → n + more ≤ length before → Lent before n out done more
lent g l = record { wrote = g; room = l; same = wrote_length g (omega arith); left = omega (arith, left_length g (omega arith)) }

module _ {before : List ℕ} {n : ℕ} {out done : List ℕ} {more : ℕ} (g : Lent before n out done more) where
  -- one piece more, in what is left
  pub lent_more : (w : List ℕ) {rest : ℕ} → length w + rest ≤ more → {k : ℕ} {y : List ℕ} → Writes w k (left_of n out) y
      → Lent before (n + k) (put_back n out y) (done ++ w) rest
  lent_more w l h = lent (wrote_more g.wrote (omega (arith, g.room)) w h.0 h.1) (omega (arith, g.room, h.0))

  -- the last byte: then w is written
  pub lent_last : 0 < more → {w : List ℕ} (x : ℕ) → w ≡ done ++ (x ∷ []) → Writes w (n + 1) before (set out n x)
  lent_last l x e = (
    omega (arith, g.wrote.count, ap length e, length-append done (x ∷ [])),
    wrote_last g.wrote (omega (arith, g.room)) x (omega (arith, g.room)) ∙ ap (λ (w : List ℕ). over w before) (sym e),
  )

  pub last_same : (x : ℕ) → length (set out n x) ≡ length before
  last_same x = length-set out n x ∙ g.same
