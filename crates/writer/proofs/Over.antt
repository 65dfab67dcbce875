-- `over`, a buffer with bytes written from byte 0: one byte more, one piece more.
use Prim.Native.Nat.{ℕ, ◌+◌, ◌-◌, ◌≤◌, ◌<◌}
use mathlib.Core.Path.{◌≡◌, refl, sym, ap, ◌∙◌}
use mathlib.Core.List.{List, [], ◌∷◌, ◌++◌, append_assoc, append-nil}
use native.Mathlib.Numerals.{add-one}
use native.Mathlib.Omega.{arith}
use lib.ListN.{length, take, drop, set, length-append, length-drop}
use lib.Seq.{sets, sets-eq, set_at, take_at, drop_at, drop-cons, drop-drop, drop-set-lt, take-length, drop-length}
use borrow.Rule.Slice.PartMut.{mid_of, put_mid}
use Rattle.writer.specs.Compact.{over}

module _ (out : List ℕ) where
  pub length_over : (w : List ℕ) → length w ≤ length out → length (over w out) ≡ length out
  length_over w h = simp (length-append, length-drop) (omega arith)

  -- bytes that are stored one behind the other
  pub over_sets : (w : List ℕ) → length w ≤ length out → sets out 0 w ≡ over w out
  over_sets w h = let z : 0 + length w ≡ length w = omega arith in sets-eq w out 0 (omega arith) ∙ ap (λ (n : ℕ). w ++ drop n out) z

  -- the same of bytes that are equal to these
  pub over_as : {u w : List ℕ} → u ≡ w → length u ≤ length out → (length w ≡ length u) × (sets out 0 w ≡ over u out)
  over_as {u} {w} e h = rw e (refl, over_sets w (omega (arith, ap length e)))

  -- what is told of w, of bytes that are equal to w
  pub over_of : {u w : List ℕ} {r : ℕ} {o : List ℕ} → u ≡ w → (r ≡ length w) × (o ≡ over w out) → (r ≡ length u) × (o ≡ over u out)
  over_of e h = rw e h

  -- one byte more
  pub over_byte : (w : List ℕ) (n x : ℕ) → n ≡ length w → n < length out → set (over w out) n x ≡ over (w ++ (x ∷ [])) out
  over_byte w n x e h =
      let z : length (w ++ (x ∷ [])) ≡ length w + 1 = length-append w (x ∷ []) in
      let l : length w < length out = omega arith in
      rw (z, add-one, drop-cons out (length w) 0 l, append_assoc) (set_at w _ _ x n (sym e))

-- a first byte that is written again
pub over_first : (out w : List ℕ) (x : ℕ) → 0 < length w → over w (set out 0 x) ≡ over w out
over_first out w x l = rw (drop-set-lt (length w) out 0 x l)

-- ---- piece by piece

-- of a buffer that held `before`, n bytes are written: those of `done`
pub record Wrote (before : List ℕ) (n : ℕ) (out done : List ℕ) : Type 0 where
  pub count : n ≡ length done
  pub holds : out ≡ over done before

pub wrote_none : (before : List ℕ) → Wrote before 0 before []
wrote_none before = record { count = refl; holds = refl }

pub wrote_byte : (out : List ℕ) (x : ℕ) → 0 < length out → Wrote (set out 0 x) 1 (set out 0 x) (x ∷ [])
wrote_byte [] x l = absurd (omega arith)
wrote_byte (y ∷ out) x l = record { count = refl; holds = refl }

module _ {before : List ℕ} {n : ℕ} {out done : List ℕ} (g : Wrote before n out done) (room : n ≤ length before) where
  pub wrote_length : length out ≡ length before
  wrote_length = ap length g.holds ∙ length_over before done (omega (arith, g.count))

  rest : drop n out ≡ drop n before
  rest = ap (drop n) g.holds ∙ drop_at done (drop (length done) before) n (sym g.count) ∙ ap (λ (k : ℕ). drop k before) (sym g.count)

  -- what is left of the buffer, from where the last piece ended
  left : mid_of n (length out - n) out ≡ drop n before
  left = ap (λ (k : ℕ). take k (drop n out)) (sym (length-drop n out)) ∙ take-length (drop n out) ∙ rest

  pub left_length : length (mid_of n (length out - n) out) ≡ length before - n
  left_length = ap length left ∙ length-drop n before

  -- it is lent to the writer of one piece more
  pub wrote_more : (w : List ℕ) {k : ℕ} {y : List ℕ} → k ≡ length w → y ≡ over w (mid_of n (length out - n) out)
      → Wrote before (n + k) (put_mid n (length out - n) out y) (done ++ w)
  wrote_more w {k} {y} e q =
      let none : drop (length out - n) (drop n out) ≡ [] = ap (λ (k : ℕ). drop k (drop n out)) (sym (length-drop n out)) ∙ drop-length (drop n out) in
      let front : take n out ≡ done = ap (take n) g.holds ∙ take_at done (drop (length done) before) n (sym g.count) in
      record {
        count = omega (arith, g.count, length-append done w);
        holds = rw (none, front, q, left, append-nil, drop-drop, g.count, length-append, append_assoc);
      }

  -- one byte more
  pub wrote_last : (x : ℕ) → n < length before → set out n x ≡ over (done ++ (x ∷ [])) before
  wrote_last x l = ap (λ (u : List ℕ). set u n x) g.holds ∙ over_byte before done n x g.count l
