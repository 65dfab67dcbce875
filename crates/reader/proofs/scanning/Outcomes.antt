-- What the first pass tells of what was read, the answer of Read and its table.
use mathlib.Core.Path.{◌≡◌, refl, sym, ap}
use mathlib.Core.List.{List}
use mathlib.Core.Bool.{Bool, true, false, cond}
use Prim.Native.Nat.{ℕ, ◌≤◌, ◌<◌}
use native.Mathlib.Omega.{arith}
use lib.ListN.{length}
use lib.Seq.{sets}
use lib.Dec.{leb}
use borrow.Author.Tests.{leb-true, le-leb, lt-leb}
use Rattle.tokens.specs.Parse.{Parse, refused, parsed, reading_of}
use Rattle.syntax.specs.Tree.{Node}
use Rattle.syntax.specs.Rows.{size, words}
use Rattle.syntax.specs.Answer.{answer, rows_in, answer_of, table_of}
use Rattle.reader.specs.Scanning.{scan_of}
use Rattle.model.proofs.Basics.{never}
use Rattle.syntax.proofs.Facts.{stored}
use Rattle.std.specs.Prelude.{Ok, Err}
use Rattle.chars.specs.Refusals.{number, refusal}
use Rattle.chars.specs.declared.refusals.Refusal.{Refusal}
use Rattle.reader.specs.Scanning.{scanned}
use Rattle.reader.specs.declared.scanning.Scanned.{Scanned}
use Rattle.chars.specs.declared.refusals.Code.{Code}

-- ---- what the first pass tells

pub read_refused : {A B : Type 0} (f : A → ℕ → B) (o : Parse A) {bad : Refusal} → reading_of f o ≡ Err bad → o ≡ refused bad.code bad.place
read_refused f (refused c p) {bad} q =
    let z : refusal c p ≡ bad = cc in
    ap (λ (x : Refusal). refused x.code x.place) z
read_refused f (parsed n e) q = never (cc)

pub scan_refused : (o : Parse Node) {bad : Refusal} → scan_of o ≡ Err bad → o ≡ refused bad.code bad.place
scan_refused o q = read_refused _ o q

pub scan_value : (o : Parse Node) {e k : ℕ} → scan_of o ≡ Ok (scanned e k) → (n : Node) × (o ≡ parsed n e) × (size n ≡ k)
scan_value (refused c p) q = never (cc)
scan_value (parsed n f) {e} {k} q =
    let z : scanned f (size n) ≡ scanned e k = cc in
    (n, ap (λ (x : Scanned). parsed n x.end) z, ap (λ (x : Scanned). x.rows) z)

-- ---- the answer and the table

pub answer_refused : (which : ℕ) (c : Code) (p : ℕ) (t : List ℕ) → (answer_of which (length t) (refused c p) ≡ answer (number c) which p 0) × (table_of t (refused c p) ≡ t)
unfolding answer_of table_of
answer_refused which c p t = (refl, refl)

module _ (which : ℕ) (t : List ℕ) (n : Node) (e : ℕ) where
  pub answer_full : rows_in (length t) < size n
      → (answer_of which (length t) (parsed n e) ≡ answer 8 which 0 (size n)) × (table_of t (parsed n e) ≡ t)
  unfolding answer_of table_of
  answer_full h = let q = lt-leb (size n) (rows_in (length t)) h in (rw q, rw q)

  pub answer_read : size n ≤ rows_in (length t)
      → (answer_of which (length t) (parsed n e) ≡ answer 0 0 0 (size n)) × (table_of t (parsed n e) ≡ sets t 0 (words n))
  unfolding answer_of table_of
  answer_read h =
      let q = le-leb (size n) (rows_in (length t)) h in
      (rw q, rw q (sym (stored n t (omega arith))))

-- code 0 says that a tree was read and had room, where every refusal has a code above 0
pub answer_zero : (which w : ℕ) (o : Parse Node) → (answer_of which w o).code ≡ 0 → ((c : Code) (p : ℕ) → o ≡ refused c p → 0 < number c)
    → (n : Node) × (e : ℕ) × (o ≡ parsed n e) × (size n ≤ rows_in w)
unfolding answer_of
answer_zero which w (refused c p) z above = absurd (omega (arith, above c p refl))
answer_zero which w (parsed n e) z above = (n, e, refl, room (leb (size n) (rows_in w)) refl z)
  where
    room : (b : Bool) → leb (size n) (rows_in w) ≡ b → (cond b (answer 0 0 0 (size n)) (answer 8 which 0 (size n))).code ≡ 0 → size n ≤ rows_in w
    room true q y = leb-true _ _ q
    room false q y = absurd (omega arith)
