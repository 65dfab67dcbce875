-- A string against DateTime, on plain values: a law for a date, and one for no date (01, "Definitions": "First misfit"; 02, L3).
use Prim.Native.Nat.{ℕ}
use mathlib.Core.Path.{◌≡◌, sym, ap, subst, ◌∙◌}
use mathlib.Core.Bool.{true, false}
use mathlib.Core.List.{List, [], ◌∷◌}
use lib.Dec.{eqb}
use lib.IntN.{ℤ}
use mir.Syntax.{w64}
use mir.Val.{SFits, to_z, of_z}
use mir.ValLaws.{to_z-of_z}
use borrow.Author.Tests.{eqb-true}
use Rattle.std.specs.Prelude.{Option, Some, None, Ok, Err}
use Rattle.model.specs.Date.{is_date, moment}
use Rattle.model.proofs.Basics.{by_test}
use Rattle.date.specs.Moments.{moment_of}
use Rattle.syntax.specs.Grammar.{name_of}
use Rattle.syntax.specs.Holding.{word}
use Rattle.rows.specs.Records.{Reads}
use Rattle.rows.specs.declared.records.Record.{Record}
use Rattle.schema.specs.Judging.{mismatch, Judgement, nothing, unless}
use Rattle.schema.specs.Walks.{Counted, JudgedDate}
use Rattle.schema.specs.declared.dates.Dates.{Dates}
use Rattle.schema.specs.declared.judging.Mismatch.{Mismatch}
use Rattle.schema.specs.declared.judging.MismatchCode.TheVariants.{NoDate}
use Rattle.rows.proofs.Facts.{string_read}
use Rattle.schema.proofs.judging.Laws.{passed, walks_fails, walks_date}

-- what is told of a string by its moment
dated : (c : List ℕ) (z : ℤ) → moment_of c ≡ Some z → (is_date c ≡ true) × (moment c ≡ z)
dated c z q = by_test (is_date c)
    (λ t. let e : Some (moment c) ≡ Some z = rw t at q in (t, cc))
    (λ t. let e : None ≡ Some z = rw t at q in cc)

undated : (c : List ℕ) → moment_of c ≡ None → is_date c ≡ false
undated c q = by_test (is_date c) (λ t. let e : Some (moment c) ≡ None = rw t at q in cc) (λ t. t)

-- a test of the value's kind
string_passed : (x : Record) (o : ℕ) {m : Judgement} {v : Unit {0}} → m ≡ unless (eqb x.kind 6) x.first o → m ≡ Ok v → x.kind ≡ 6
string_passed x o u e = eqb-true x.kind 6 (passed (eqb x.kind 6) x.first o u e)

pub date_string : {t : List ℕ} {r : ℕ} {x : Record} → Reads t r x → (o : ℕ) {m : Judgement} {v : Unit {0}} → m ≡ unless (eqb x.kind 6) x.first o → m ≡ Ok v
    → word t r 0 ≡ 6
date_string {x = x} p o u e = sym p.kind ∙ string_passed x o u e

module _ {s t : List ℕ} {r : ℕ} {x : Record} (p : Reads t r x) (o : ℕ) {m : Judgement} (u : m ≡ unless (eqb x.kind 6) x.first o) where
  -- the string was judged as a date
  module _ {v : Unit {0}} (e : m ≡ Ok v) {k : Option ℤ} (told : k ≡ moment_of (name_of s x.first x.end)) where
    -- its moment is counted as it is read back
    pub date_is : {z : ℤ} {d d₂ : Dates} → k ≡ Some z → SFits w64 z → Counted (to_z w64 (of_z w64 z)) d d₂ → JudgedDate s t r o nothing d d₂
    date_is {z} {d} {d₂} q f c = record {
      tells = λ w.
          (let y = dated (name_of s x.first x.end) z (sym told ∙ q) in
          let counted : Counted z d d₂ = subst (λ (z : ℤ). Counted z d d₂) (to_z-of_z w64 z f) c in
          rw (string_read w p (string_passed x o u e)) (walks_date z (rw y.0) (ap (λ (k : ℤ). k ∷ []) y.1) counted));
    }

    pub date_not : k ≡ None → {z : Mismatch} → z ≡ mismatch NoDate x.first o → {d d₂ : Dates} → JudgedDate s t r o (Err z) d d₂
    date_not q n = record {
      tells = λ w.
          rw (string_read w p (string_passed x o u e), n) (walks_fails (rw (undated (name_of s x.first x.end) (sym told ∙ q))) []);
    }
