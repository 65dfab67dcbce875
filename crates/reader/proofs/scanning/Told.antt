-- What the first pass tells, by what was read: a refusal, or a value whose rows are kept.
use mathlib.Core.Path.{◌≡◌, refl, sym, ap, ◌∙◌}
use mathlib.Core.List.{List}
use mathlib.Core.Bool.{Bool, true, false, cond}
use Prim.Native.Nat.{ℕ}
use lib.ListN.{length}
use lib.Dec.{ltb}
use Rattle.tokens.specs.Parse.{Parse, refused, parsed, then, unexpected}
use Rattle.syntax.specs.Tree.{Node}
use Rattle.syntax.specs.Rows.{size}
use Rattle.reader.specs.Scanning.{Marked, After, Told}
use Rattle.reader.specs.declared.scanning.Scanned.{Scanned}
use Rattle.syntax.proofs.Facts.{unexpected_both}
use Rattle.reader.proofs.scanning.Outcomes.{scan_value}
use Rattle.chars.specs.declared.refusals.Code.TheVariants.{Ended, NotAllowed}
use Rattle.std.specs.Prelude.{Ok, Err}
use Rattle.chars.specs.Refusals.{Reading}
use Rattle.chars.specs.declared.refusals.Refusal.{Refusal}
use Rattle.reader.specs.Scanning.{scanned}
use Rattle.chars.specs.Characters.{refusal_at}
use Rattle.tokens.proofs.Facts.{unexpected_read}

module _ {s : List ℕ} {o : Parse Node} {row : ℕ} {ms hs₂ ms₂ : List ℕ} where
  pub told_refused : {bad : Refusal} → o ≡ refused bad.code bad.place → Told s o (Err bad) row ms hs₂ ms₂
  told_refused q = rw q (record { scan = refl; after = tt })

  pub told_value : (n : Node) {e k : ℕ} → o ≡ parsed n e → k ≡ size n → Marked s n row ms hs₂ ms₂ → Told s o (Ok (scanned e k)) row ms hs₂ ms₂
  told_value n {e = e} q z h = rw q (record { scan = ap (λ (x : ℕ). Ok (scanned e x)) z; after = h })

  pub told_bad : (j : ℕ) {bad : Refusal} → o ≡ unexpected s j → bad ≡ refusal_at s j NotAllowed → Told s o (Err bad) row ms hs₂ ms₂
  told_bad j q z = rw q (record { scan = unexpected_read _ s j z; after = unexpected_both s j (λ x. After s x row ms hs₂ ms₂) (λ c p _. tt) })

  -- what is told of a value that was read
  pub told_parsed : {r : Reading Scanned} {e k : ℕ} → Told s o r row ms hs₂ ms₂ → r ≡ Ok (scanned e k)
      → (n : Node) × (o ≡ parsed n e) × (size n ≡ k) × Marked s n row ms hs₂ ms₂
  told_parsed h q = let v = scan_value o (sym h.scan ∙ q) in (v.0, v.1, v.2, rw v.1 at h.after)

-- nothing is read behind a refusal
pub unexpected_then : {A B : Type 0} (s : List ℕ) (j : ℕ) (k : A → ℕ → Parse B) → then (unexpected s j) k ≡ unexpected s j
unfolding unexpected
unexpected_then {A} {B} s j k = go (ltb j (length s))
  where
    go : (b : Bool) → then (cond b (refused NotAllowed j) (refused Ended (length s))) k ≡ cond b (refused NotAllowed j) (refused Ended (length s))
    go true = refl
    go false = refl
