-- With 0, the length that Compact tells counts bytes of its buffer.
use Rattle.std.proofs.Common.{ℕ, ◌≤◌, ◌≡◌, List, length, take, arith}
use mathlib.Core.Path.{sym, ap, ◌∙◌}
use Rattle.std.proofs.lemmas.List.{length-take-le}
use Rattle.syntax.specs.declared.answers.Answer.{Answer}
use Rattle.writer.specs.Compact.{compact_answer}
use Rattle.writer.proofs.Facts.{compact_fits}

pub compact_most : (r : Answer) (w b : ℕ) (s : List ℕ) → r ≡ compact_answer w b s → r.code ≡ 0 → r.other ≤ b
compact_most r w b s e z = rw e (compact_fits w b s (sym (ap (λ (a : Answer). a.code) e) ∙ z))

-- so many are those at the start of the buffer, which keeps its length
pub compact_taken : (r : Answer) (w b : ℕ) (s buffer : List ℕ) → r ≡ compact_answer w b s → r.code ≡ 0 → b ≤ length buffer → r.other ≡ length (take r.other buffer)
compact_taken r w b s buffer e z h = let most = compact_most r w b s e z in sym (length-take-le r.other buffer (omega arith))
