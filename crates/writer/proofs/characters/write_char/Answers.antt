-- `writer::characters::write_char` meets its contract: each way by the law of its spelling.
use mathlib.Core.Path.{refl, sym, ap, ◌∙◌}
use native.Mathlib.Omega.{arith}
use lib.ListN.{length, length-set}
use Rattle.writer.proofs.Over.{over_of}
use Rattle.writer.proofs.characters.Laws.{by_short, short_written, by_long, long_ready, by_utf8, utf8_ready}
use Rattle.writer.proofs.characters.write_char.Goals as goal

pub bounds-out-0 : goal.bounds-out-0
bounds-out-0 c = omega (arith, ap length (by_short _ (sym c.letter.ensures ∙ c.in-Some.is)))

pub bounds-out-1 : goal.bounds-out-1
bounds-out-1 c = simp length-set (omega (arith, ap length (by_short _ (sym c.letter.ensures ∙ c.in-Some.is))))

pub returns-in-Some : goal.returns-in-Some
returns-in-Some c =
    let w = short_written _ (sym c.letter.ensures ∙ c.in-Some.is) _ (omega arith) in record { value = w.0; out_after = w.1 }

pub write_long-requires : goal.write_long-requires
write_long-requires c = long_ready _ (cc) (omega arith) (omega arith)

pub write_utf8-requires : goal.write_utf8-requires
write_utf8-requires c = utf8_ready _ (cc) (omega arith) (omega arith)

pub returns-then-c-lt32 : goal.returns-then-c-lt32
returns-then-c-lt32 c =
    let w = over_of _ (by_long _ (cc) (omega arith)) (refl, c.write_long.ensures) in record { value = w.0; out_after = w.1 }

pub returns : goal.returns
returns c =
    let w = over_of _ (by_utf8 _ (cc) (omega arith)) (c.write_utf8.ensures.value, c.write_utf8.ensures.out_after) in record
    { value = w.0; out_after = w.1 }
