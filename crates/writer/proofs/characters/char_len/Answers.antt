-- `writer::characters::char_len` meets its contract: each way by the law of its spelling.
use mathlib.Core.Path.{sym, ap, ◌∙◌}
use native.Mathlib.Omega.{arith}
use lib.ListN.{length}
use Rattle.writer.proofs.characters.Laws.{by_short, by_long, by_utf8, utf8_one, utf8_two, utf8_three, utf8_four}
use Rattle.writer.proofs.characters.char_len.Goals as goal

pub returns-in-Some : goal.returns-in-Some
returns-in-Some c = sym (ap length (by_short _ (sym c.letter.ensures ∙ c.in-Some.is)))

pub returns-in-0-to-31 : goal.returns-in-0-to-31
returns-in-0-to-31 c = sym (ap length (by_long _ (cc) (omega arith)))

pub returns-in-32-to-127 : goal.returns-in-32-to-127
returns-in-32-to-127 c = sym (ap length (by_utf8 _ (cc) (omega arith) ∙ utf8_one _ (omega arith)))

pub returns-in-128-to-2047 : goal.returns-in-128-to-2047
returns-in-128-to-2047 c = sym (ap length (by_utf8 _ (cc) (omega arith) ∙ utf8_two _ (omega arith) (omega arith)))

pub returns-in-2048-to-65535 : goal.returns-in-2048-to-65535
returns-in-2048-to-65535 c = sym (ap length (by_utf8 _ (cc) (omega arith) ∙ utf8_three _ (omega arith) (omega arith)))

pub returns-in_default : goal.returns-in_default
returns-in_default c = sym (ap length (by_utf8 _ (cc) (omega arith) ∙ utf8_four _ (omega arith)))
