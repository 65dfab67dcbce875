-- `chars::characters::char_at` meets its contract: a plain byte lies within the text, as it is a character.
use mathlib.Core.Path.{sym, ◌∙◌}
use native.Mathlib.Omega.{arith}
use Prim.Native.Nat.{◌+◌}
use Rattle.chars.proofs.strings.Laws.{char_next}
use Rattle.chars.proofs.plain.Laws.{plain_read}
use Rattle.chars.proofs.characters.char_at.Goals as goal

pub overflow_add-result : goal.overflow_add-result
overflow_add-result c =
    omega (arith, char_next c.args.text.now c.args.at c.from.result (c.args.at + 1) (plain_read _ _ c.peek-b.ensures (sym c.is_plain.ensures ∙ c.if-is_plain.true) c.from.ensures))
