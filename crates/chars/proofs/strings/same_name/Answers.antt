-- `chars::strings::same_name` meets its contract: different plain bytes are the first characters of the names; the same bytes have the same characters.
use mathlib.Core.Path.{sym, ◌∙◌}
use Rattle.chars.proofs.strings.Meaning.{same_names}
use Rattle.chars.proofs.plain.Laws.{plain_apart}
use Rattle.chars.proofs.strings.same_name.Goals as goal

-- two different plain bytes
pub returns-then-is_plain-2 : goal.returns-then-is_plain-2
returns-then-is_plain-2 c =
    sym (plain_apart _ _ c.peek-x.ensures c.peek-y.ensures c.if-x-y.true
    (sym c.is_plain.ensures ∙ c.if-is_plain.true) (sym c.is_plain-then-is_plain.ensures ∙ c.if-is_plain-2.true))

pub returns-then-equal : goal.returns-then-equal
returns-then-equal c = sym (same_names _ _ (sym c.equal.ensures ∙ c.if-equal.true))
