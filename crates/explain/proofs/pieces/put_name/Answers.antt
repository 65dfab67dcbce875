use mathlib.Core.Path.{sym, ◌∙◌}
use native.Mathlib.Omega.{arith}
use Rattle.chars.proofs.Facts.{char_next, char_read}
use Rattle.explain.proofs.pieces.Names.{naming_next, naming_end}
use Rattle.explain.proofs.pieces.put_name.Goals as goal

pub put_char-next-requires : goal.put_char-next-requires
put_char-next-requires c =
    let b = char_next _ _ _ _ (char_read _ _ _ _ (sym c.character_at.ensures ∙ c.in-Some.is)) in
    (b.2.0, omega (arith, c.loop-character.invariant.few, c.loop-character.invariant.inside, c.loop-character.invariant.puts.next))

pub loop-character-smaller : goal.loop-character-smaller
loop-character-smaller c = omega (arith, char_next _ _ _ _ (char_read _ _ _ _ (sym c.character_at.ensures ∙ c.in-Some.is)))

pub loop-character-preserved : goal.loop-character-preserved
loop-character-preserved c = naming_next c.loop-character.invariant _ (sym c.character_at.ensures ∙ c.in-Some.is) c.put_char-next.ensures

pub returns : goal.returns
returns c = naming_end c.loop-character.invariant (sym c.character_at.ensures ∙ c.in_default.is)
