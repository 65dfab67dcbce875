-- `write_name` meets its contract: the byte, the name behind it, and the colon.
use mathlib.Core.Path.{ap}
use native.Mathlib.Omega.{arith}
use Rattle.writer.specs.declared.pieces.Piece.{Piece}
use Rattle.samples.proofs.pieces.Laws.{name_quoted, name_begun, name_lent, name_written}
use Rattle.samples.proofs.pieces.write_name.Goals as goal

pub write_string-n-requires : goal.write_string-n-requires
write_string-n-requires c = (name_quoted c.requires.quoted, omega (arith, (name_begun c.requires).left))

pub bounds-out-n : goal.bounds-out-n
bounds-out-n c =
    let l = name_lent c.requires (ap (λ (p : Piece). p.len) c.write_string-n.ensures.value, c.write_string-n.ensures.out_after) in
    omega (arith, l.room, l.same)

pub returns : goal.returns
returns c = name_written c.requires (ap (λ (p : Piece). p.len) c.write_string-n.ensures.value, c.write_string-n.ensures.out_after)
