-- `explain::pieces::put_utf8` meets its contract: the bytes that were written are put.
use native.Mathlib.Omega.{arith}
use Rattle.explain.proofs.pieces.Characters.{utf8_short}
use Rattle.explain.proofs.pieces.put_utf8.Goals as goal

pub write_utf8-n-requires : goal.write_utf8-n-requires
write_utf8-n-requires c = (omega arith, utf8_short _)
