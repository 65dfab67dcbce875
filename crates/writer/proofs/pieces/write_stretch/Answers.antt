-- `writer::pieces::write_stretch` meets its contract: each way by the law of its piece.
use native.Mathlib.Omega.{arith}
use Rattle.chars.proofs.Facts.{run-from}
use Rattle.writer.specs.Runs.{is_ordinary}
use Rattle.writer.proofs.pieces.Laws.{ordinary_room, ordinary_written, escape_ready, escape_written, no_bytes}
use Rattle.writer.proofs.pieces.write_stretch.Goals as goal

pub copy_ordinary-end-requires : goal.copy_ordinary-end-requires
copy_ordinary-end-requires c = ordinary_room _ _ (omega arith) (omega arith)

pub overflow_sub-result : goal.overflow_sub-result
overflow_sub-result c = rw c.copy_ordinary-end.ensures.value (run-from is_ordinary _ _)

pub returns-then-peek-ne92 : goal.returns-then-peek-ne92
returns-then-peek-ne92 c =
    let w = ordinary_written _ _ (omega arith) _ (c.copy_ordinary-end.ensures.value, c.copy_ordinary-end.ensures.out_after) in record
    { value = w.0; out_after = w.1 }

pub write_char-requires : goal.write_char-requires
write_char-requires c = escape_ready _ _ (omega arith) c.character_at.ensures c.in-Some.is (omega arith)

-- behind it
pub returns-in-Some : goal.returns-in-Some
returns-in-Some c =
    let w = escape_written _ _ (omega arith) c.character_at.ensures c.in-Some.is _ (c.write_char.ensures.value, c.write_char.ensures.out_after) in
    record { value = w.0; out_after = w.1 }

pub returns-in-None : goal.returns-in-None
returns-in-None c =
    let w = no_bytes _ _ (omega arith) c.character_at.ensures c.in-None.is _ in record { value = w.0; out_after = w.1 }
