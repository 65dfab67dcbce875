-- `writer::pieces::measure_stretch` meets its contract: each way by the law of its piece.
use mathlib.Core.List.{[]}
use native.Mathlib.Omega.{arith}
use Rattle.chars.proofs.Facts.{run-from}
use Rattle.writer.specs.Runs.{is_ordinary}
use Rattle.writer.proofs.pieces.Laws.{ordinary_piece, escape_piece, no_bytes}
use Rattle.writer.proofs.pieces.measure_stretch.Goals as goal

pub overflow_sub-result : goal.overflow_sub-result
overflow_sub-result c = rw c.ordinary_end-end.ensures (run-from is_ordinary _ _)

pub returns-then-peek-ne92 : goal.returns-then-peek-ne92
returns-then-peek-ne92 c = ordinary_piece _ _ (omega arith) c.ordinary_end-end.ensures

pub returns-in-Some : goal.returns-in-Some
returns-in-Some c = escape_piece _ _ (omega arith) c.character_at.ensures c.in-Some.is c.char_len.ensures

pub returns-in-None : goal.returns-in-None
returns-in-None c = (no_bytes _ _ (omega arith) c.character_at.ensures c.in-None.is []).0
