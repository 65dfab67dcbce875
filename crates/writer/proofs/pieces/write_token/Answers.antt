-- `writer::pieces::write_token` meets its contract: each way by the law of its token.
use native.Mathlib.Omega.{arith}
use Rattle.chars.proofs.Facts.{run-from}
use Rattle.writer.specs.Runs.{is_atom}
use Rattle.writer.proofs.pieces.Laws.{string_ready, string_written, structural_room, structural_written, atom_room, atom_written}
use Rattle.writer.proofs.pieces.write_token.Goals as goal

pub write_string-requires : goal.write_string-requires
write_string-requires c = string_ready _ _ (omega arith) c.requires

pub returns-then-b-eq34 : goal.returns-then-b-eq34
returns-then-b-eq34 c =
    let w = string_written _ _ (omega arith) _ (c.write_string.ensures.value, c.write_string.ensures.out_after) in record
    { value = w.0; out_after = w.1 }

pub bounds-out-0 : goal.bounds-out-0
bounds-out-0 c = structural_room c.requires (omega arith) (cc)

pub returns-then-is_structural : goal.returns-then-is_structural
returns-then-is_structural c =
    let w = structural_written _ _ (omega arith) (cc) (omega arith) _ (omega arith) in record { value = w.0; out_after = w.1 }

pub copy_atom-end-requires : goal.copy_atom-end-requires
copy_atom-end-requires c = atom_room _ _ (omega arith) (cc) (omega arith)

pub overflow_sub-result : goal.overflow_sub-result
overflow_sub-result c = rw c.copy_atom-end.ensures.value (run-from is_atom _ _)

pub returns : goal.returns
returns c =
    let w = atom_written _ _ (omega arith) (cc) _ (c.copy_atom-end.ensures.value, c.copy_atom-end.ensures.out_after) in record
    { value = w.0; out_after = w.1 }
