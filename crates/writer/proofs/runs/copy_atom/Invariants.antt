-- `copy_atom` meets its contract: it copies the run of the bytes that pass its test.
use Rattle.writer.specs.Runs.{is_atom}
use Rattle.writer.proofs.runs.copy_atom.Given as goal

abbrev pub ghost-copy_run : goal.ghost-copy_run
ghost-copy_run a = is_atom
