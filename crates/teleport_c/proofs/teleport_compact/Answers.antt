-- `teleport_compact` is `writer::compact`, its answer as words.
use Rattle.teleport_c.proofs.Laws.{words_of}
use Rattle.teleport_c.proofs.teleport_compact.Goals as goal

pub returns : goal.returns
returns c = search words_of
