-- `teleport_read` is `reader::read`, its answer as words.
use Rattle.teleport_c.proofs.Laws.{words_of}
use Rattle.teleport_c.proofs.teleport_read.Goals as goal

pub returns : goal.returns
returns c = search words_of
