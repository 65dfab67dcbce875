-- `teleport_compare` is `comparison::compare`, its answer as words.
use Rattle.teleport_c.proofs.Laws.{words_written}
use Rattle.teleport_c.proofs.teleport_compare.Goals as goal

pub returns : goal.returns
returns c = search words_written
