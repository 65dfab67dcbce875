-- What the reader gave comes behind what it gave before.
use Rattle.std.proofs.Common.{rules}
use Rattle.std.proofs.lemmas.List.{length-take-le}
use Rattle.console.proofs.Reading.{reads_more}
use Rattle.console.proofs.files.read_full.Goals as goal

pub loop-n-preserved : goal.loop-n-preserved
loop-n-preserved g c =
    let before = c.loop-n.invariant in
    (search rules, search rules, reads_more _ _ _ _ _ _ _ _ (length-take-le _ _ before.0) c.in-Ok.ensures.bound.0 before.2 c.in-Ok.ensures.bytes.0)
