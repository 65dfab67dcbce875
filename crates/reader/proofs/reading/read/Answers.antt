-- `read` is `read_within` at a document's limits.
use Rattle.reader.proofs.reading.read.Goals as goal

pub returns : goal.returns
returns c = rw c.document.ensures at c.read_within.ensures
