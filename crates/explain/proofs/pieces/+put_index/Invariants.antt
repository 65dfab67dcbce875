-- `explain::pieces::put_index` meets its contract: the last digit behind the others. The measure is the number.
use Rattle.explain.proofs.pieces.+put_index.Given as goal

abbrev pub decreases-put_index : goal.decreases-put_index
decreases-put_index l = l.index
