-- `reader::scanning::close` meets its contract.
use mathlib.Core.Path.{refl}
use Rattle.reader.proofs.scanning.close.Goals as goal

pub returns : goal.returns
returns c =
    record {
      value = refl;
      marks_after = rw (c.list_mark.ensures, c.from.ensures);
    }
