-- `put_mark` meets its contract: the row by which kind of mark it is.
use Rattle.std.proofs.Common.{rules}
use Rattle.marks.specs.Marks.{mark_entry, is_name}
use Rattle.marks.proofs.filling.put_mark.Goals as goal

pub returns-then-first-last : goal.returns-then-first-last
unfolding mark_entry is_name
returns-then-first-last c = search rules

pub returns-then-rows-eq0 : goal.returns-then-rows-eq0
unfolding mark_entry is_name
returns-then-rows-eq0 c = search rules

pub returns : goal.returns
unfolding mark_entry is_name
returns c = search rules
