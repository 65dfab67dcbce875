-- `date::calendar::Day::text` meets its contract: each pair of digits spells its number.
use Rattle.date.proofs.spelling.Laws.{spells}
use Rattle.date.proofs.calendar.Day.text.Goals as goal

pub returns : goal.returns
returns c = rw (← c.self.view_is) (search spells)
