-- `date::fields::day` meets its contract: the year is small, and the calendar decides.
use mathlib.Core.Path.{refl}
use Rattle.chars.specs.Strings.{characters}
use Rattle.date.proofs.fields.Laws.{year_small, off_calendar, day_read}
use Rattle.date.proofs.fields.day.Goals as goal

pub new-requires : goal.new-requires
new-requires c = year_small _ _ (c.in_ok-year.ensures (characters c.args.body.now) 0 refl)

pub returns-in_err-day-2 : goal.returns-in_err-day-2
returns-in_err-day-2 c =
    let l = characters c.args.body.now in
    let year = c.in_ok-year.ensures l 0 refl in
    let month = c.in_ok-month.ensures l 4 year.2 in
    rw c.from_residual-in_err-day-2.ensures (off_calendar _ _ year _ _ month (c.in_ok-day.ensures l 7 month.2) c.in_err-day-2.ensures)

pub returns : goal.returns
returns c =
    let l = characters c.args.body.now in
    let year = c.in_ok-year.ensures l 0 refl in
    let month = c.in_ok-month.ensures l 4 year.2 in
    day_read _ _ year _ _ month (c.in_ok-day.ensures l 7 month.2) _ c.in_ok-day-2.ensures
