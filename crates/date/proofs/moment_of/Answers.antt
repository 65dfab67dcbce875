-- `date::moment_of` meets its contract: without the letter, the time, the second or the end, and with all.
use mathlib.Core.Path.{◌∙◌}
use native.Mathlib.Omega.{arith}
use Rattle.date.proofs.Laws.{no_letter, no_time, no_second, no_end, times_small, all_read}
use Rattle.date.proofs.moment_of.Goals as goal

pub returns-in_err-time : goal.returns-in_err-time
returns-in_err-time c = c.from_residual-in_err-time.ensures ∙ no_letter _ _ c.in_ok-day.ensures c.in_err-time.ensures

pub returns-in_err-minutes : goal.returns-in_err-minutes
returns-in_err-minutes c =
    c.from_residual-in_err-minutes.ensures ∙ no_time _ _ c.in_ok-day.ensures _ c.in_ok-time.ensures c.in_err-minutes.ensures

pub returns-in_err-second : goal.returns-in_err-second
returns-in_err-second c =
    c.from_residual-in_err-second.ensures
    ∙ no_second _ _ c.in_ok-day.ensures _ c.in_ok-time.ensures _ c.in_ok-minutes.ensures c.in_err-second.ensures

pub returns-in_err-behind : goal.returns-in_err-behind
returns-in_err-behind c =
    c.from_residual-in_err-behind.ensures
    ∙ no_end _ _ c.in_ok-day.ensures _ c.in_ok-time.ensures _ c.in_ok-minutes.ensures _ c.in_ok-second.ensures c.in_err-behind.ensures

pub overflow_add-minutes : goal.overflow_add-minutes
overflow_add-minutes c =
    omega (arith, times_small _ _ c.in_ok-day.ensures _ c.in_ok-time.ensures _ c.in_ok-minutes.ensures _ c.in_ok-second.ensures _ c.in_ok-behind.ensures)

pub moment_at-requires : goal.moment_at-requires
moment_at-requires c =
    omega (arith, times_small _ _ c.in_ok-day.ensures _ c.in_ok-time.ensures _ c.in_ok-minutes.ensures _ c.in_ok-second.ensures _ c.in_ok-behind.ensures)

pub returns : goal.returns
returns c =
    all_read _ _ c.in_ok-day.ensures _ c.in_ok-time.ensures _ c.in_ok-minutes.ensures _ c.in_ok-second.ensures _ c.in_ok-behind.ensures
    _ c.moment_at.ensures
