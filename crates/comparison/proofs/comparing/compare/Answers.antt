-- `compare` meets its contract: the new schema is judged, then the old one, then their definitions.
use Rattle.comparison.proofs.comparing.Laws.{new_refused, old_unread, old_refused, old_read, compare_pair, compare_carried, compare_not_carried}
use Rattle.comparison.proofs.comparing.compare.Goals as goal

pub returns-in-Err-clause-compares : goal.returns-in-Err-clause-compares
returns-in-Err-clause-compares c = new_refused _ _ _ _ c.in-Err.ensures.answers

pub returns-in-Err-clause-rows2 : goal.returns-in-Err-clause-rows2
returns-in-Err-clause-rows2 c = old_unread _ _ _ _ c.in-Err.ensures.answers

pub returns-in-Err-accept-clause-compares : goal.returns-in-Err-accept-clause-compares
returns-in-Err-accept-clause-compares c = old_refused _ _ _ _ c.in_default.ensures.answers c.in-Err-accept.ensures.answers

pub returns-in-Err-accept-clause-rows2 : goal.returns-in-Err-accept-clause-rows2
returns-in-Err-accept-clause-rows2 c = old_read _ _ _ _ c.in_default.ensures.answers c.in-Err-accept.ensures.rows

pub carried-requires : goal.carried-requires
carried-requires c =
    compare_pair _ _ _ _ c.in_default.ensures.answers c.in_default.ensures.rows c.in_default-accept.ensures.answers c.in_default-accept.ensures.rows

pub returns-then-carried-clause-compares : goal.returns-then-carried-clause-compares
returns-then-carried-clause-compares c =
    compare_carried _ _ _ _ c.in_default.ensures.answers c.in_default.ensures.rows c.in_default-accept.ensures.answers c.in_default-accept.ensures.rows
    c.if-carried.ensures c.new.ensures

pub returns-then-carried-clause-rows2 : goal.returns-then-carried-clause-rows2
returns-then-carried-clause-rows2 c = old_read _ _ _ _ c.in_default.ensures.answers c.in_default-accept.ensures.rows

pub returns-clause-compares : goal.returns-clause-compares
returns-clause-compares c =
    compare_not_carried _ _ _ _ c.in_default.ensures.answers c.in_default.ensures.rows c.in_default-accept.ensures.answers c.in_default-accept.ensures.rows
    c.if-carried.ensures c.new-2.ensures

pub returns-clause-rows2 : goal.returns-clause-rows2
returns-clause-rows2 c = old_read _ _ _ _ c.in_default.ensures.answers c.in_default-accept.ensures.rows
