-- `reader::scanning::behind` meets its contract: what is looked for stands there already, or behind space.
use Rattle.reader.proofs.scanning.Closing.{follows_soon, follows_later}
use borrow.Enum.Refused.{opened}
use Rattle.reader.proofs.scanning.behind.Goals as goal

pub returns-in-Other : goal.returns-in-Other
returns-in-Other c =
    follows_later c.args.closing c.args.text.now c.args.end c.follows.result c.in-Other.is c.follows-r.ensures
    c.skip.ensures c.follows.ensures

pub returns-in_default : goal.returns-in_default
returns-in_default c =
    follows_soon c.args.closing c.args.text.now c.args.end c.follows-r.result c.requires.1 (opened c.in_default.in_default-own.keys2)
    c.follows-r.ensures
