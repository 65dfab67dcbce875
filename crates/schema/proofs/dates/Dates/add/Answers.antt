-- `add` meets its contract: the first moment, a further one, and one that is no longer counted.
use Rattle.schema.proofs.dates.Laws.{first_counted, more_counted, full_counted}
use Rattle.schema.proofs.dates.Dates.add.Goals as goal

pub returns-then-self-eq0 : goal.returns-then-self-eq0
returns-then-self-eq0 c = first_counted c.ranges.moment c.if-self-eq0.true

pub returns-then-self-lt-MOST : goal.returns-then-self-lt-MOST
returns-then-self-lt-MOST c =
    more_counted c.ranges.moment c.if-self-eq0.false c.min-self.ensures.value c.max-self.ensures.value c.min-self.type_inv c.max-self.type_inv
    c.if-self-lt-MOST.true

pub returns-else-self-lt-MOST : goal.returns-else-self-lt-MOST
returns-else-self-lt-MOST c =
    full_counted c.ranges.moment c.if-self-eq0.false c.min-self.ensures.value c.max-self.ensures.value c.min-self.type_inv c.max-self.type_inv
    c.if-self-lt-MOST.false
