-- `generic_name` meets its contract: a name that is one of the words, and one that is none.
use Rattle.definitions.specs.Types.{generic_of}
use Rattle.definitions.proofs.types.Laws.{spelled, compared, generic_by}
use Rattle.definitions.proofs.types.generic_name.Goals as goal

pub returns-then-same_name : goal.returns-then-same_name
unfolding generic_of
returns-then-same_name c = generic_by spelled.array _ c.same_name.ensures c.if-same_name.true

pub returns-then-same_name-2 : goal.returns-then-same_name-2
unfolding generic_of
returns-then-same_name-2 c = generic_by spelled.map _ c.same_name-2.ensures c.if-same_name-2.true

pub returns-then-same_name-3 : goal.returns-then-same_name-3
unfolding generic_of
returns-then-same_name-3 c = generic_by spelled.object _ c.same_name-3.ensures c.if-same_name-3.true

-- every test failed
pub returns : goal.returns
unfolding generic_of
returns c =
    rw (
      compared spelled.array _ c.same_name.ensures c.if-same_name.false,
      compared spelled.map _ c.same_name-2.ensures c.if-same_name-2.false,
      compared spelled.object _ c.same_name-3.ensures c.if-same_name-3.false,
    )
