-- `named_type` meets its contract: a name that is one of the words, and one that is none.
use Rattle.definitions.proofs.types.Laws.{spelled, compared, type_by}
use Rattle.definitions.proofs.types.named_type.Goals as goal

pub returns-then-same_name : goal.returns-then-same_name
returns-then-same_name c = type_by spelled.string _ c.same_name.ensures c.if-same_name.true

pub returns-then-same_name-2 : goal.returns-then-same_name-2
returns-then-same_name-2 c = type_by spelled.integer _ c.same_name-2.ensures c.if-same_name-2.true

pub returns-then-same_name-3 : goal.returns-then-same_name-3
returns-then-same_name-3 c = type_by spelled.date_time _ c.same_name-3.ensures c.if-same_name-3.true

pub returns-then-same_name-4 : goal.returns-then-same_name-4
returns-then-same_name-4 c = type_by spelled.boolean _ c.same_name-4.ensures c.if-same_name-4.true

pub returns-then-same_name-5 : goal.returns-then-same_name-5
returns-then-same_name-5 c = type_by spelled.float _ c.same_name-5.ensures c.if-same_name-5.true

pub returns-then-same_name-6 : goal.returns-then-same_name-6
returns-then-same_name-6 c = type_by spelled.json _ c.same_name-6.ensures c.if-same_name-6.true

pub returns-then-same_name-7 : goal.returns-then-same_name-7
returns-then-same_name-7 c = type_by spelled.schema _ c.same_name-7.ensures c.if-same_name-7.true

-- every test failed
pub returns : goal.returns
returns c =
    rw (
      compared spelled.json _ c.same_name-6.ensures c.if-same_name-6.false,
      compared spelled.schema _ c.same_name-7.ensures c.if-same_name-7.false,
      compared spelled.float _ c.same_name-5.ensures c.if-same_name-5.false,
      compared spelled.integer _ c.same_name-2.ensures c.if-same_name-2.false,
      compared spelled.string _ c.same_name.ensures c.if-same_name.false,
      compared spelled.boolean _ c.same_name-4.ensures c.if-same_name-4.false,
      compared spelled.date_time _ c.same_name-3.ensures c.if-same_name-3.false,
    )
