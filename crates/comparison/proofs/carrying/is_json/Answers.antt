-- `is_json` meets its contract: only the type name JSON takes every value.
use Rattle.comparison.proofs.carrying.TypeNames.{is_json_row}
use Rattle.comparison.proofs.carrying.is_json.Goals as goal

pub returns : goal.returns
returns c = is_json_row c.type_at.ensures c.carried_name.ensures
