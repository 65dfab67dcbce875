-- What the crates above cite.
-- one answer to two texts
pub use Rattle.comparison.proofs.comparing.Laws.{one_answer}
-- the type that a name stands for
pub use Rattle.comparison.proofs.carrying.TypeNames.{of_name}
-- the decision on one field
pub use Rattle.comparison.proofs.carrying.Decision.{field_all, field_any, field_or_lem, or_def}
-- the definitions inside two that are compared, and their rows
pub use Rattle.comparison.proofs.carrying.Shapes.{array_less, array_pair, map_less, map_pair, object_less, object_row, optional_pair}
pub use Rattle.comparison.proofs.carrying.Shapes.{required_pair}
-- no fields, none fails
pub use Rattle.comparison.proofs.carrying.Fields.{failing_absent}
