-- `write_path` meets its contract: the row is that of the value, and from there the sixth words lead up.
use mathlib.Core.Path.{refl, sym, ◌∙◌}
use native.Mathlib.Omega.{arith}
use Rattle.schema.proofs.paths.Laws.{path_rows, first_found, found_row, path_climbs, path_written}
use Rattle.schema.proofs.paths.write_path.Goals as goal

pub word-rows-requires : goal.word-rows-requires
word-rows-requires c = (omega arith, omega (arith, path_rows c.requires))

pub value_at-requires : goal.value_at-requires
value_at-requires c = omega (arith, c.word-rows.ensures, path_rows c.requires)

pub unwrap-requires : goal.unwrap-requires
unwrap-requires c = rw (c.value_at.ensures ∙ first_found c.requires c.word-rows.ensures) refl

pub climb-requires : goal.climb-requires
climb-requires c = path_climbs c.requires (found_row c.requires c.word-rows.ensures (sym c.value_at.ensures ∙ c.unwrap.ensures))

pub returns : goal.returns
returns c = path_written c.requires (found_row c.requires c.word-rows.ensures (sym c.value_at.ensures ∙ c.unwrap.ensures)).0 c.climb.ensures
