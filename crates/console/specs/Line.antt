-- What the contracts of `lines.rt` cite.
use Rattle.std.specs.Prelude.{ℕ, pos, List, ◌∷◌, ◌++◌, slice_index_or}
use Rattle.std.specs.Fmt.{signed_decimal}
use Rattle.console.specs.declared.lines.Numbers.{Numbers}

-- three numbers in decimal, a space between
abbrev pub numbers_line : Numbers → List ℕ
numbers_line n = signed_decimal (slice_index_or n.0 0 (pos 0)) ++ 32 ∷ (signed_decimal (slice_index_or n.0 1 (pos 0)) ++ 32 ∷ signed_decimal (slice_index_or n.0 2 (pos 0)))
