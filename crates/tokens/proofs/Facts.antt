-- What the crates above cite.

-- bounds of what is read, and a byte that is not allowed
pub use Rattle.tokens.proofs.Bounds.{Bounded, unexpected_bounded, unexpected_end, unexpected_in, unexpected_read, unexpected_ways}
-- parts of a text, and runs of bytes in them
pub use Rattle.tokens.proofs.Pieces.{part_cons, part_join, part_none, part_one, run_all, run_some}
-- numbers
pub use Rattle.tokens.proofs.numbers.Laws.{Minus, digits_piece, sign_least, whole_piece, whole_some}
-- what a value begins with, and the values that hold no other
pub use Rattle.tokens.proofs.scalars.Laws.{FirstIs, array_first, characters_text, first_array, first_is, first_object, integer_read}
pub use Rattle.tokens.proofs.scalars.Laws.{object_first, quote_first, quoted_bounds, quoted_characters, scalar_bounded, scalar_end}
pub use Rattle.tokens.proofs.scalars.Laws.{scalar_spells}
