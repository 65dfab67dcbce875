-- What the crates above cite.

-- a buffer that is written piece by piece
pub use Rattle.writer.proofs.Over.{Wrote, left_length, over_byte, over_first, wrote_byte, wrote_last, wrote_length, wrote_more, wrote_none}
-- strings as tokens, and how long they are written
pub use Rattle.writer.proofs.Tokens.{string-end}
pub use Rattle.writer.proofs.Stretches.{chars_fit}
-- the depth of a text, and the length that Compact tells
pub use Rattle.writer.proofs.Depths.{text_depth}
pub use Rattle.writer.proofs.Answers.{compact_fits}
