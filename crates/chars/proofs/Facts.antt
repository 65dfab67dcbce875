-- What the crates above cite.

-- runs of bytes
pub use Rattle.chars.proofs.runs.Laws.{run_end, run_ended, run-from, run_next, run_stop, run_within}
-- classes of bytes, and tests
pub use Rattle.chars.proofs.bytes.Laws.{beside, digit_in, highest_most, highest_of, in_text, lowest_least, lowest_of, outside}
-- the last number that passes a test
pub use Rattle.chars.proofs.hashing.Last.{last_before, last_found, last_here, last_most, last_none, last_nothing, last_same, last_skips}
-- characters
pub use Rattle.chars.proofs.characters.Laws.{Scalar, by_some}
pub use Rattle.chars.proofs.plain.Laws.{digit_read}
-- strings: a character at a time, where they end, and what stands in them
pub use Rattle.chars.proofs.strings.Laws.{char_read, ScanAhead, char_next, chars_char, chars_none, chars_step, string_ahead, string_bounds}
pub use Rattle.chars.proofs.strings.Laws.{string_char, string_close, string_quote, string_stop}
pub use Rattle.chars.proofs.strings.Meaning.{Scalars, same_true, scalars}
pub use Rattle.chars.proofs.strings.Parts.{body_characters}
-- names with their hash
pub use Rattle.chars.proofs.hashing.Laws.{hash_small, name_broken, name_hashed}
