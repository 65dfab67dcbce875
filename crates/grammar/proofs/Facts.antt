-- What the crates above cite.

-- a part of a text at a place, and what is spelled there
pub use Rattle.grammar.proofs.Pieces.{At, Spelled, at_behind, at_first, at_second}
-- characters as a tree of byte tests, and the bytes of UTF-8
pub use Rattle.grammar.proofs.Trees.{Lang, Stepped, walk_sound}
pub use Rattle.grammar.proofs.CharTrees.{char_good, char_quote, char_walk, char_tree}
pub use Rattle.grammar.proofs.Characters.{lang_char}
pub use Rattle.grammar.proofs.Utf8.{four_bits, scalar_range, three_bits, utf8_only, utf8_spelled}
-- strings and numbers
pub use Rattle.grammar.proofs.Strings.{string_reads}
pub use Rattle.grammar.proofs.Numbers.{digit_bounds}
pub use Rattle.grammar.proofs.NumberBytes.{number_all}
