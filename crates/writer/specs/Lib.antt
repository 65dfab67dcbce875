-- In the order of L6: the one spelling, how deep a value is, what Compact answers and writes; then what serves private contracts.
pub mod Spell
pub mod Depth
pub mod Compact
pub mod Runs
pub mod Tokens
