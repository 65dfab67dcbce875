-- The pointer of a value (RFC 6901), and what is written of it; then what serves private contracts.
pub mod Pointers
pub mod Writing
