pub mod Bounds
pub mod Examples
pub mod Facts
pub mod Pieces
