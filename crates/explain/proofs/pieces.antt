pub mod Buffers
pub mod Characters
pub mod Decimals
pub mod Names
