-- For private contracts: what the first pass keeps.
pub mod Packing
pub mod Marks
pub mod Filling
pub mod Names
