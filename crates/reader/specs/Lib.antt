-- For private contracts: the first pass.
pub mod Scanning
