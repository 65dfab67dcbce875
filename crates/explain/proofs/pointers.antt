pub mod Elements
pub mod Steps
pub mod Chains
pub mod Values
pub mod Paths
pub mod Documents
