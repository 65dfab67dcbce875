pub mod Index
pub mod Owners
pub mod Search
pub mod Told
