pub mod Examples
pub mod Facts
