pub mod Copied
pub mod Laws
