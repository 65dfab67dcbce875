pub mod Escapes
pub mod Last
pub mod Laws
