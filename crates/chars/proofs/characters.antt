pub mod Laws
pub mod Utf8
