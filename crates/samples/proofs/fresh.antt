pub mod Laws
mod Beside
