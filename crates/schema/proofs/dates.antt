pub mod Laws
pub mod Once
pub mod Spans
pub mod Written
