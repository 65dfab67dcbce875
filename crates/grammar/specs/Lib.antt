-- What a well-formed text is, and what a place means.
pub mod Utf8
pub mod Written
pub mod Places
