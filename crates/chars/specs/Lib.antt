-- What a text is made of (01, "Text"), each on those before it; Plain, Wide and Hashing are for private contracts.
pub mod Refusals
pub mod Bytes
pub mod Runs
pub mod Characters
pub mod Strings
pub mod Plain
pub mod Wide
pub mod Hashing
