-- For private contracts: rows of a table, and the members of an object by name, one name or many.
pub mod Records
pub mod Children
pub mod Finding
pub mod Matching
