-- In the order of 01: "Text", "Rows", "Three services"; then what private contracts and the crates above cite.
pub mod Tree
pub mod Grammar
pub mod Spelling
pub mod Rows
pub mod Answer
pub mod Holding
pub mod Line
