-- Compare's promise; then what private contracts cite.
pub mod Comparing
pub mod Fields
pub mod Carrying
