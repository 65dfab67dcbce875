pub mod TypeNames
pub mod Decision
pub mod Shapes
pub mod Fields
