-- In the order of 01; then what private contracts cite.
pub mod Definitions
pub mod Accepting
pub mod Types
pub mod Shapes
