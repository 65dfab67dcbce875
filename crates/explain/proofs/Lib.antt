-- Computed examples; the laws of each module are in its folder.
pub mod Examples
