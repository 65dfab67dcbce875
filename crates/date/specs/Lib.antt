pub mod Walk
pub mod Endings
pub mod Moments
pub mod Days
pub mod Spelling
