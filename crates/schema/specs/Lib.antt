-- In the order of 01 and 02; last what private contracts cite.
pub mod Judging
pub mod Dates
pub mod Checking
pub mod Paths
pub mod Walks
pub mod Climbing
