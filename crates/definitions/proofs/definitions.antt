pub mod OtherKinds
pub mod Faults
pub mod Meaning
pub mod Laws
pub mod Body
pub mod Fields
pub mod Sharing
