-- Names of the old definition that fail (FailingNames); what is written, piece by piece (Laws), and for an object that fails under a name (Members).
pub mod FailingNames
pub mod Laws
pub mod Members
