-- The witness is small (Lengths, Costs, Small), so its spelling is a document (Names, Shown), which Check confirms (Confirming).
-- For the writers: the field that fails (Failing). `Theorems` has what the promise says of the numbers and the bytes.
pub mod Lengths
pub mod Costs
pub mod Names
pub mod Small
pub mod Shown
pub mod Confirming
pub mod Failing
pub mod Theorems
pub mod Examples
