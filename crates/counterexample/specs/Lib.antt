-- What Compare's sister promises, and names as L7 has them; then what serves private contracts.
pub mod Counterexample
pub mod Names
pub mod Writing
