-- What the crates above cite.
pub use Rattle.reader.proofs.scanning.Outcomes.{answer_zero}
