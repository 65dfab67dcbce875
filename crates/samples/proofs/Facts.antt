-- What the crates above cite: lending the rest of a buffer behind the last piece.
pub use Rattle.samples.proofs.Lent.{Lent, last_same, left_of, lent, lent_last, lent_more, put_back, wrote, wrote_one}
