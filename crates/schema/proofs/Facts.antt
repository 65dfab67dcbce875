-- What the crates above cite.

-- the first mismatch: which codes it has, and where there is none
pub use Rattle.schema.proofs.judging.Codes.{mismatch_codes}
-- a mismatch that Check found, and the path to it
pub use Rattle.schema.proofs.paths.Reached.{HasMismatch, has_mismatch, mismatch_found, mismatch_table, path_is, no_path}
pub use Rattle.schema.proofs.judging.Meeting.{meets_nothing, nothing_meets}
