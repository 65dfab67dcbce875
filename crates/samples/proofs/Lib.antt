-- For the writers: what is lent and written, piece by piece (Lent).
pub mod Lent
pub mod Facts
