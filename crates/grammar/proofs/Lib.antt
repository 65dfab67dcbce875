-- From the leaves up. The written grammar has the texts of its trimmed form (Trimmed to TrimmedTexts);
-- what is read or refused is sound, and what is spelled is read (Pieces to Texts); nothing behind a place counts (Local, LocalTexts).
-- `Theorems` has what is proved.
pub mod DerivedExamples
pub mod Trimmed
pub mod Trimming
pub mod TrimmedTexts
pub mod Utf8
pub mod Pieces
pub mod Trees
pub mod CharTrees
pub mod Characters
pub mod Strings
pub mod Numbers
pub mod Leaves
pub mod Series
pub mod Members
pub mod Values
pub mod Texts
pub mod Local
pub mod LocalTexts
pub mod NumberBytes
pub mod Bytes
pub mod Places
pub mod ReadAnswers
pub mod Theorems
pub mod Examples
pub mod Facts
