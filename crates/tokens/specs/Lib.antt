-- What stands between the brackets of a text, each on those before it; Integers is for private contracts, Spelling for theorems.
pub mod Space
pub mod Parse
pub mod Tokens
pub mod Numbers
pub mod Scalars
pub mod Integers
pub mod Spelling
