-- The spelling is a text of the written grammar (StringSpelled, Spelled); what goes by the value alone (Depths, Sizes); what code 0 tells (Answers).
-- A text of the grammar is made of tokens, and what is written for them is the spelling of its value (Copied to Texts); buffers (Over).
-- `Theorems` has what is proved.
pub mod StringSpelled
pub mod Spelled
pub mod Depths
pub mod Sizes
pub mod Copied
pub mod Stretches
pub mod Tokens
pub mod Texts
pub mod Over
pub mod Answers
pub mod Theorems
pub mod Examples
pub mod Facts
