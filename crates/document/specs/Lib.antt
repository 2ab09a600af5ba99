-- The definition of reading: kinds, tags and tokens, rows, refusals, elements, the fold over the tokens, the whole document.
pub mod Kinds
pub mod Tags
pub mod Tokens
pub mod Rows
pub mod Refusals
pub mod Elements
pub mod Prefixes
pub mod Reading
pub mod Verdict
pub mod Whole
pub mod Outcome
pub mod Cases
