-- The laws on UTF-8: sequences, well-formed texts, the UTF-8 of a scalar value, White_Space.
pub mod Sequences
pub mod Texts
pub mod Encodings
pub mod Ascii
pub mod Follows
pub mod Finding
pub mod WhiteSpaces
pub mod Cuts
pub mod Parts
pub mod Trims
pub mod Points
pub mod Ends
pub mod Between
pub mod Downward
