-- Well-formed UTF-8, and White_Space at both ends of a text.
pub mod WellFormed
pub mod WhiteSpace
pub mod Sequence
pub mod Ascii
pub mod Trim
pub mod Cases
pub mod Encoding
