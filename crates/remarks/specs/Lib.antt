-- Two documents that differ inside a comment that reading meets.
pub mod Differing
pub mod Alike
pub mod Cases
