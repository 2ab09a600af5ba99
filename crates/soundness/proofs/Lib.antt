-- Laws of the check of sound rows.
pub mod Known
pub mod Triples
pub mod Definitions
pub mod Tallies
pub mod Rows
