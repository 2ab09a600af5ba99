-- The laws on tables and on triples.
pub mod Tables
pub mod Triples
