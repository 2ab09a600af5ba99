-- The tables that a caller lends: what they hold while they are filled, and the triples that their rows are made of.
pub mod Table
pub mod Copied
pub mod Triple
pub mod Place
