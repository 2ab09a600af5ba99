-- The laws of values and of tables.
pub mod Words
pub mod Tables
