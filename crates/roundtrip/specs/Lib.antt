-- What is said of written bytes and the reader.
pub mod Items
pub mod Statement
pub mod Entries
