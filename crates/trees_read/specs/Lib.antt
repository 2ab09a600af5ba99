-- What is said of written trees and the reader.
pub mod Statement
pub mod Entries
