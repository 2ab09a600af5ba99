-- Laws of the definitions.
pub mod Rows
pub mod Children
pub mod Words
pub mod Order
pub mod Written
