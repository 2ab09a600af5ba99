-- The laws on attribute values.
pub mod Numbers
pub mod Entities
pub mod Pieces
pub mod Values
pub mod Escapes
pub mod Answers
pub mod Shapes
pub mod Formed
pub mod RoundTrip
pub mod Normal
pub mod Joining
