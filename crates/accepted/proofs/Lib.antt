-- What the reader leaves of a document that it accepts: the rows show what was read, are sound, in order, and say where their elements begin.
pub mod Tokens
pub mod Folding
pub mod Values
pub mod Triples
pub mod Rows
pub mod Holding
pub mod Entries
pub mod Docstrings
pub mod Frames
pub mod Entering
pub mod States
pub mod Order
pub mod Members
pub mod Soundness
pub mod Accepted
pub mod Left
