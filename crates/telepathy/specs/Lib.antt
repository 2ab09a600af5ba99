-- What reading a Telepathy type definition says.
pub mod Outcome
