-- The laws on messages.
pub mod Excerpts
pub mod Framed
pub mod Numbers
pub mod Entries
