-- What the functions need that read the members of an interface.
pub mod Kinds
