-- What the functions need that read an interface.
pub mod Among
