-- What reading a file comes to, by what decoding it answers; and what is promised of it.
pub mod Documents
pub mod Promises
