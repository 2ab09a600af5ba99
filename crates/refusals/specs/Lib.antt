-- What is told of refusals and warnings of the reader: each has a message.
pub mod Told
pub mod Cases
