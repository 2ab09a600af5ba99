-- The words on lists of bytes that the other definitions are written in.
pub mod Bytes
pub mod Run
pub mod Word
pub mod Hash
