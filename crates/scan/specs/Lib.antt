-- Classes of bytes, the colons of a name, and what is ignorable between tags.
pub mod Classes
pub mod Colons
pub mod Ignorable
pub mod Cases
