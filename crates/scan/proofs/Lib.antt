-- The laws of classes, of the colons of a name, and of what is ignorable.
pub mod Class
pub mod Prefixes
pub mod Seek
pub mod Declarations
pub mod Ignoring
pub mod Marked
