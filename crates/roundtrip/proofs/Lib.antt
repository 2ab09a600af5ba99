-- Laws of written bytes and of reading them.
pub mod Tags
pub mod Held
pub mod Elements
pub mod Items
pub mod Content
pub mod Equal
pub mod SoundRows
pub mod Texts
pub mod Keeping
pub mod Room
pub mod Whole
pub mod Entries
pub mod Theorems
