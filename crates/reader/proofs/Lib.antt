-- The laws of the node loop and of the entries.
pub mod Frames
pub mod Opened
pub mod Turning
pub mod Rooted
pub mod Entries
pub mod NodeChildren
pub mod Files
