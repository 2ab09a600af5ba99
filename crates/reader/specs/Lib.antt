-- What the node loop and the public entry say.
pub mod Nodes
pub mod Entry
