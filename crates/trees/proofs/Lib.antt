-- The laws of the rows in a row, of the bytes of one element, and of the walk that writes a tree.
pub mod Parts
pub mod Standing
pub mod Texts
pub mod Zipper
pub mod Counted
pub mod Opening
pub mod Walking
pub mod Entry
