-- How far what is read reaches: the faults' numbers and places, and the room that rows, warnings and text take.
pub mod Texts
pub mod States
pub mod Folding
pub mod Meaning
pub mod Whole
pub mod Files
