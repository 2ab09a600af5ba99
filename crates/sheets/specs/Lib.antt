-- Sheets: what comes of files, added up; the names of a list; the lines printed.
pub mod Sheet
pub mod Answer
pub mod Names
pub mod Lines
pub mod Counts
pub mod Printed
pub mod Files
pub mod Statement
pub mod Cases
