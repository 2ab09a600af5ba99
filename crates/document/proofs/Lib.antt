-- The laws of prefixes, of runs, of values, of the loops over elements, and of one step, way by way; how far the next token reaches,
-- and where its faults are.
pub mod Tests
pub mod Prefixes
pub mod Readers
pub mod Runs
pub mod Held
pub mod Presence
pub mod Loops
pub mod Openings
pub mod Opens
pub mod Steps
pub mod Branches
pub mod Places
pub mod Ignorables
pub mod Unescapes
pub mod Attributes
pub mod Nexts
