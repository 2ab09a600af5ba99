-- What a writer is once bytes are put, and what counting them needs.
pub mod Added
pub mod Counts
