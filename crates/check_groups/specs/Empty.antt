pub mod Causes
pub mod Empty
pub mod Occurrences
