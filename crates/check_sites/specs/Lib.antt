pub mod Sites
pub mod Entries
