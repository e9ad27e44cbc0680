pub mod Entries
pub mod Spliced
pub mod Walk
