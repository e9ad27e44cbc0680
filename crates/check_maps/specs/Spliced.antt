pub mod Spliced
pub mod Steps
