pub mod Endings
pub mod Openings
pub mod Steps
