pub mod Example
pub mod Untold
