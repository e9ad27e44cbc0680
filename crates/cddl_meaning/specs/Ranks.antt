pub mod Ranked
pub mod Flags
pub mod Reached
pub mod Decided
pub mod Example
pub mod Cheaper
