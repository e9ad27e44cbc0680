pub mod Bounds
pub mod Ends
