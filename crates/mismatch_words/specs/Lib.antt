pub mod Causes
pub mod Floats
pub mod Lines
pub mod Paths
pub mod Reasons
pub mod Types
pub mod Values
