pub mod Computing
pub mod Faults
pub mod Reasons
pub mod Rows
