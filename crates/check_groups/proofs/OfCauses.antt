pub mod Following
pub mod Parts
pub mod Reaching
pub mod Rows
