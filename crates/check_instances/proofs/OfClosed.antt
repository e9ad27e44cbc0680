pub mod Alike
pub mod Groups
pub mod Rows
pub mod Reached
pub mod Walks
