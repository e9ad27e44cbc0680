pub mod Flags
pub mod Resolved
pub mod Rows
pub mod Rules
