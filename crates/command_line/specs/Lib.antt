pub mod Chosen
pub mod Errors
pub mod Lines
pub mod Reading
