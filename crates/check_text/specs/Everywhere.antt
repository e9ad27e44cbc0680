pub mod Codes
pub mod Rules
