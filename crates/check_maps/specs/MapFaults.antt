pub mod Faults
pub mod Large
pub mod Rules
