pub mod Faults
pub mod Moving
pub mod Terms
pub mod Tokens
