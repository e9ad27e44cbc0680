pub mod Adding
pub mod Naming
