pub mod Choices
pub mod Filled
pub mod Found
pub mod Meant
pub mod Operands
pub mod Reached
pub mod Standing
