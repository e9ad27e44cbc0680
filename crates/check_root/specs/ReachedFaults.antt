pub mod Choices
pub mod Unwrapping
