mod Ranges
pub mod Refusing
pub mod Telling
mod Fronts
mod Besides
mod Reasoning
