pub mod Telling
pub mod Streams
pub mod Steps
pub mod Showing
mod Refusing
mod Crossing
mod LooseValues
mod OwnedValues
mod Values
mod SessionValues
