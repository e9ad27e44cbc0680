pub mod Values
pub mod Digits
