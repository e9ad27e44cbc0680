pub mod Views
pub mod Bits
