pub mod Heads
pub mod Kinds
pub mod Links
