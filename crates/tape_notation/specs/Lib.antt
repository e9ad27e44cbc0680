pub mod Heads
pub mod OnTape
pub mod Put
