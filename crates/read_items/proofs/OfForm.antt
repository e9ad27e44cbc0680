pub mod Stacks
pub mod Heads
pub mod Runs
