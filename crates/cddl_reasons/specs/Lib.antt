pub mod Greedy
pub mod Known
pub mod Opened
pub mod Optional
pub mod Told
