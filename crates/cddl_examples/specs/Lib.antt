pub mod Checking
pub mod Decoding
pub mod Judging
pub mod Receiving
pub mod Writing
