pub mod Counting
pub mod Lemmas
pub mod Reached
pub mod Standing
