pub mod Asked
pub mod Calls
pub mod Reached
pub mod Runs
