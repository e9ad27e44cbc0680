pub mod Chaining
pub mod Ending
pub mod Joining
pub mod Leading
pub mod Parting
