pub mod Joining
pub mod Numbers
