pub mod Closed
pub mod Joining
pub mod Looking
pub mod Spines
