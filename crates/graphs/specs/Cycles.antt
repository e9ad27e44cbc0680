pub mod Graph
pub mod Links
pub mod Search
pub mod Turns
