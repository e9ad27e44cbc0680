pub mod Adding
pub mod Looping
pub mod Nodes
pub mod Opening
pub mod Splicing
pub mod Standing
