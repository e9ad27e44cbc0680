pub mod Adding
pub mod Asked
pub mod Containing
pub mod Nodes
pub mod Rules
