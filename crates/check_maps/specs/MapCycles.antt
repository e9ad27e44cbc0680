pub mod Coming
pub mod Edges
