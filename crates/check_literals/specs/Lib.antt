pub mod Edges
pub mod Found
pub mod Literals
pub mod Needs
pub mod Written
pub mod Sizes
pub mod Values
