pub mod Choosing
pub mod Sorts
pub mod Tildes
