pub mod Views
pub mod Tallies
