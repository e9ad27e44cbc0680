pub mod Ending
pub mod Lists
pub mod Marking
pub mod Meaning
pub mod Standing
pub mod Walking
mod OfClosed
mod OfOpenings
mod OfOutlines
