pub mod Assembling
pub mod Edging
pub mod Knowing
pub mod Lists
pub mod Needing
pub mod Reaching
pub mod Stepping
pub mod Telling
pub mod Valuing
mod OfSizes
mod OfValues
