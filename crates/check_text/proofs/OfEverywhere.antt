pub mod Gathering
pub mod OfRules
pub mod Repeating
pub mod Roots
