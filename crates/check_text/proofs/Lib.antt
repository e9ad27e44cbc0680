pub mod Clear
pub mod Firsts
pub mod Ordering
pub mod Refusing
pub mod Rooting
pub mod Staging
mod OfEverywhere
mod OfRuleFaults
pub mod OfSiteFaults
