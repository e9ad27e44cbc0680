pub mod Back
pub mod Growing
pub mod Lists
pub mod Owners
pub mod Rows
pub mod Standing
pub mod Ways
pub mod Whole
