pub mod Sums
pub mod Dedent
pub mod Joins
