pub mod Splices
pub mod Sorts
pub mod Summaries
pub mod Search
pub mod Building
