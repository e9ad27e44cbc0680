pub mod Searching
pub mod Counting
pub mod Arriving
pub mod Leading
