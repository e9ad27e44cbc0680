pub mod Closing
pub mod Counting
pub mod Ending
pub mod Keeping
pub mod Nesting
pub mod Reading
pub mod Verdict
