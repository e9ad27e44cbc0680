pub mod Ending
pub mod Lists
pub mod Living
pub mod Parameters
pub mod Searching
