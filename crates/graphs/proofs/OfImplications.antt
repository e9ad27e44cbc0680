pub mod Lists
pub mod Least
pub mod Places
pub mod Steps
