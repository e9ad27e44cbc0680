pub mod Places
pub mod Shown
