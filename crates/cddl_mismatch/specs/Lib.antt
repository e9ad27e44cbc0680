pub mod Causes
pub mod Explained
pub mod Keys
pub mod Lines
pub mod Places
