pub mod Causes
pub mod Emptiness
pub mod Texts
