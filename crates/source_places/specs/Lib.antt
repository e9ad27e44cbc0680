pub mod Copies
pub mod Places
pub mod Sources
pub mod Spots
pub mod States
