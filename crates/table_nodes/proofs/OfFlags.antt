pub mod Complete
pub mod Flags
pub mod Places
pub mod Sound
