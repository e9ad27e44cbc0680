pub mod Causes
pub mod Joining
pub mod Meaning
pub mod Nesting
pub mod Settling
pub mod Signed
pub mod Through
