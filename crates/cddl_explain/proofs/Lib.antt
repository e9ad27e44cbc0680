pub mod Counting
pub mod Expecting
pub mod Finding
pub mod Hinting
pub mod Naming
pub mod Refused
pub mod Ruling
pub mod Wording
