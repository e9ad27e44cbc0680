pub mod Uints
pub mod Quoting
pub mod Answering
