pub mod Alike
pub mod Meaning
pub mod Options
pub mod Rows
pub mod Through
