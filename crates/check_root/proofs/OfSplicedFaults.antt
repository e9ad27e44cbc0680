pub mod Crowding
pub mod Keyless
pub mod Rows
pub mod Shaping
