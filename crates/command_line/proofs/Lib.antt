pub mod Commands
pub mod Devices
pub mod Meeting
pub mod Taking
