pub mod Acting
pub mod Further
pub mod Progress
pub mod Reasons
pub mod Screens
