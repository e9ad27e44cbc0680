pub mod Unsound
pub mod Length
pub mod Gone
pub mod Walk
pub mod Laying
pub mod Place
