pub mod Bounds
pub mod Readings
pub mod Tables
pub mod Ways
