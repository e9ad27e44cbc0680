pub mod Arguments
pub mod Filling
pub mod Making
pub mod Rows
pub mod Slots
pub mod Templates
