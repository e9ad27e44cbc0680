pub mod Making
pub mod Parts
pub mod Reaching
pub mod Taking
