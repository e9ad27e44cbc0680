pub mod Parts
pub mod Prelude
pub mod Survey
pub mod Words
