pub mod Bounding
pub mod Cutting
pub mod Ending
pub mod Lemmas
pub mod Ranges
pub mod Stars
pub mod Whole
