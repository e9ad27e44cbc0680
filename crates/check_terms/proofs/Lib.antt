pub mod Adding
pub mod Defining
pub mod Equal
pub mod Filling
pub mod Growing
pub mod Holding
pub mod Inverse
pub mod Numbering
pub mod Cutting
mod OfFill
pub mod OfTexts
