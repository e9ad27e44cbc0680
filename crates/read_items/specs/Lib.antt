pub mod Arguments
pub mod Form
pub mod Room
pub mod Whole
