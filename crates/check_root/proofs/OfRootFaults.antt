pub mod Coming
pub mod Few
