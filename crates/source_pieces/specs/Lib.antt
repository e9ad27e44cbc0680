pub mod Filling
pub mod Instances
pub mod Origins
pub mod Pieces
pub mod Rules
pub mod Spans
pub mod Walk
