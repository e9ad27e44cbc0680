pub mod Asking
pub mod Edges
pub mod Order
pub mod Standing
pub mod Views
