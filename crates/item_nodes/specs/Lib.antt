pub mod View
pub mod Counted
pub mod InOrder
pub mod Comma
pub mod Apart
