pub mod View
pub mod Syntax
