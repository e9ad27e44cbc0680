pub mod Environment
pub mod Kinds
