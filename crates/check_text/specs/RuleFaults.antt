pub mod Arity
pub mod Duplicates
pub mod Kinds
pub mod Root
