pub mod Causes
pub mod Choosing
pub mod Nesting
pub mod Occurrences
pub mod Signs
