pub mod Arities
pub mod Clashes
pub mod Equals
pub mod Repeats
pub mod Roots
pub mod Rules
pub mod Telling
