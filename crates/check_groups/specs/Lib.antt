pub mod Causes
pub mod Choosing
pub mod Empty
pub mod Splices
