pub mod Kinds
pub mod Marks
pub mod Names
pub mod Unwrapped
pub mod Reads
pub mod Words
pub mod Roles
pub mod Told
