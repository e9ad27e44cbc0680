pub mod Answers
pub mod Bytes
pub mod Numbers
pub mod Escapes
pub mod Strings
pub mod Prefixed
pub mod Literals
pub mod Operators
