pub mod Deciding
pub mod Ends
pub mod Strings
pub mod Tokens
