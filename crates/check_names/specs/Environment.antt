pub mod Environment
pub mod Names
pub mod Places
