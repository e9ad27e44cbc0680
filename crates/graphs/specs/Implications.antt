pub mod Implications
pub mod Rules
pub mod Search
