pub mod Facts
pub mod Live
pub mod Search
