pub mod Chains
pub mod Steps
