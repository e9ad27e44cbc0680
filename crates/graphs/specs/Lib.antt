pub mod Chains
pub mod Cycles
pub mod Implications
