pub mod Elements
pub mod Paths
pub mod Walked
pub mod Leads
