pub mod Says
pub mod Told
