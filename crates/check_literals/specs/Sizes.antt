pub mod Controllers
pub mod Depths
pub mod Reach
pub mod Sizes
pub mod Sources
