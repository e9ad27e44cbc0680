pub mod Flags
pub mod Following
pub mod Lists
pub mod Meaning
pub mod Parts
pub mod Sizes
pub mod Spliced
pub mod Told
