pub mod Filled
pub mod Growing
pub mod Placing
pub mod Reading
pub mod Replacing
pub mod Unfilled
pub mod Unfolding
