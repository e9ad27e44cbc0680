pub mod Answering
pub mod Asking
pub mod Growing
pub mod Listing
pub mod Lists
pub mod Named
pub mod Placing
pub mod Reaching
mod OfLiveSites
