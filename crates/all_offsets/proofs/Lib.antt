mod Gathering
pub mod Lemmas
mod Lists
mod Telling
