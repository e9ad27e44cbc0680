pub mod Defining
pub mod Growing
pub mod Lists
pub mod Members
