pub mod Sites
pub mod Written
