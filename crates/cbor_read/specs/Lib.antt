pub mod Reading
pub mod Answers
pub mod Outcomes
pub mod Steps
pub mod Turns
pub mod Fronts
pub mod Firsts
