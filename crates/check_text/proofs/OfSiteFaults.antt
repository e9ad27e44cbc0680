pub mod Lemmas
pub mod Marking
pub mod Naming
pub mod Telling
pub mod Tildes
pub mod Wrong
