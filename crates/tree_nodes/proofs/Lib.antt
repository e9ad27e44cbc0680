pub mod Starting
pub mod Lemmas
mod OfSyntax
