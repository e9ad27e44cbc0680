pub mod Lemmas
pub mod Digits
pub mod Places
pub mod Forms
