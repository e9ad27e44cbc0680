mod Decimals
mod Forms
mod Heads
mod Items
pub mod Lemmas
mod Longest
mod Members
mod OnTape
mod Pairs
mod Puts
mod Strings
