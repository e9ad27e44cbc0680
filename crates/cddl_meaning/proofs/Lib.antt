pub mod Lemmas
mod Alike
mod Covers
mod Held
mod Costs
mod Means
mod Once
mod Sizes
mod Tallies
mod Inside
mod Matches
mod SameItems
mod SameFates
mod SameSays
pub mod OfRanks
