mod Entries
mod Forms
mod Heads
mod Leaves
pub mod Lemmas
mod Contents
mod Marks
mod Members
mod Parted
mod Rising
mod Listing
mod Pairs
mod Walks
pub mod OfPlaces
