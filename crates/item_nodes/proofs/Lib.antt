mod Bytes
mod Flats
mod Walks
mod Commas
mod Views
mod HeadOrder
mod Differing
pub mod Lemmas
