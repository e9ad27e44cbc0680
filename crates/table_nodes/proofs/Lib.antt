pub mod Lemmas
mod Rows
mod Greatest
mod Joining
mod Finding
mod Members
mod Showing
mod Rowing
mod OfFlags
mod Asking
mod Beginning
mod OfKeys
