mod LastItems
mod Shares
mod Steps
mod Tellings
