mod Ahead
mod Cycling
mod Freely
mod Numbers
mod Ordering
mod Presence
mod Pushing
mod Rows
