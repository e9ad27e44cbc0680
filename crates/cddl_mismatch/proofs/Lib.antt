mod Joining
mod Paths
mod Reading
mod Untold
