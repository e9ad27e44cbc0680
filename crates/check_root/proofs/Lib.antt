mod Least
mod OfReachedFaults
pub mod OfRangeFaults
mod OfControlFaults
mod OfRootFaults
mod OfSplicedFaults
