pub mod Spliced
pub mod MapFaults
pub mod MapCycles
