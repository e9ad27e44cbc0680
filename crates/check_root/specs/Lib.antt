pub mod Least
pub mod ReachedFaults
pub mod RangeFaults
pub mod ControlFaults
pub mod RootFaults
pub mod SplicedFaults
