pub mod Controls
pub mod HashForm
pub mod Occurrence
pub mod TagNumber
