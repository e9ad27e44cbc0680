pub mod Outcome
pub mod RootFaults
pub mod Spec
pub mod Stages
pub mod Text
pub mod Told
