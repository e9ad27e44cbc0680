pub mod Failures
pub mod Rules
pub mod Stopped
pub mod Tables
pub mod Validated
