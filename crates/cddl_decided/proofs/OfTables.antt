pub mod Heights
pub mod Instances
pub mod Listed
pub mod Numbered
pub mod Places
pub mod Ranked
pub mod Standing
pub mod Sure
