pub mod Tape
pub mod Parts
pub mod Keys
pub mod Contents
pub mod Parted
pub mod Places
