pub mod Cycling
pub mod Faulty
pub mod Handing
pub mod Leaves
pub mod Lengths
pub mod Lists
pub mod Roots
