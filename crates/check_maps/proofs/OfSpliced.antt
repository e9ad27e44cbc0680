pub mod Following
pub mod Inside
pub mod Leading
pub mod Standing
pub mod Telling
pub mod Walking
