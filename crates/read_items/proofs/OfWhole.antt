pub mod Arguments
pub mod Items
pub mod Joined
pub mod Members
pub mod ToBreak
pub mod Lemmas
