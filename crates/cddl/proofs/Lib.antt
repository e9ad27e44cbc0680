pub mod ByTable
pub mod Deciding
pub mod Handing
pub mod Rereading
pub mod Telling
pub mod Texts
