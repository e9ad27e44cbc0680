pub mod OneEnd
pub mod SomeEnd
pub mod Streams
pub mod Texts
