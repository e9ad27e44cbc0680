pub mod Forward
pub mod Keeping
pub mod Refusing
pub mod Shallow
pub mod Telling
pub mod OneFault
pub mod Embedding
pub mod Lemmas
