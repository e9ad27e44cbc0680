pub mod Answering
pub mod Defining
pub mod Heading
pub mod Kinding
pub mod Opening
pub mod Tops
