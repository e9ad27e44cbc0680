pub mod Origins
pub mod Ranks
pub mod Root
pub mod Text
