pub mod Definitions
pub mod Entries
pub mod Filled
pub mod Numbers
pub mod Table
pub mod Trees
pub mod Fill
pub mod Texts
