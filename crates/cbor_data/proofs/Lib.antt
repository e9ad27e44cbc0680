mod Unique
mod PreferredSpells
mod PreferredLength
mod Spelled
mod BadText
mod SameLaws
mod Embedding
mod Told
mod EquivalenceLaws
mod Reorders
mod Keeps
mod ByDeterministic
mod ByteOrder
mod Apart
mod Falls
mod Rises
mod SameTold
mod Gathers
mod SameSpelling
mod SameSound
pub mod Lemmas
pub mod OfMachine
