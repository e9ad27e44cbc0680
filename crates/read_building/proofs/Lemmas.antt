-- What callers' proofs may name of this crate.
pub use Rattle.read_building.proofs.Builds.{builds_leads, notes_leads, built, noted}
pub use Rattle.read_building.proofs.Steps.{work_leads, nothing_in_work}
pub use Rattle.read_building.proofs.Spelled.{spelled}
