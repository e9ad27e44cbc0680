-- What callers' proofs may name of this crate.
pub use Rattle.check_root.proofs.OfRangeFaults.Whole.{OneTerm}
