-- What callers' proofs may name of this crate.
pub use Rattle.cddl_meaning.proofs.OfRanks.Flags.{ranked_by, by_flags}
pub use Rattle.cddl_meaning.proofs.OfRanks.Frames.{few_are_open}
pub use Rattle.cddl_meaning.proofs.OfRanks.Some.{is_decided, founded_decided}
pub use Rattle.cddl_meaning.proofs.OfRanks.Founded.{AreAll, AreFounded, HasEntry, HasGroupParts, HasNumber, HasTypeParts, IsFounded, founded}
