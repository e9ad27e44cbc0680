-- What callers' proofs may name of this crate.
pub use Rattle.all_offsets.proofs.Gathering.{Gathers, all_at_places, all_of_members, among, begins, ends, goes_on_least, goes_on_said, in_order, none_anywhere, of_either, one_alone, read_at, same_offsets}
pub use Rattle.all_offsets.proofs.Lists.{IsOne, gains_both, gains_least, least_alone, moved_of, of_both, same_gains, same_of}
pub use Rattle.all_offsets.proofs.Telling.{Goes, finished, none_told, step_at, steps}
