-- What callers' proofs may name of this crate.
pub use Rattle.table_nodes.proofs.Showing.{FirstShows, a_yes, a_no, first_shows, in_language, no_array, no_less, no_map, no_simple, no_tag, once, once_no, one_less, test_told, there_shows, was_kept}
pub use Rattle.table_nodes.proofs.Asking.{as_many, as_many_entries, entries_passed, passed}
