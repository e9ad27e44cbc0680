-- What callers' proofs may name of this crate.
pub use Rattle.item_nodes.proofs.Views.{view-Uint, view-Nint, view-Bytes, view-Text, view-Array, view-Map, view-Tag}
pub use Rattle.item_nodes.proofs.Walks.{values_view-drop, pairs_view-drop, values_view-end, pairs_view-end, values_len-view, pairs_len-view, pair_size, pair_size-within, size-within}
