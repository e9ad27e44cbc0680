-- What callers' proofs may name of this crate.
pub use Rattle.cddl_decided.proofs.Freedom.{FreeGroup, FreeItems, FreeType, free_group, free_group_alike, free_items, free_items_alike, free_type, free_types_alike}
