-- What callers' proofs may name of this crate.
pub use Rattle.cddl_meaning.proofs.Alike.{same_forms, says_too, does_too, said_before, did_before}
pub use Rattle.cddl_meaning.proofs.Costs.{costs, does_costs, forms_are_literals, never_yes, plain_keys, says_no, value_shows}
pub use Rattle.cddl_meaning.proofs.Held.{held_once}
pub use Rattle.cddl_meaning.proofs.Inside.{says_inside}
pub use Rattle.cddl_meaning.proofs.Matches.{AllFit, Fits, one_saying, said, did}
pub use Rattle.cddl_meaning.proofs.Means.{means, does}
pub use Rattle.cddl_meaning.proofs.SameSays.{said_of_same}
pub use Rattle.cddl_meaning.proofs.Sizes.{all_some, array_size, held_size, key_less, map_size, size_some, size_spelled, string_size, tag_size, value_less}
