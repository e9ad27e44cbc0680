-- What callers' proofs may name of this crate.
pub use Rattle.cbor_data.proofs.BadText.{good_text, one_text}
pub use Rattle.cbor_data.proofs.Embedding.{embedded_after, one_embedded}
pub use Rattle.cbor_data.proofs.PreferredLength.{preferred_len, shortest_head_some, simple_some}
pub use Rattle.cbor_data.proofs.PreferredSpells.{broken_len, counts_of, float_some, form_some, head_some, sound_preferred, spells_preferred}
pub use Rattle.cbor_data.proofs.SameLaws.{same_value-laws}
pub use Rattle.cbor_data.proofs.Spelled.{spelled_assignable, spelled_fitting, spelled_in_range, spelled_places}
pub use Rattle.cbor_data.proofs.Told.{key_told, text_told, valid_told}
pub use Rattle.cbor_data.proofs.SameTold.{same_told}
pub use Rattle.cbor_data.proofs.EquivalenceLaws.{itself, back, onward, pairs_itself, pairs_back, pairs_onward, added_same}
pub use Rattle.cbor_data.proofs.Reorders.{pairs_same_ordered, put_added, same_ordered}
pub use Rattle.cbor_data.proofs.Keeps.{ArePairsWritable, as_many_pairs, map_parts, same_writable}
pub use Rattle.cbor_data.proofs.ByDeterministic.{deterministic_spelled, same_by_deterministic}
pub use Rattle.cbor_data.proofs.Falls.{one_order}
pub use Rattle.cbor_data.proofs.Apart.{HasKeysApart, AreKeysApart, apart_valid, same_valid, valid_apart}
pub use Rattle.cbor_data.proofs.Gathers.{gathered, gathered_all}
pub use Rattle.cbor_data.proofs.Rises.{rising, in_order}
pub use Rattle.cbor_data.proofs.SameSound.{same_length, same_sound, sound_writable}
pub use Rattle.cbor_data.proofs.Unique.{one_form, unfinished_no_front, unique, unique_front}
