-- What callers' proofs may name of this crate.
pub use Rattle.read_items.proofs.OfWhole.Arguments.{small_part}
pub use Rattle.read_items.proofs.OfWhole.Items.{uint_item, nint_item, bytes_item, text_item, array_item, map_item, tag_item, last_item, is_info, content_len, string_lies, whole_front, deeper_front}
pub use Rattle.read_items.proofs.OfWhole.Joined.{with_form, forms_len-with, with_pair_form, pair_forms_len-with}
pub use Rattle.read_items.proofs.OfWhole.Members.{one_form_more, one_pair_form_more}
pub use Rattle.read_items.proofs.OfWhole.ToBreak.{bytes_in_chunks, text_in_chunks, broken_array, broken_map, no_chunks, one_chunk_more}
