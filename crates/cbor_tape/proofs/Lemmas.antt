-- What callers' proofs may name of this crate.
pub use Rattle.cbor_tape.proofs.Entries.{places_counted, first_place}
pub use Rattle.cbor_tape.proofs.Forms.{info_of, info_below, head_first, byte_there, form_major, form_info, FormByte, form_byte}
