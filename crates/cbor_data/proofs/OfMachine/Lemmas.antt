-- What callers' proofs may name of this crate.
pub use Rattle.cbor_data.proofs.OfMachine.Embedding.{embedded_read, held_told, item_told}
pub use Rattle.cbor_data.proofs.OfMachine.Keeping.{bytes-append}
pub use Rattle.cbor_data.proofs.OfMachine.OneFault.{one}
pub use Rattle.cbor_data.proofs.OfMachine.Shallow.{item_in, leads_begins_within, steps_in-append}
pub use Rattle.cbor_data.proofs.OfMachine.Telling.{clear, tell_deep, tell_end, tell_form, tell_long, tell_long_end, unfinished, whole, whole_front}
