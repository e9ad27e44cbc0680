use Rattle.std.proofs.Common.{arith}
use Rattle.std.proofs.lemmas.Option.{IfSome_then}
use Rattle.cbor_tape.proofs.Leaves.{byte_chunks_leaf, text_chunks_leaf}
use Rattle.cbor_tape.proofs.leaf.string_to_break_end.Goals as goal

pub returns-in-95 : goal.returns-in-95
returns-in-95 c = IfSome_then c.chunks_end.result c.chunks_end.ensures (λ end s. byte_chunks_leaf c.args.bytes.now c.args.at end (omega arith) c.in-95.is s)

pub returns-in-127 : goal.returns-in-127
returns-in-127 c = IfSome_then c.chunks_end-in-127.result c.chunks_end-in-127.ensures (λ end s. text_chunks_leaf c.args.bytes.now c.args.at end (omega arith) c.in-127.is s)
