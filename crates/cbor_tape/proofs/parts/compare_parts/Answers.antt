use Rattle.std.proofs.Common.{sym, ◌∙◌}
use Rattle.std.proofs.lemmas.Option.{IfSome_then}
use Rattle.cbor_tape.proofs.Parted.{heads_same}
use Rattle.cbor_tape.proofs.parts.compare_parts.Goals as goal

pub returns-in-Equal : goal.returns-in-Equal
returns-in-Equal c = IfSome_then c.compare_contents.result c.compare_contents.ensures (λ o told. heads_same c.args.bytes.now c.args.part.now c.args.other.now o (sym c.by_heads.ensures ∙ c.in-Equal.is) told)
