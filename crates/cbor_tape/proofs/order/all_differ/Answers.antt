use Rattle.cbor_tape.proofs.Rising.{keys_apart}
use Rattle.cbor_tape.proofs.order.all_differ.Goals as goal

pub returns-in-Untold-clause-apart : goal.returns-in-Untold-clause-apart
returns-in-Untold-clause-apart c = λ t ps on known. keys_apart ps (c.are_apart.ensures.apart t ps on)
