use Rattle.cbor_tape.specs.Keys.{mark_of}
use Rattle.cbor_tape.proofs.Walks.{AreOtherIf}
use Rattle.cbor_tape.proofs.keys.is_new.Given as goal

abbrev pub invariant-loop : goal.invariant-loop
invariant-loop l = AreOtherIf l.bytes l.tape l.first l.place l.last (mark_of l.key)
