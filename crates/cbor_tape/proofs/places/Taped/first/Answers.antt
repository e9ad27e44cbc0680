use Rattle.std.proofs.Common.{arith}
use Rattle.cbor_tape.proofs.OfPlaces.Lemmas.{none_here, some_first}
use Rattle.cbor_tape.proofs.places.Taped.first.Goals as goal

pub returns-then-place-end : goal.returns-then-place-end
returns-then-place-end c xs on = none_here c.args.self.now c.args.place c.args.end xs on (λ some within. omega (arith, some))

pub returns : goal.returns
returns c xs on = some_first c.args.self.now c.args.place c.args.end c.next.result xs (omega arith) c.next.ensures on
