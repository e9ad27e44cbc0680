use Rattle.std.proofs.Common.{arith}
use Rattle.cbor_tape.proofs.OfPlaces.Lemmas.{no_pair_here, some_first_pair}
use Rattle.cbor_tape.proofs.places.Taped.first_pair.Goals as goal

pub returns-then-place-end : goal.returns-then-place-end
returns-then-place-end c ps on = no_pair_here c.args.self.now c.args.place c.args.end (record { head = 0; next = 0 }) ps on (λ some one two. omega (arith, some))

pub returns-in_default : goal.returns-in_default
returns-in_default c ps on = no_pair_here c.args.self.now c.args.place c.args.end (record { head = 0; next = 0 }) ps on (λ some one two. omega (arith, c.in_default.ensures, one))

pub returns-in_default-next : goal.returns-in_default-next
returns-in_default-next c ps on = no_pair_here c.args.self.now c.args.place c.args.end (record { head = 0; next = 0 }) ps on (λ some one two. omega (arith, c.in-Some.ensures, c.in_default-next.ensures, two))

pub returns : goal.returns
returns c ps on = some_first_pair c.args.self.now c.args.place c.args.end c.in-Some.held c.in-Some-next.next ps c.in-Some.ensures c.in-Some-next.ensures (omega arith) on
