use Rattle.cbor_tape.proofs.OfPlaces.Lemmas.{after_here}
use Rattle.cbor_tape.proofs.places.Taped.after.Goals as goal

pub returns : goal.returns
returns c = after_here c.args.self.now c.args.place c.next.result c.next.ensures
