use Rattle.cbor_tape.proofs.OfPlaces.Lemmas.{major_here}
use Rattle.cbor_tape.proofs.places.Taped.major.Goals as goal

pub returns : goal.returns
returns c x on = major_here c.args.self.now c.args.place (record { head = 0; next = 0 }) x on
