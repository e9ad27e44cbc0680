use Rattle.cbor_tape.proofs.OfPlaces.Lemmas.{whole_here}
use Rattle.cbor_tape.proofs.places.Taped.new.Goals as goal

pub returns : goal.returns
returns c depth n whole = whole_here (record { bytes = c.args.bytes; tape = c.args.tape }) depth n whole
