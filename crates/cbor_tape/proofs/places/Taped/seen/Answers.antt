use Rattle.cbor_tape.proofs.OfPlaces.Lemmas.{array_here, leaf_here, map_here, tag_here}
use Rattle.cbor_tape.proofs.places.Taped.seen.Goals as goal

pub returns-in-4 : goal.returns-in-4
returns-in-4 c x on = array_here c.args.self.now c.args.place (record { head = 0; next = 0 }) x on c.in-4.is

pub returns-in-5 : goal.returns-in-5
returns-in-5 c x on = map_here c.args.self.now c.args.place (record { head = 0; next = 0 }) x on c.in-5.is

pub returns-in_ok-tag_at-in-6 : goal.returns-in_ok-tag_at-in-6
returns-in_ok-tag_at-in-6 c x on = tag_here c.args.self.now c.args.place (record { head = 0; next = 0 }) c.in_ok-tag_at-in-6.field-0 x on c.in-6.is c.in_ok-tag_at-in-6.ensures

pub returns-in_default : goal.returns-in_default
returns-in_default c = leaf_here c.args.self.now c.args.place (record { head = 0; next = 0 }) c.leaf_at.result c.leaf_at.ensures
