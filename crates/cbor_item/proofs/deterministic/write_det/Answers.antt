use Rattle.std.proofs.Common.{sym, subst}
use Rattle.cbor_data.specs.Sound.{HasShortSpelling}
use Rattle.cbor_data.specs.Validity.{IsValid}
use Rattle.item_nodes.specs.View.{view}
use Rattle.cbor_item.proofs.Plain.{plain_spelled}
use Rattle.cbor_item.proofs.deterministic.write_det.Goals as goal

pub add_det-requires-clause-plain : goal.add_det-requires-clause-plain
add_det-requires-clause-plain g c = plain_spelled (view c.item.result.now) (subst HasShortSpelling (sym c.item.ensures.same) c.item.ensures.sound.short)

pub add_det-requires-clause-valid : goal.add_det-requires-clause-valid
add_det-requires-clause-valid g c = subst IsValid (sym c.item.ensures.same) c.item.ensures.sound.valid
