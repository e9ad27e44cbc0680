use Rattle.std.proofs.Common.{subst}
use Rattle.check_terms.specs.Fill.Slots.{ArePlacesOf}
use Rattle.source_pieces.proofs.FilledPieces.{no_slots, one_more_slots}
use Rattle.source_pieces.proofs.Reading.{item_there}
use Rattle.source_pieces.proofs.filling.slots_of.Goals as goal

pub loop-definition-init : goal.loop-definition-init
loop-definition-init c = no_slots c.args.definitions.now c.new-slots.result.items c.new-slots.ensures.items

pub loop-definition-preserved : goal.loop-definition-preserved
loop-definition-preserved c =
    one_more_slots c.args.definitions.now c.loop-definition.slots.items _ c.loop-definition.definition-index c.in_ok-its.its c.definition-item.result c.loop-definition.invariant
    (item_there c.args.definitions.now c.loop-definition.definition-index c.definition-item.result c.loop-definition-test.true c.definition-item.is)
    (subst (ArePlacesOf c.in_ok-its.its) c.deref.ensures.value c.in_ok-its.ensures) c.in_ok-push.ensures

pub returns : goal.returns
returns c = c.loop-definition.invariant.are
