use Rattle.source_pieces.proofs.FilledPieces.{AreSlotsSoFar}
use Rattle.source_pieces.proofs.filling.slots_of.Given as goal

abbrev pub invariant-loop-definition : goal.invariant-loop-definition
invariant-loop-definition l = AreSlotsSoFar l.definitions l.slots.items l.definition-index
