use Rattle.source_places.specs.States.{IsStep}
use Rattle.source_places.proofs.Splicing.{AreStepsTo}
use Rattle.source_places.proofs.sources.TypesInText.steps.Given as goal

abbrev pub invariant-loop-piece : goal.invariant-loop-piece
invariant-loop-piece l = AreStepsTo l.self (IsStep l.self l.map) l.steps.items l.piece-index
