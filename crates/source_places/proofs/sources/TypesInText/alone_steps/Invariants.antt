use Rattle.source_places.specs.States.{IsAloneStep}
use Rattle.source_places.proofs.Splicing.{AreStepsTo}
use Rattle.source_places.proofs.sources.TypesInText.alone_steps.Given as goal

abbrev pub invariant-loop-piece : goal.invariant-loop-piece
invariant-loop-piece l = AreStepsTo l.self (IsAloneStep l.self) l.steps.items l.piece-index
