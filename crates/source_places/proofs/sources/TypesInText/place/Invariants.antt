use Rattle.std.proofs.Common.{take}
use Rattle.source_places.specs.States.{IsStateOf}
use Rattle.source_places.proofs.sources.TypesInText.place.Given as goal

abbrev pub invariant-loop-link : goal.invariant-loop-link
invariant-loop-link l = IsStateOf l.self (take l.link-index l.chain) l.state
