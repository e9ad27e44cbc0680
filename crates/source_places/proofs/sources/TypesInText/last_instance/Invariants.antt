use Rattle.std.proofs.Common.{take}
use Rattle.source_places.specs.States.{IsLastIn}
use Rattle.source_places.proofs.sources.TypesInText.last_instance.Given as goal

abbrev pub invariant-loop-link : goal.invariant-loop-link
invariant-loop-link l = IsLastIn l.self (take l.link-index l.chain) l.last
