use Rattle.std.proofs.Common.{◌≡◌, ◌++◌, drop}
use Rattle.check_maps.specs.Spliced.Steps.{flagged}
use Rattle.check_maps.proofs.spliced.listing.flagged.Given as goal

abbrev pub invariant-loop-question : goal.invariant-loop-question
invariant-loop-question l = l.spliced.items ++ flagged l.closed.places.items l.flags (drop l.question-index l.asked) ≡ flagged l.closed.places.items l.flags l.asked
