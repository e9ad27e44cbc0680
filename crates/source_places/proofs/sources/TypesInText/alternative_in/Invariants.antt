use Rattle.std.proofs.Common.{◌≡◌, ◌+◌, ◌≤◌, drop, length}
use Rattle.source_places.specs.States.{counted}
use Rattle.source_places.proofs.sources.TypesInText.alternative_in.Given as goal

abbrev pub invariant-rules : goal.invariant-rules
invariant-rules l = record {
  within : l.left ≤ length l.self.rules.items;
  sum : l.own + counted l.number (drop l.left l.self.rules.items) ≡ l.fn.alternative;
}

abbrev pub decreases-rules : goal.decreases-rules
decreases-rules l = l.left
