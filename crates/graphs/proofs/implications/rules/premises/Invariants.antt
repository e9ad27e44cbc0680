use Rattle.std.proofs.Common.{◌≡◌, ◌++◌, drop}
use Rattle.graphs.specs.Implications.Rules.{premises_of}
use Rattle.graphs.proofs.implications.rules.premises.Given as goal

abbrev pub invariant-loop-implication : goal.invariant-loop-implication
invariant-loop-implication l = l.premises.items ++ premises_of l.facts (drop l.implication-index l.implications) ≡ premises_of l.facts l.implications
