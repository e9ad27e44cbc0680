use Rattle.std.proofs.Common.{◌≡◌, ◌+◌, drop}
use Rattle.cddl_explain.specs.Spots.{passed}
use Rattle.cddl_explain.proofs.spots.passed.Given as goal

abbrev pub invariant-token : goal.invariant-token
invariant-token l = passed l.at l.tokens ≡ l.k + passed l.at (drop l.k l.tokens)
