use Rattle.std.proofs.Common.{◌≡◌, drop}
use Rattle.cddl_explain.specs.Roots.{first_container}
use Rattle.cddl_explain.proofs.roots.first_container.Given as goal

abbrev pub invariant-rule : goal.invariant-rule
invariant-rule l = first_container l.here (drop l.k l.tokens) ≡ first_container l.here l.tokens
