use Rattle.std.proofs.Common.{◌≡◌, drop}
use Rattle.cddl_explain.specs.Origins.{first_rule}
use Rattle.cddl_explain.proofs.origins.first_rule.Given as goal

abbrev pub invariant-rule : goal.invariant-rule
invariant-rule l = first_rule l.name (drop l.k l.tokens) ≡ first_rule l.name l.tokens
