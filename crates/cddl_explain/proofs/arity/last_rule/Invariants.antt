use Rattle.std.proofs.Common.{◌≡◌, [], drop}
use Rattle.cddl_explain.specs.Arity.{last_rule}
use Rattle.cddl_explain.proofs.arity.last_rule.Given as goal

abbrev pub invariant-rule : goal.invariant-rule
invariant-rule l = last_rule l.found (drop l.k l.tokens) ≡ last_rule [] l.tokens
