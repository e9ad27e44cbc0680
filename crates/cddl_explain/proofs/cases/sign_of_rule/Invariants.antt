use Rattle.std.proofs.Common.{◌≡◌, drop}
use Rattle.cddl_explain.specs.Cases.{sign_of_rule}
use Rattle.cddl_explain.proofs.cases.sign_of_rule.Given as goal

abbrev pub invariant-token : goal.invariant-token
invariant-token l = sign_of_rule (drop l.k l.tokens) ≡ sign_of_rule l.tokens
