use Rattle.std.proofs.Common.{◌≡◌, drop}
use Rattle.cddl_explain.specs.Rules.{closes}
use Rattle.cddl_explain.proofs.rules.closes.Given as goal

abbrev pub invariant-token : goal.invariant-token
invariant-token l = closes (drop l.k l.tokens) ≡ closes l.tokens
