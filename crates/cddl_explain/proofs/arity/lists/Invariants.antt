use Rattle.std.proofs.Common.{◌≡◌, drop}
use Rattle.cddl_explain.specs.Arity.{lists}
use Rattle.cddl_explain.proofs.arity.lists.Given as goal

abbrev pub invariant-token : goal.invariant-token
invariant-token l = lists l.name (drop l.k l.tokens) ≡ lists l.name l.tokens
