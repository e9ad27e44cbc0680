use Rattle.std.proofs.Common.{◌≡◌, ◌++◌, drop}
use Rattle.near_words.specs.Near.{texts}
use Rattle.cddl_explain.specs.Rules.{rule_names}
use Rattle.cddl_explain.proofs.rules.rule_names.Given as goal

abbrev pub invariant-rule : goal.invariant-rule
invariant-rule l = texts l.names.items ++ rule_names (drop l.k l.tokens) ≡ rule_names l.tokens
