use Rattle.std.proofs.Common.{◌≡◌, drop}
use Rattle.check_text.specs.RuleFaults.Root.{number_of_name}
use Rattle.check_text.proofs.rule_faults.root.number_in.Given as goal

abbrev pub invariant-loop-definition : goal.invariant-loop-definition
invariant-loop-definition l = number_of_name l.terms.texts l.name (drop l.definition-index l.definitions) ≡ number_of_name l.terms.texts l.name l.definitions
