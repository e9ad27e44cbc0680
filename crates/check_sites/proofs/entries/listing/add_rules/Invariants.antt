use Rattle.tree_nodes.specs.declared.tree.Rule.{Rule}
use Rattle.check_sites.proofs.OfEntries.Adding.{Continues}
use Rattle.check_sites.proofs.OfEntries.Looping.{rules_from}
use Rattle.check_sites.proofs.entries.listing.add_rules.Given as goal

abbrev pub invariant-loop-rule : goal.invariant-loop-rule
invariant-loop-rule l = Continues Rule rules_from l.fn.found.items l.found.items l.rules l.rule
