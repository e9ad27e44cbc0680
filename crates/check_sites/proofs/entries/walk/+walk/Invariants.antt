use Rattle.tree_nodes.specs.declared.tree.Entry.{Entry}
use Rattle.tree_nodes.specs.declared.tree.GrpChoice.{GrpChoice}
use Rattle.check_sites.specs.Entries.Walk.{choice_part, entry_part}
use Rattle.check_sites.proofs.OfEntries.Adding.{Continues, several}
use Rattle.check_sites.proofs.entries.walk.+walk.Given as goal

abbrev pub invariant-add_entries-loop-entry : goal.invariant-add_entries-loop-entry
invariant-add_entries-loop-entry l = Continues Entry (several l.place entry_part) l.fn.found.items l.found.items l.entry-items l.entry-index

abbrev pub invariant-add_group-loop-choice : goal.invariant-add_group-loop-choice
invariant-add_group-loop-choice l = Continues GrpChoice (several l.place choice_part) l.initial.found.items l.found.items l.choice-items l.choice-index
