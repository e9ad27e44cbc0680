use Rattle.tree_nodes.specs.declared.tree.Entry.{Entry}
use Rattle.tree_nodes.specs.declared.tree.Further.{Further}
use Rattle.tree_nodes.specs.declared.tree.GrpChoice.{GrpChoice}
use Rattle.check_sites.specs.Sites.Walk.{entry_sites, further_sites, choice_sites}
use Rattle.check_sites.proofs.OfSites.Adding.{Continues}
use Rattle.check_sites.proofs.sites.walk.+walk.Given as goal

abbrev pub invariant-add_entries-loop-entry : goal.invariant-add_entries-loop-entry
invariant-add_entries-loop-entry l = Continues Entry entry_sites l.fn.found.items l.found.items l.place l.entry-items l.entry-index

abbrev pub invariant-add_further-loop-further : goal.invariant-add_further-loop-further
invariant-add_further-loop-further l = Continues Further further_sites l.fn.found.items l.found.items l.place l.further-items l.further-index

abbrev pub invariant-add_group-loop-choice : goal.invariant-add_group-loop-choice
invariant-add_group-loop-choice l = Continues GrpChoice choice_sites l.initial.found.items l.found.items l.place l.choice-items l.choice-index
