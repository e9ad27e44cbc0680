use Rattle.tree_nodes.specs.declared.tree.Entry.{Entry}
use Rattle.tree_nodes.specs.declared.tree.Further.{Further}
use Rattle.tree_nodes.specs.declared.tree.GrpChoice.{GrpChoice}
use Rattle.source_pieces.specs.Walk.{entry_pieces, further_pieces, choice_pieces}
use Rattle.source_pieces.proofs.Adding.{Continues}
use Rattle.source_pieces.proofs.walk.+walk.Given as goal

abbrev pub invariant-add_entries-loop-entry : goal.invariant-add_entries-loop-entry
invariant-add_entries-loop-entry l = Continues Entry (entry_pieces l.around) l.fn.found.items l.found.items l.rule l.entry-items l.entry-index

abbrev pub invariant-add_further-loop-further : goal.invariant-add_further-loop-further
invariant-add_further-loop-further l = Continues Further further_pieces l.fn.found.items l.found.items l.rule l.further-items l.further-index

abbrev pub invariant-add_group-loop-choice : goal.invariant-add_group-loop-choice
invariant-add_group-loop-choice l = Continues GrpChoice (choice_pieces l.around) l.initial.found.items l.found.items l.rule l.choice-items l.choice-index
