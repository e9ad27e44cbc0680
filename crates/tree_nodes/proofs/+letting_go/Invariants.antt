use Rattle.tree_nodes.proofs.+letting_go.Given as goal

abbrev pub invariant-letting_go::let_go_of_entries-loop-entry :
    goal.invariant-letting_go::let_go_of_entries-loop-entry
invariant-letting_go::let_go_of_entries-loop-entry l =
    goal.no_deeper-letting_go::let_go_of_entries-loop-entry l

abbrev pub decreases-letting_go::let_go_of_entries-loop-entry :
    goal.decreases-letting_go::let_go_of_entries-loop-entry
decreases-letting_go::let_go_of_entries-loop-entry l =
    goal.left-letting_go::let_go_of_entries-loop-entry l

abbrev pub invariant-letting_go::let_go_of_further-loop-further :
    goal.invariant-letting_go::let_go_of_further-loop-further
invariant-letting_go::let_go_of_further-loop-further l =
    goal.no_deeper-letting_go::let_go_of_further-loop-further l

abbrev pub decreases-letting_go::let_go_of_further-loop-further :
    goal.decreases-letting_go::let_go_of_further-loop-further
decreases-letting_go::let_go_of_further-loop-further l =
    goal.left-letting_go::let_go_of_further-loop-further l

abbrev pub invariant-letting_go::let_go_of_group-loop-choice :
    goal.invariant-letting_go::let_go_of_group-loop-choice
invariant-letting_go::let_go_of_group-loop-choice l =
    goal.no_deeper-letting_go::let_go_of_group-loop-choice l

abbrev pub decreases-letting_go::let_go_of_group-loop-choice :
    goal.decreases-letting_go::let_go_of_group-loop-choice
decreases-letting_go::let_go_of_group-loop-choice l =
    goal.left-letting_go::let_go_of_group-loop-choice l
