use Rattle.graphs.proofs.chains.+links_after.Given as goal

abbrev pub decreases-links_after : goal.decreases-links_after
decreases-links_after l = l.count
