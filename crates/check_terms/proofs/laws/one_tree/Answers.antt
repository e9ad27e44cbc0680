use Rattle.check_terms.proofs.Holding as holding
use Rattle.check_terms.proofs.laws.one_tree.Goals as goal

pub returns : goal.returns
returns c = holding.one_tree
