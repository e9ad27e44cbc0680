use Rattle.std.proofs.Common.{arith}
use Rattle.table_nodes.specs.Language.{language_of, rank_of, root_form}
use Rattle.cddl_meaning.proofs.Lemmas.{forms_are_literals}
use Rattle.cddl_match.proofs.laws.costs_no_more.Goals as goal

pub returns : goal.returns
returns c = λ table x room. c.counts_no_more.ensures (language_of table) (rank_of table) table.ranks table.ranked (forms_are_literals (language_of table)) (root_form table) 0 x (omega (arith, room))
