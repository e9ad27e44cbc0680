use Rattle.check_terms.proofs.Holding.{each_stands, within}
use Rattle.check_terms.proofs.laws.rows_stand.Goals as goal

pub returns-clause-some : goal.returns-clause-some
returns-clause-some c = each_stands _ c.len.ensures.table

pub returns-clause-within : goal.returns-clause-within
returns-clause-within c = within _
