use Rattle.check_terms.proofs.Holding.{still_row, still_with_text}
use Rattle.check_terms.proofs.laws.adding_keeps.Goals as goal

pub returns-clause-row : goal.returns-clause-row
returns-clause-row c = still_row

pub returns-clause-text : goal.returns-clause-text
returns-clause-text c = still_with_text
