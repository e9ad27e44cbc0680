use Rattle.std.proofs.Common.{◌∙◌}
use Rattle.cddl_table.proofs.table.ranked_table.Goals as goal

pub returns-in_ok-table-in-Ok-clause-ranks : goal.returns-in_ok-table-in-Ok-clause-ranks
returns-in_ok-table-in-Ok-clause-ranks c = c.in_ok-table-in-Ok.ensures.rank ∙ (c.in_ok-told-in-Ok.ensures.rank ∙ c.in-Ok.ensures.ranks)
