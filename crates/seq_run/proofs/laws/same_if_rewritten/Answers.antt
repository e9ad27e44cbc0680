use Rattle.seq_run.proofs.InOrder.{output_in_order, one_rewriting, same_by_rewriting}
use Rattle.seq_run.proofs.laws.same_if_rewritten.Goals as goal

pub returns-clause-written : goal.returns-clause-written
returns-clause-written c = output_in_order

pub returns-clause-same : goal.returns-clause-same
returns-clause-same c = one_rewriting c.same_if_deterministic.ensures

pub returns-clause-apart : goal.returns-clause-apart
returns-clause-apart c = same_by_rewriting c.same_if_deterministic.ensures c.deterministic_spells.ensures.spells c.one_item.ensures
