use Rattle.std.proofs.Common.{◌≡◌}
use Rattle.check_instances.specs.Closed.Looking.{all_out}
use Rattle.check_instances.proofs.closed.looking.stripped_of.Given as goal

abbrev pub invariant-loop-row : goal.invariant-loop-row
invariant-loop-row l = l.stripped.items ≡ all_out l.terms.rows l.row
