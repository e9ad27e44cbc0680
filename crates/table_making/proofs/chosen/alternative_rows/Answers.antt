use Rattle.std.proofs.Common.{subst}
use Rattle.check_instances.specs.Closed.Closed.{AreAlternatives}
use Rattle.table_making.proofs.Forming.{group_rows, no_rows}
use Rattle.table_making.proofs.chosen.alternative_rows.Goals as goal

pub returns-in_default : goal.returns-in_default
returns-in_default c ess a = no_rows c.args.terms.now ess _ c.new.ensures.items (subst (AreAlternatives c.args.terms.now ess) c.in_default.is a)

pub returns-in-Ok : goal.returns-in-Ok
returns-in-Ok c ess a = group_rows c.args.terms.now ess c.in-Some.group c.in-Ok.rows.items (subst (AreAlternatives c.args.terms.now ess) c.in-Some.is a) c.in-Ok.ensures
