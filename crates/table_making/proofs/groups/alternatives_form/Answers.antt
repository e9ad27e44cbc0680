use Rattle.std.proofs.Common.{◌∙◌}
use Rattle.table_making.proofs.Forming.{alternatives_formed, sequence_list}
use Rattle.table_making.proofs.groups.alternatives_form.Goals as goal

pub returns-in-Ok : goal.returns-in-Ok
returns-in-Ok c s ess a re = alternatives_formed s c.args.terms.now ess c.in_ok-rows.rows.items c.in-Ok.origins.items re (c.in_ok-rows.ensures ess a) (c.in-Ok.ensures ∙ sequence_list c.deref.ensures.value)
