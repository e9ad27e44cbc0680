use Rattle.std.proofs.Common.{sym}
use Rattle.std.proofs.lemmas.Result.{IfOk-weaker}
use Rattle.check_instances.proofs.OfClosed.Groups.{bare, lone_stands}
use Rattle.check_instances.proofs.closed.joining.entry_group.Goals as goal

pub returns-in-Some-clause-stands : goal.returns-in-Some-clause-stands
returns-in-Some-clause-stands c = bare c.args.terms.now c.args.row c.in-Some.group (sym c.in-Some.ensures)

pub returns-in-None-clause-stands : goal.returns-in-None-clause-stands
returns-in-None-clause-stands c = IfOk-weaker c.lone.result _ _ (λ n f x h. lone_stands c.args.terms.now c.lone.new.terms c.args.row n f (sym c.in-None.ensures) x h) c.lone.ensures.stands
