use Rattle.std.proofs.lemmas.Result.{IfOk-weaker}
use Rattle.table_making.proofs.Forming.{control_formed}
use Rattle.table_making.proofs.types.control_form.Goals as goal

pub returns : goal.returns
returns c = IfOk-weaker c.known_form.result _ _ (λ f h s n a b src w e g i re. control_formed s c.args.terms.now c.args.source.now.literals.now c.args.source.now.members.now src.literals_are src.members_are a b n c.args.row c.args.left c.args.right _ _ (c.control_at-control.ensures n e) h w g i re) c.known_form.ensures
