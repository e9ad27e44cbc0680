use Rattle.std.proofs.Common.{◌∙◌, ap, sym, subst}
use Rattle.std.proofs.lemmas.Result.{IfOk-weaker}
use Rattle.cddl_language.specs.Terms.{alternatives}
use Rattle.cddl_meaning.specs.Alike.{AlikeAll}
use Rattle.check_instances.specs.Closed.Closed.{EntriesRow}
use Rattle.check_instances.specs.Closed.Spines.{in_order}
use Rattle.check_instances.proofs.OfClosed.Walks.{alternatives_walked}
use Rattle.check_instances.proofs.closed.spines.alternatives.Goals as goal

pub returns : goal.returns
returns c =
    let t = c.args.terms.now in
    let w = c.in_ok-walked.walked in
    IfOk-weaker c.in_order.result _ _ (λ v e x h. subst (AlikeAll (EntriesRow t) (alternatives x)) (sym (e ∙ ap (in_order w.parts.items) c.first_part.ensures)) (alternatives_walked t c.args.row w.parts.items w.end c.in_ok-walked.ensures x h)) c.in_order.ensures
