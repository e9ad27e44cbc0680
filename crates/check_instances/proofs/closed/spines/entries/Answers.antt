use Rattle.std.proofs.Common.{sym, subst}
use Rattle.std.proofs.lemmas.Result.{IfOk-weaker}
use Rattle.cddl_language.specs.Terms.{entry_list}
use Rattle.cddl_meaning.specs.Alike.{AlikeAll}
use Rattle.check_instances.specs.Closed.Closed.{EntryRow}
use Rattle.check_instances.proofs.OfClosed.Walks.{entries_walked}
use Rattle.check_instances.proofs.closed.spines.entries.Goals as goal

pub returns : goal.returns
returns c =
    let t = c.args.terms.now in
    let w = c.in_ok-walked.walked in
    IfOk-weaker c.in_order.result _ _ (λ v e x h. subst (AlikeAll (EntryRow t) (entry_list x)) (sym e) (entries_walked t c.args.row w.parts.items w.end c.in_ok-walked.ensures x h)) c.in_order.ensures
