use Rattle.std.proofs.Common.{subst}
use Rattle.std.proofs.lemmas.Result.{IfOk-weaker}
use Rattle.graphs.specs.Chains.Chains.{AreEnds}
use Rattle.check_instances.proofs.OfOpenings.Ending.{are_endings}
use Rattle.check_instances.proofs.openings.endings.endings_of.Goals as goal

pub returns : goal.returns
returns c =
    let t = c.args.terms.now in
    let links = c.in_ok-links.links.items in
    IfOk-weaker c.ends.result _ _ (λ v e xs root refs is enough. are_endings t c.equal_numbers.ensures.reference xs root refs c.args.closed.now is links c.in_ok-links.ensures c.args.most enough v.items (subst (λ ls. AreEnds ls c.args.most v.items) c.deref.ensures.value e)) c.ends.ensures
