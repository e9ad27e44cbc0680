use Rattle.std.proofs.Common.{◌∙◌, ap, subst}
use Rattle.std.proofs.lemmas.Result.{IfOk-weaker}
use Rattle.graphs.specs.Chains.Chains.{AreEnds}
use Rattle.check_instances.specs.Openings.Steps as by
use Rattle.check_instances.proofs.OfOpenings.Chaining.{are_openings}
use Rattle.check_instances.proofs.openings.openings.openings_of.Goals as goal

pub returns : goal.returns
returns c =
    let t = c.args.terms.now in
    let ks = c.args.kinds.now in
    let ends = c.in_ok-ends.ends.items in
    let links = c.in_ok-links.links.items in
    let are_ends = subst (λ ls. AreEnds ls c.args.most ends) c.deref.ensures.value c.in_ok-ends.ensures in
    IfOk-weaker c.ended_openings.result _ _ (λ v e xs root refs is kinds enough. are_openings t c.equal_numbers.ensures.reference xs root refs c.args.closed.now is links c.in_ok-links.ensures ks kinds c.args.most enough ends are_ends v.items (e ∙ ap (λ es. by.openings_of t.rows ks es 0 c.deref-2.result.now) c.deref-3.ensures.value ∙ ap (by.openings_of t.rows ks ends 0) c.deref-2.ensures.value)) c.ended_openings.ensures
