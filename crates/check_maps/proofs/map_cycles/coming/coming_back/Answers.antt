use Rattle.std.proofs.Common.{ap, ◌∙◌}
use Rattle.std.proofs.lemmas.Result.{IfOk-weaker}
use Rattle.check_maps.specs.MapCycles.Edges.{all_edges}
use Rattle.check_maps.proofs.OfMapCycles.Whole.{told_back}
use Rattle.check_maps.proofs.map_cycles.coming.coming_back.Goals as goal

pub returns : goal.returns
returns c =
    let l = c.in-Some.layout in
    let spliced = c.args.spliced.now in
    let same = c.deref-3.ensures.value ∙ c.in_ok-edges.ensures ∙ ap (λ ps. all_edges l ps c.deref-2.result.now spliced) c.deref.ensures.value ∙ ap (λ ts. all_edges l c.in_ok-parts.parts.items ts spliced) c.deref-2.ensures.value in
    IfOk-weaker c.marked.result _ _ (λ v marked. told_back (λ ds. c.more_names_change_nothing.ensures.opened ds) (λ s clear. c.reached_rules.ensures.defined s clear) c.args.terms.now c.args.closed.now c.args.kinds.now c.args.openings.now c.args.endings.now spliced c.in_ok-parts.parts.items c.in_ok-targets.targets.items l c.in_ok-parts.ensures c.in_ok-targets.ensures (c.in-Some.ensures.parts ∙ c.len.ensures ∙ c.in_ok-parts.parts.ok.0) c.in-Some.ensures.entries (c.in-Some.ensures.places ∙ c.len-2.ensures ∙ c.args.closed.now.meanings.ok.0) c.deref-3.result.now same v.items marked) c.marked.ensures
