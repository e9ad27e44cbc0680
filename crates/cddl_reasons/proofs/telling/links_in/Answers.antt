use Rattle.std.proofs.Common.{◌++◌, ap, sym, ◌∙◌, append_assoc, arith}
use Rattle.cddl_reasons.specs.Told.{part_of, type_of}
use Rattle.cddl_reasons.proofs.Tellings.{links_more, links_whole}
use Rattle.match_moves.specs.Views.{pending_view, question_view}
use Rattle.cddl_reasons.proofs.telling.links_in.Goals as goal

pub loop-waiting-preserved : goal.loop-waiting-preserved
loop-waiting-preserved c =
    let asked = c.waiting-item.result in
    let part = part_of (pending_view asked.pending) in
    c.in_ok-push_part.ensures
    ∙ ap (λ ts. ts ++ part) c.in_ok-push_type.ensures
    ∙ append_assoc _ (type_of (question_view asked.question)) part
    ∙ ap (λ ts. ts ++ (type_of (question_view asked.question) ++ part)) c.loop-waiting.invariant
    ∙ sym (links_more c.args.below.now c.loop-waiting.waiting-index asked c.loop-waiting-test.true c.waiting-item.is)

pub returns : goal.returns
returns c = c.loop-waiting.invariant ∙ links_whole c.args.below.now c.loop-waiting.waiting-index (omega arith)
