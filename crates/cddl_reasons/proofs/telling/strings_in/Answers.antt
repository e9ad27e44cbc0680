use Rattle.std.proofs.Common.{◌++◌, ap, sym, ◌∙◌, arith}
use Rattle.cddl_reasons.specs.Told.{string_of}
use Rattle.cddl_reasons.proofs.Tellings.{strings_more, strings_whole}
use Rattle.match_moves.specs.Views.{pending_view, question_view}
use Rattle.table_nodes.specs.Language.{language_of}
use Rattle.cddl_reasons.proofs.telling.strings_in.Goals as goal

pub loop-waiting-preserved : goal.loop-waiting-preserved
loop-waiting-preserved c =
    let l = language_of c.args.table.now in
    let asked = c.waiting-item.result in
    c.in_ok-push_string.ensures
    ∙ ap (λ ss. ss ++ string_of l (question_view asked.question) (pending_view asked.pending)) c.loop-waiting.invariant
    ∙ sym (strings_more l c.args.below.now c.loop-waiting.waiting-index asked c.loop-waiting-test.true c.waiting-item.is)

pub returns : goal.returns
returns c = c.loop-waiting.invariant ∙ strings_whole (language_of c.args.table.now) c.args.below.now c.loop-waiting.waiting-index (omega arith)
