use Rattle.std.proofs.Common.{ap, refl, ◌∙◌}
use Rattle.cddl_meaning.specs.Moves.{first_move}
use Rattle.match_moves.specs.Views.{question_view}
use Rattle.table_nodes.specs.Language.{language_of}
use Rattle.cddl_reasons.proofs.Steps.{stands_put}
use Rattle.cddl_reasons.proofs.turns.ask.Goals as goal

pub returns : goal.returns
returns c = λ first at.
    let l = language_of c.args.table.now in
    let move = c.in_ok-next.ensures ∙ ap (λ q. first_move l (question_view q)) c.again.ensures in
    let put = c.in_ok-put_on.ensures in
    stands_put l first c.args.run.now c.put_on.new.run _ _ (question_view c.args.question) put.below put.last put.next refl move at
