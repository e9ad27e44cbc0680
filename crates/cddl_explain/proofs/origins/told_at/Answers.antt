use Rattle.std.proofs.lemmas.Result.{IfOk-weaker}
use Rattle.cddl_explain.specs.Origins.{elsewhere}
use Rattle.cddl_explain.proofs.origins.told_at.Goals as goal

pub returns : goal.returns
returns c =
    IfOk-weaker c.place_words.result _ _
    (λ told is. elsewhere c.if-start-here.false c.position_of-position.result.line c.position_of-position.result.column c.position_of-position.ensures is)
    c.place_words.ensures
