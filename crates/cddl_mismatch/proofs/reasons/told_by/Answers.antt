use Rattle.std.proofs.lemmas.Result.{IfOk-weaker}
use Rattle.cddl_mismatch.specs.Explained.{reasons}
use Rattle.cddl_mismatch.proofs.reasons.told_by.Goals as goal

pub returns-in-Some : goal.returns-in-Some
returns-in-Some c =
    let all = c.in-Some.reasons in
    let are = c.in_ok-reasons.ensures.some all (cc c.in-Some.is) in
    IfOk-weaker c.told_of.result _ _ (λ told h. reasons all are h) c.told_of.ensures
