use Rattle.cddl_check.proofs.Handing.{handed}
use Rattle.cddl_check.proofs.reading.begin_tree.Goals as goal

pub returns-clause-begun : goal.returns-clause-begun
returns-clause-begun c s worth given =
    let right = c.in_ok-survey.ensures.right s worth given in
    let f = c.in_ok-instanced.ensures.found s worth c.args.tree.now given c.in_ok-survey.ensures.survey right in
    (f.0, f.1, right, f.2)

pub returns-in_err-instanced-clause-stopped : goal.returns-in_err-instanced-clause-stopped
returns-in_err-instanced-clause-stopped c = handed _ _ c.in_err-instanced.field-0.0 c.from_residual-in_err-instanced.ensures.1 (λ s worth given. c.in_err-instanced.ensures.stopped s worth c.args.tree.now given c.in_ok-survey.ensures.survey (c.in_ok-survey.ensures.right s worth given))
