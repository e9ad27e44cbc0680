use Rattle.cddl_check.proofs.Handing.{handed}
use Rattle.cddl_check.proofs.Lists.{early_fault}
use Rattle.cddl_check.proofs.all_faults.faults_in.Goals as goal

pub returns-clause-none_early : goal.returns-clause-none_early
returns-clause-none_early c s worth given =
    let b = c.in_ok-reading.ensures.read s worth given in
    c.codes_are_in_order.ensures.reached s worth b.0 b.2.rooted.rooted b.2.right.no_fault b.2.rooted.no_more

pub returns-clause-found : goal.returns-clause-found
returns-clause-found c s worth given =
    let b = c.in_ok-reading.ensures.read s worth given in
    c.in_ok-found.ensures.found s worth c.args.tree.now b.0 b.1 given.tree given.tokens given.right b.2

pub returns-in_err-reading-clause-early : goal.returns-in_err-reading-clause-early
returns-in_err-reading-clause-early c = handed _ _ c.in_err-reading.field-0.0 c.from_residual.ensures.1 (λ s worth given. early_fault s worth c.in_err-reading.field-0.0 (c.in_err-reading.ensures.stopped s worth given) (c.in_err-reading.ensures.early s worth given))
