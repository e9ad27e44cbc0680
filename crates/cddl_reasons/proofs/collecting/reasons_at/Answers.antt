use Rattle.cddl_reasons.proofs.collecting.reasons_at.Goals as goal

pub returns-clause-each : goal.returns-clause-each
returns-clause-each c = λ w d. c.in_ok-list.ensures.each w d c.in_ok-found.ensures
