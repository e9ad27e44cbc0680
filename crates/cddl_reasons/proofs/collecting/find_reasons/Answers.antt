use Rattle.std.proofs.Common.{◌≡◌, inl, inr, subst}
use Rattle.cddl_reasons.specs.Told.{AreReasons}
use Rattle.cddl_reasons.proofs.Tellings.{are_reasons}
use Rattle.cddl_reasons.proofs.collecting.find_reasons.Goals as goal

pub returns-in-Yes-clause-none : goal.returns-in-Yes-clause-none
returns-in-Yes-clause-none c = λ e. inl (c.in_ok-said.ensures.yes (cc c.in-Yes.is))

pub returns-in-Spent-clause-none : goal.returns-in-Spent-clause-none
returns-in-Spent-clause-none c = λ e. inr (c.in_ok-said.ensures.spent (cc c.in-Spent.is))

pub returns-in-No-clause-some : goal.returns-in-No-clause-some
returns-in-No-clause-some c = λ reasons e.
    let told = c.in_ok-reasons-in-No.reasons in
    let p = c.in_ok-reasons-in-No.ensures in
    let said = c.in_ok-said.ensures.no c.in-No.place (cc c.in-No.is) in
    let same : told ≡ reasons = cc e in
    subst (λ r. AreReasons c.args.table.now c.args.item.now c.args.steps c.args.most r) same (are_reasons c.args.table.now c.args.item.now c.args.steps c.args.most c.in-No.place told p.at p.each p.some said)
