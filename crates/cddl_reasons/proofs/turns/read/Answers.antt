use Rattle.cddl_match.proofs.Lemmas.{open_read, open_unread}
use Rattle.cddl_reasons.proofs.turns.read.Goals as goal

pub returns-in_default : goal.returns-in_default
returns-in_default c = λ l first at.
    let none = rw c.in_default.is at c.in_ok-subject.ensures in
    open_unread l none at

pub returns : goal.returns
returns c = λ l first at.
    let held = rw c.in-Some.is at c.in_ok-subject.ensures in
    open_read l held at
