use Rattle.std.proofs.Common.{◌≡◌, [], arith}
use Rattle.lists.proofs.Lemmas.{none_left}
use Rattle.cddl_reasons.proofs.telling.group_cause.Goals as goal

pub returns-in-empty : goal.returns-in-empty
returns-in-empty c = λ base place far.
    let none : c.args.items.now ≡ [] = none_left c.args.items.now (omega (arith, c.in-empty.len_below)) in
    rw none (c.missing_cause.ensures base place far)
