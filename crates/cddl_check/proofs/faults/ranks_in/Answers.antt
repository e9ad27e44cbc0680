use Rattle.std.proofs.Common.{Some, sym, subst}
use Rattle.cddl_language.specs.Faults.{HasRecursion, definitions}
use Rattle.check_recursion.specs.Order.{IsOrder}
use Rattle.lists.specs.Least.{IsLeast}
use Rattle.cddl_check.proofs.Cycling.{none_told, told_first}
use Rattle.cddl_check.proofs.faults.ranks_in.Goals as goal

pub returns-in-Ranks-clause-clear : goal.returns-in-Ranks-clause-clear
returns-in-Ranks-clause-clear c s worth tree root refs reading order = none_told s root (subst (IsOrder (definitions s) root refs c.args.terms.now) c.in-Ranks.is order).no_cycle

pub returns-in-Cycles-clause-told : goal.returns-in-Cycles-clause-told
returns-in-Cycles-clause-told c s worth tree root refs reading order =
    let cycles = subst (IsOrder (definitions s) root refs c.args.terms.now) c.in-Cycles.is order in
    let first = told_first s root cycles.one.0 cycles.one.1 _ (c.recursion_of-first.ensures s worth tree root refs reading order) in
    (c.unwrap_or.result, subst (λ v. IsLeast (HasRecursion s root) (Some v)) (sym c.unwrap_or.ensures) first, c.refused.ensures)
