use Rattle.std.proofs.Common.{subst, sym, IfOk}
use Rattle.check_literals.specs.Found.{IsTold, found_fault, found_value, value_within}
use Rattle.check_literals.specs.Needs.{need_view}
use Rattle.check_literals.proofs.found.found_of.Goals as goal

pub returns-in-Written-clause-fit : goal.returns-in-Written-clause-fit
returns-in-Written-clause-fit c = c.read.ensures.fit c.args.known.now

pub returns-in-Written-clause-told : goal.returns-in-Written-clause-told
returns-in-Written-clause-told c = subst (λ d. IfOk c.read.result (λ f. IsTold c.args.terms.now (need_view d) (value_within c.args.known.now) (found_value c.args.known.now f) (found_fault f))) (sym c.in-Written.is) (c.read.ensures.told c.args.known.now)
