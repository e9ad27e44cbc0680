use Rattle.std.proofs.Common.{sym, subst}
use Rattle.check_terms.specs.Table.{AreDistinct}
use Rattle.check_live.specs.contracts.facts.FactPartialEq.TheImpl as fact_eq
use Rattle.check_live.proofs.Parameters.{fact_itself, same_fact}
use Rattle.check_live.proofs.Lists.{distinct_kept}
use Rattle.check_live.proofs.facts.number_of.Goals as goal

pub returns-clause-distinct : goal.returns-clause-distinct
returns-clause-distinct c = λ d. subst AreDistinct (sym c.in_ok-number.ensures.keys) (distinct_kept (fact_eq.ghosts).eq fact_itself same_fact c.args.numbers.now.keys c.args.fact d)
