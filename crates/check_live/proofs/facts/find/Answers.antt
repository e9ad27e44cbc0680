use Rattle.std.proofs.Common.{sym, subst}
use Rattle.check_live.specs.contracts.facts.FactPartialEq.TheImpl as fact_eq
use Rattle.check_live.proofs.Parameters.{fact_itself, same_fact}
use Rattle.check_live.proofs.Lists.{IsFoundAt, IsMissing, found_at, missing}
use Rattle.check_live.proofs.facts.find.Goals as goal

pub returns-clause-found : goal.returns-clause-found
returns-clause-found c = subst (IsFoundAt (fact_eq.ghosts).eq fact_itself same_fact c.args.numbers.now.keys c.args.fact) (sym c.get_index_of.ensures.index) (found_at (fact_eq.ghosts).eq fact_itself same_fact c.args.numbers.now.keys c.args.fact)

pub returns-clause-missing : goal.returns-clause-missing
returns-clause-missing c = subst (IsMissing (fact_eq.ghosts).eq fact_itself same_fact c.args.numbers.now.keys c.args.fact) (sym c.get_index_of.ensures.index) (missing (fact_eq.ghosts).eq fact_itself same_fact c.args.numbers.now.keys c.args.fact)
