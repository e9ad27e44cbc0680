use Rattle.std.proofs.Common.{sym, subst}
use Rattle.cddl_check.specs.Outcome.{specification}
use Rattle.cddl_decided.specs.Tables.{HasTable}
use Rattle.cddl.proofs.laws.accepted_has_table.Goals as goal

pub returns : goal.returns
returns c = λ text named rule h none. c.accepted_has_table.ensures (specification h.tree named) rule.values rule.name h.accepted h.name_is (λ t. none (subst (λ ds. HasTable rule.values ds rule.name) (sym h.definitions_are) t))
