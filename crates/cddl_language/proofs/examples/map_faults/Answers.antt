use Rattle.cddl_language.proofs.MapsFaulty as M
use Rattle.cddl_language.proofs.examples.map_faults.Goals as goal

pub returns-clause-without_key : goal.returns-clause-without_key
returns-clause-without_key c = M.without_key

pub returns-clause-of_pairs : goal.returns-clause-of_pairs
returns-clause-of_pairs c = M.of_pairs

pub returns-clause-comes_back : goal.returns-clause-comes_back
returns-clause-comes_back c = M.back

pub returns-clause-in_parens : goal.returns-clause-in_parens
returns-clause-in_parens c = M.in_parens

pub returns-clause-too_many : goal.returns-clause-too_many
returns-clause-too_many c = M.too_many

pub returns-clause-in_opened : goal.returns-clause-in_opened
returns-clause-in_opened c = M.in_opened

pub returns-clause-twice : goal.returns-clause-twice
returns-clause-twice c = M.twice

pub returns-clause-behind_prelude : goal.returns-clause-behind_prelude
returns-clause-behind_prelude c = M.behind_prelude
