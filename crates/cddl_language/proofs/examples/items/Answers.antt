use Rattle.cddl_language.proofs.Saying as S
use Rattle.cddl_language.proofs.examples.items.Goals as goal

pub returns-clause-int : goal.returns-clause-int
returns-clause-int c = S.int_takes_one

pub returns-clause-greedy : goal.returns-clause-greedy
returns-clause-greedy c = S.greedy

pub returns-clause-content : goal.returns-clause-content
returns-clause-content c = S.opened_text

pub returns-clause-choice : goal.returns-clause-choice
returns-clause-choice c = S.one_of_two

pub returns-clause-range : goal.returns-clause-range
returns-clause-range c = S.below_three

pub returns-clause-pairs : goal.returns-clause-pairs
returns-clause-pairs c = S.takes_x

pub returns-clause-stray : goal.returns-clause-stray
returns-clause-stray c = S.strays
