use Rattle.cddl_check.specs.Outcome.{specification}
use Rattle.check_faults.proofs.Firsts.{each_of_all, first_at, none_lower}
use Rattle.check_faults.proofs.laws.first_of_all_is_refused.Goals as goal

pub returns-clause-lower : goal.returns-clause-lower
returns-clause-lower c x root worth most ls code at h right r l there low = none_lower (specification x root) worth most code at r l (each_of_all x root worth most ls h right l there) low

pub returns-clause-first : goal.returns-clause-first
returns-clause-first c x root worth most ls code at h right r some l there same = first_at (specification x root) worth most code at r l (each_of_all x root worth most ls h right l there) some same
