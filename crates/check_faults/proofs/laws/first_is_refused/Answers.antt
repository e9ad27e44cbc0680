use Rattle.cddl_language.specs.Faults.{IsFaultAt}
use Rattle.check_faults.proofs.Firsts.{each_is, first_at, none_lower}
use Rattle.check_faults.proofs.laws.first_is_refused.Goals as goal

pub returns-clause-lower : goal.returns-clause-lower
returns-clause-lower c s worth most codes ls code at h r l there low = none_lower s worth most code at r l (each_is (IsFaultAt s worth) most h l there) low

pub returns-clause-first : goal.returns-clause-first
returns-clause-first c s worth most codes ls code at h r some l there same = first_at s worth most code at r l (each_is (IsFaultAt s worth) most h l there) some same
