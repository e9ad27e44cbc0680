use Rattle.std.proofs.Common.{rules}
use Rattle.mismatch_words.proofs.Numbers.{finite_said, infinite_said, no_half_said}
use Rattle.mismatch_words.proofs.floats.half_words.Goals as goal

pub returns-then-size-gt-HALF_INFINITY : goal.returns-then-size-gt-HALF_INFINITY
returns-then-size-gt-HALF_INFINITY c = search (rules, no_half_said)

pub returns-then-size-eq-HALF_INFINITY : goal.returns-then-size-eq-HALF_INFINITY
returns-then-size-eq-HALF_INFINITY c = search (rules, infinite_said)

pub returns : goal.returns
returns c = search (rules, finite_said)
