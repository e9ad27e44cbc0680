use Rattle.std.proofs.Common.{arith}
use Rattle.tape_match.proofs.leaf.tested.Goals as goal

pub returns-clause-told : goal.returns-clause-told
returns-clause-told c = λ t x is. (c.in-Some-seen_passes.ensures t x is, omega (arith, c.in-Some.ensures t x is, c.saturating_sub.ensures))
