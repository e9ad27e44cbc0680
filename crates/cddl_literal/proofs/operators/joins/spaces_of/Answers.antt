use Rattle.cddl_literal.proofs.OfOperators.Shifts.{shifted_none}
use Rattle.cddl_literal.proofs.operators.joins.spaces_of.Goals as goal

pub returns-in-AsTheyAre : goal.returns-in-AsTheyAre
returns-in-AsTheyAre c = rw c.in-AsTheyAre.is (shifted_none c.args.string.now)
