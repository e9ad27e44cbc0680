use Rattle.check_groups.proofs.OfSplices.Rows.{bounds_said}
use Rattle.check_groups.proofs.splices.bounds.bounds_at.Goals as goal

pub returns-in-Some-occurrence_of : goal.returns-in-Some-occurrence_of
returns-in-Some-occurrence_of c o h = bounds_said c.args.terms.now.texts c.args.text c.in-Some.number c.in-Some-text.text.now c.in-Some-occurrence_of.field-0 c.in-Some.is c.in-Some-text.ensures c.in-Some-occurrence_of.ensures o h
