use Rattle.std.proofs.Common.{refl, arith}
use Rattle.cddl_match.proofs.Passing.{leads_on}
use Rattle.cddl_match.proofs.entering.narrowed.Goals as goal

pub returns : goal.returns
returns c = λ l some others alike h. leads_on l some others c.args.front c.args.lead (record { index = c.args.lead.index; entries = c.min.result }) refl (omega (arith, c.min.ensures)) alike h
