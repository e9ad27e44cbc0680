use Rattle.cddl_language.specs.Faults.{IsFaultAt}
use Rattle.check_faults.proofs.Adding.{one_more}
use Rattle.check_faults.proofs.listing.push_first.Goals as goal

pub returns : goal.returns
returns c s worth codes are h = one_more (IsFaultAt s worth) c.args.most codes _ _ c.args.code _ _ c.in_ok-push.ensures.items c.first_of.ensures.code are c.first_of.ensures.first c.first_of.ensures.further h
