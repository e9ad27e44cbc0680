use Rattle.check_sites.proofs.OfEntries.Adding.{adds_one}
use Rattle.check_sites.proofs.entries.push.push.Goals as goal

pub returns : goal.returns
returns c = adds_one _ _ c.args.place c.args.node c.in_ok-push.ensures.items
