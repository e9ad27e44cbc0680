use Rattle.check_sites.proofs.OfSites.Adding.{adds_one}
use Rattle.check_sites.proofs.sites.push.push.Goals as goal

pub returns : goal.returns
returns c = adds_one _ _ c.args.place c.args.site c.in_ok-push.ensures.items
