use Rattle.check_sites.proofs.OfSites.Rules.{HasFirst}
use Rattle.check_sites.proofs.sites.walk.sites.Given as goal

abbrev pub invariant-loop-rule : goal.invariant-loop-rule
invariant-loop-rule l = HasFirst l.node-items l.found.items l.rule
