use Rattle.std.proofs.Common.{◌≡◌, ◌++◌, drop}
use Rattle.check_live.specs.Search.{live_in}
use Rattle.check_live.proofs.live.live_of.Given as goal

abbrev pub invariant-loop-site : goal.invariant-loop-site
invariant-loop-site l = l.live.items ++ live_in l.flags (drop l.site-index l.standing) ≡ live_in l.flags l.standing
