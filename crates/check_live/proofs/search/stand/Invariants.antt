use Rattle.std.proofs.Common.{◌≡◌, ◌++◌, drop}
use Rattle.check_live.specs.Search.{standing_at}
use Rattle.check_live.proofs.search.stand.Given as goal

abbrev pub invariant-loop-found : goal.invariant-loop-found
invariant-loop-found l = l.standing.items ++ standing_at l.context (drop l.found-index l.sites) ≡ l.fn.standing.items ++ standing_at l.context l.sites
