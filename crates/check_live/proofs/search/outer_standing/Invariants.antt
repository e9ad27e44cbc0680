use Rattle.std.proofs.Common.{◌≡◌, ◌++◌, drop}
use Rattle.check_sites.specs.Sites.View.{outside}
use Rattle.check_live.specs.Search.{standing_at}
use Rattle.check_live.proofs.search.outer_standing.Given as goal

abbrev pub invariant-loop-found : goal.invariant-loop-found
invariant-loop-found l = l.standing.items ++ standing_at l.context (outside (drop l.found-index l.sites)) ≡ standing_at l.context (outside l.sites)
