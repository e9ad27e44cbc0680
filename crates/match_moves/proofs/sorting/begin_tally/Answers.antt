use Rattle.std.proofs.Common.{None, ap, ◌∙◌}
use Rattle.match_moves.proofs.Lists.{none_counted}
use Rattle.match_moves.proofs.sorting.begin_tally.Goals as goal

pub returns : goal.returns
returns c = ap (λ ns. record { counts = ns; stray = None; failing = None }) (c.in_ok-begin.ensures ∙ none_counted c.args.entries.now)
