use Rattle.std.proofs.Common.{subst}
use Rattle.alternatives.specs.Summaries.{IsSummary}
use Rattle.check_maps.proofs.OfMapFaults.Flags.{is_large_by}
use Rattle.check_maps.proofs.map_faults.large.is_large.Goals as goal

pub returns-in-Some : goal.returns-in-Some
returns-in-Some c parts n h = is_large_by parts n c.in-Some.summary c.is_too_large.result (c.one_meaning.ensures parts n) c.is_too_large.ensures (subst (IsSummary parts n) c.in-Some.is h)
