use Rattle.check_text.proofs.OfRuleFaults.Repeats.{IsRead}
use Rattle.check_text.proofs.rule_faults.duplicates.repeated.Given as goal

abbrev pub invariant-loop-place : goal.invariant-loop-place
invariant-loop-place l = IsRead l.parameters l.starts l.seen.keys l.place l.least
