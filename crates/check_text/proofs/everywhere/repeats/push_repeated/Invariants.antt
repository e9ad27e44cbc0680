use Rattle.check_text.proofs.OfEverywhere.Repeating.{Repeats}
use Rattle.check_text.proofs.everywhere.repeats.push_repeated.Given as goal

abbrev pub invariant-loop-place : goal.invariant-loop-place
invariant-loop-place l = Repeats l.parameters l.starts l.seen.keys l.place l.initial.offsets.items l.offsets.items
