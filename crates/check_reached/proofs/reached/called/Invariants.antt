use Rattle.std.proofs.Common.{◌≡◌, ◌++◌, drop}
use Rattle.check_names.specs.Environment.Places.{lists}
use Rattle.check_reached.specs.Calls.{called_in}
use Rattle.check_reached.proofs.reached.called.Given as goal

abbrev pub invariant-loop-word : goal.invariant-loop-word
invariant-loop-word l = l.reached.items ++ called_in (lists l.calls) l.definitions (drop l.word-index l.live) ≡ called_in (lists l.calls) l.definitions l.live
