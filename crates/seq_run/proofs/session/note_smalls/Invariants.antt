use Rattle.std.proofs.Common.{◌≡◌, ◌++◌, map, take}
use Rattle.seq_run.specs.FoundItem.{found_of}
use Rattle.seq_run.specs.Smalls.{smalls_from}
use Rattle.seq_run.proofs.session.note_smalls.Given as goal

abbrev pub invariant-loop-at : goal.invariant-loop-at
invariant-loop-at l = map found_of l.taken ≡ map found_of l.initial.taken ++ smalls_from l.offset (take l.at l.numbers)
