use Rattle.std.proofs.Common.{◌-◌, length}
use Rattle.command_line.specs.Reading.{most_read}
use Rattle.command_line.proofs.Taking.{IsSoFar}
use Rattle.command_line.proofs.text.read_front.Given as goal

abbrev pub invariant-pieces : goal.invariant-pieces
invariant-pieces g l = IsSoFar most_read (g.R.Read.remaining l.initial.file) (g.R.Read.remaining l.file) l.text.items

abbrev pub decreases-pieces : goal.decreases-pieces
decreases-pieces g l = most_read - length l.text.items
