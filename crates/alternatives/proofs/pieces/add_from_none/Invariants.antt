use Rattle.std.proofs.Common.{◌≡◌, ◌++◌, drop, map}
use Rattle.alternatives.specs.Splices.{from}
use Rattle.alternatives.proofs.pieces.add_from_none.Given as goal

abbrev pub invariant-loop-member : goal.invariant-loop-member
invariant-loop-member l = l.all.items ++ map (from 0) (drop l.member-index l.members) ≡ l.fn.all.items ++ map (from 0) l.members
