use Rattle.std.proofs.Common.{◌≡◌, ◌++◌, drop, map}
use Rattle.check_names.specs.Environment.Names.{standing, standing_from}
use Rattle.check_names.specs.Environment.Places.{lists}
use Rattle.check_names.proofs.environment.environment.names_at.Given as goal

abbrev pub invariant-loop-number : goal.invariant-loop-number
invariant-loop-number l = map standing l.names.items ++ standing_from l.number l.definitions (lists l.known) (lists (drop l.number l.own)) ≡ standing_from 0 l.definitions (lists l.known) (lists l.own)
