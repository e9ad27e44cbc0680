use Rattle.std.proofs.Common.{◌≡◌, ◌++◌, drop, map}
use Rattle.check_names.specs.Environment.Names.{standing}
use Rattle.check_names.specs.Kinds.Links.{opening_links}
use Rattle.check_names.proofs.kinds.links.opening_links.Given as goal

abbrev pub invariant-loop-number : goal.invariant-loop-number
invariant-loop-number l = l.links.items ++ opening_links l.terms.texts l.known l.own l.number (map standing (drop l.number l.names)) ≡ opening_links l.terms.texts l.known l.own 0 (map standing l.names)
