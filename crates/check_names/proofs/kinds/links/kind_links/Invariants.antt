use Rattle.std.proofs.Common.{◌≡◌, ◌++◌, drop, map}
use Rattle.check_names.specs.Environment.Names.{standing}
use Rattle.check_names.specs.Kinds.Links.{kind_links}
use Rattle.check_names.proofs.kinds.links.kind_links.Given as goal

abbrev pub invariant-loop-number : goal.invariant-loop-number
invariant-loop-number l = l.links.items ++ kind_links l.terms.texts l.definitions l.own l.opened l.number (map standing (drop l.number l.names)) ≡ kind_links l.terms.texts l.definitions l.own l.opened 0 (map standing l.names)
