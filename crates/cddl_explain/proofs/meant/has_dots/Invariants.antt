use Rattle.std.proofs.Common.{◌≡◌, drop}
use Rattle.cddl_explain.specs.Meant.{has_dots}
use Rattle.cddl_explain.proofs.meant.has_dots.Given as goal

abbrev pub invariant-byte : goal.invariant-byte
invariant-byte l = has_dots (drop l.k l.name) ≡ has_dots l.name
