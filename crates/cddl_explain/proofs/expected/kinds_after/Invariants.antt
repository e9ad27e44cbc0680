use Rattle.std.proofs.Common.{take}
use Rattle.cddl_explain.specs.Expected.{AreExpected}
use Rattle.cddl_explain.specs.declared.expected.TheConstants.{KINDS}
use Rattle.cddl_explain.proofs.expected.kinds_after.Given as goal

abbrev pub invariant-kind : goal.invariant-kind
invariant-kind l = AreExpected l.front (take l.k KINDS) l.found.items
