use Rattle.std.proofs.Common.{◌≡◌, ◌++◌, drop}
use Rattle.cddl_literal.specs.Operators.Dedent.{shifted}
use Rattle.cddl_literal.proofs.OfOperators.Shifts.{rest}
use Rattle.cddl_literal.proofs.operators.dedent.push_shifted.Given as goal

abbrev pub invariant-loop-byte : goal.invariant-loop-byte
invariant-loop-byte l = l.bytes.items ++ rest l.left l.spaces (drop l.byte-index l.string) ≡ l.initial.bytes.items ++ shifted l.spaces l.string
