use Rattle.std.proofs.Common.{◌≡◌, ◌≤◌, ◌+◌, drop, length}
use Rattle.cddl_literal.specs.Operators.Dedent.{shifted}
use Rattle.cddl_literal.proofs.OfOperators.Shifts.{rest}
use Rattle.cddl_literal.proofs.operators.dedent.shifted_len.Given as goal

abbrev pub invariant-loop-byte : goal.invariant-loop-byte
invariant-loop-byte l = record {
  counted : l.len + length (rest l.left l.spaces (drop l.byte-index l.string)) ≡ length (shifted l.spaces l.string);
  small : l.len ≤ l.byte-index;
}
