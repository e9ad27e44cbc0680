use Rattle.std.proofs.Common.{◌≡◌, ◌≤◌, ◌^◌, drop}
use Rattle.cddl_literal.specs.Numbers.{number_after}
use Rattle.cddl_literal.proofs.digits.number.Given as goal

-- the number so far and the digits left stand for what all digits stand for
abbrev pub invariant-loop-b : goal.invariant-loop-b
invariant-loop-b l = record {
  small : l.number ≤ 2 ^ 64;
  whole : number_after l.base l.number (drop l.b-index l.digits) ≡ number_after l.base 0 l.digits;
}
