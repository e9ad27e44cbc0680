use Rattle.std.proofs.Common.{◌≡◌, ◌<◌, ◌^◌, drop}
use Rattle.cddl_literal.specs.Numbers.{number_after}
use Rattle.check_terms.proofs.texts.numbers.number.Given as goal

-- the number so far and the digits left stand for what all digits stand for
abbrev pub invariant-loop-digit : goal.invariant-loop-digit
invariant-loop-digit l = record {
  small : l.number < 2 ^ 64;
  whole : number_after l.base l.number (drop l.digit-index l.digits) ≡ number_after l.base 0 l.digits;
}
