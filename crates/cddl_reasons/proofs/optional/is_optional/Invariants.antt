use Rattle.std.proofs.Common.{reverse}
use Rattle.cddl_reasons.specs.Opened.{asked_in, waits_in}
use Rattle.cddl_reasons.specs.Optional.{is_optional, optional_of}
use Rattle.cddl_reasons.proofs.LastItems.{IsLeft}
use Rattle.cddl_reasons.proofs.optional.is_optional.Given as goal

abbrev pub invariant-each : goal.invariant-each
invariant-each l = IsLeft optional_of l.fn.below l.k (is_optional (reverse (asked_in l.fn.below)) (reverse (waits_in l.fn.below)))
