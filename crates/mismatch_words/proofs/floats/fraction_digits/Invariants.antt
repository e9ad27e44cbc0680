use Rattle.std.proofs.Common.{string_bytes}
use Rattle.mismatch_words.proofs.Numbers.{AreFirst}
use Rattle.mismatch_words.proofs.floats.fraction_digits.Given as goal

abbrev pub invariant-digit : goal.invariant-digit
invariant-digit l = AreFirst l.rest l.left l.k (string_bytes l.digits)
