use Rattle.std.proofs.Common.{rules}
use Rattle.std.proofs.lemmas.Float.{not_nan_f32_bits}
use Rattle.mismatch_words.specs.Floats.{number}
use Rattle.mismatch_words.proofs.Numbers.{no_number_said}
use Rattle.mismatch_words.proofs.floats.single_words.Goals as goal

pub returns-then-bits-gt-SINGLE_INFINITY : goal.returns-then-bits-gt-SINGLE_INFINITY
returns-then-bits-gt-SINGLE_INFINITY c = search (rules, no_number_said)

pub float_from_bits-bits : goal.float_from_bits-bits
float_from_bits-bits c = not_nan_f32_bits c.args.bits c.if-bits-gt-SINGLE_INFINITY.false

pub returns : goal.returns
returns c = search (rules, number)
