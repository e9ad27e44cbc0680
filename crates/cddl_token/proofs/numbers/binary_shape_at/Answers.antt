use Rattle.std.proofs.Common.{refl, arith}
use Rattle.cddl_literal.specs.Numbers.{binary}
use Rattle.cddl_token.proofs.ShapeFacts.{binary_is_uint}
use Rattle.cddl_token.proofs.numbers.binary_shape_at.Goals as goal

pub returns-else-end-at-clause-longest : goal.returns-else-end-at-clause-longest
returns-else-end-at-clause-longest c =
    let start = c.requires.begins in
    let end = c.digits_end-end.ensures in
    binary_is_uint c.args.source.now c.args.at start _ end.from end.stops (binary start.0 start.1 (record { nonempty = omega arith; holds = end.each }) refl)
