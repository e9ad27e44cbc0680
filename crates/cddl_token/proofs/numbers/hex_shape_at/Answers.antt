use Rattle.std.proofs.Common.{◌+◌, ◌<◌, refl, arith}
use Rattle.cddl_literal.specs.Numbers.{hexadecimal}
use Rattle.cddl_token.proofs.ShapeFacts.{hex_is_uint, hex_is_float}
use Rattle.cddl_token.proofs.numbers.hex_shape_at.Goals as goal

pub returns-in-Some-clause-longest : goal.returns-in-Some-clause-longest
returns-in-Some-clause-longest c =
    let end = c.digits_end-end.ensures in
    hex_is_float c.args.source.now c.args.at c.requires.begins c.digits_end-end.result (omega arith) end.each end.stops c.in-Some.ensures.0

pub returns-in-None-clause-longest : goal.returns-in-None-clause-longest
returns-in-None-clause-longest c =
    let start = c.requires.begins in
    let end = c.digits_end-end.ensures in
    let some : c.args.at + 2 < c.digits_end-end.result = omega arith in
    hex_is_uint c.args.source.now c.args.at start _ some end.each end.stops c.in-None.ensures (hexadecimal start.0 start.1 (record { nonempty = some; holds = end.each }) refl)
