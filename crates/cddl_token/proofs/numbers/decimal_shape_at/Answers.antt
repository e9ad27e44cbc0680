use Rattle.std.proofs.Common.{refl}
use Rattle.cddl_literal.specs.Numbers.{decimal}
use Rattle.cddl_token.proofs.ShapeFacts.{decimal_is_uint, decimal_is_float, decimal_is_misspelled, past_first}
use Rattle.cddl_token.proofs.numbers.decimal_shape_at.Goals as goal

pub returns-in-Some-clause-longest : goal.returns-in-Some-clause-longest
returns-in-Some-clause-longest c =
    let end = c.digits_end-end.ensures in
    decimal_is_float c.args.source.now c.args.at c.requires.no_hex c.requires.no_binary _ (past_first c.args.source.now c.args.at _ end.from c.requires.begins end.stops) end.each end.stops c.in-Some.ensures.0

pub returns-then-has_zero_first-clause-longest : goal.returns-then-has_zero_first-clause-longest
returns-then-has_zero_first-clause-longest c =
    let end = c.digits_end-end.ensures in
    let zero = c.has_zero_first.ensures.yes c.if-has_zero_first.true in
    decimal_is_misspelled c.args.source.now c.args.at c.requires.no_hex c.requires.no_binary _ (past_first c.args.source.now c.args.at _ end.from c.requires.begins end.stops) end.each end.stops c.in-None.ensures zero.0 zero.1

pub returns-else-has_zero_first-clause-longest : goal.returns-else-has_zero_first-clause-longest
returns-else-has_zero_first-clause-longest c =
    let end = c.digits_end-end.ensures in
    let some = past_first c.args.source.now c.args.at _ end.from c.requires.begins end.stops in
    decimal_is_uint c.args.source.now c.args.at c.requires.no_hex c.requires.no_binary _ some end.each end.stops c.in-None.ensures (decimal (record { nonempty = some; holds = end.each }) (c.has_zero_first.ensures.otherwise c.if-has_zero_first.false) refl)
