use Rattle.std.proofs.Common.{◌∙◌, sym, arith}
use Rattle.cddl_token.proofs.ShapeFacts.{hex_fraction_from}
use Rattle.cddl_token.proofs.numbers.hex_fraction_end.Goals as goal

pub returns : goal.returns
returns c =
    let end = c.digits_end-end.ensures in
    hex_fraction_from c.args.source.now c.args.at c.digits_end-end.result _ (omega arith) end.each end.stops (sym c.byte_at.ensures.value ∙ c.if-byte_at-ne46.false) c.exponent_end.ensures
