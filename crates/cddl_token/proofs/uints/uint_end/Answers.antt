use Rattle.std.proofs.Common.{sym, ap, ◌∙◌}
use Rattle.cddl_literal.specs.Bytes.{is_x, is_b}
use Rattle.cddl_token.proofs.UintFacts.{plain_bound, zero_bound}
use Rattle.cddl_token.proofs.uints.uint_end.Goals as goal

pub returns-then-byte_at-ne48-clause-bound : goal.returns-then-byte_at-ne48-clause-bound
returns-then-byte_at-ne48-clause-bound c =
    let end = c.digits_end.ensures in
    plain_bound c.args.source.now c.args.at c.digits_end.result (λ e. c.if-byte_at-ne48.true (c.byte_at.ensures.value ∙ e)) end.from end.each end.stops

pub returns-else-is_b-clause-bound : goal.returns-else-is_b-clause-bound
returns-else-is_b-clause-bound c =
    let letter = c.byte_at-letter.ensures.value in
    zero_bound c.args.source.now c.args.at (sym c.byte_at.ensures.value ∙ c.if-byte_at-ne48.false) (ap is_x (sym letter) ∙ sym c.is_x.ensures ∙ c.if-is_x.false) (ap is_b (sym letter) ∙ sym c.is_b.ensures ∙ c.if-is_b.false)
