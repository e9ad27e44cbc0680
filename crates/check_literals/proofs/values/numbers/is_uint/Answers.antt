use Rattle.std.proofs.Common.{sym, ap, ◌∙◌}
use Rattle.lists.proofs.Lemmas.{is_equal as same_number}
use Rattle.cddl_literal.specs.Bytes.{is_x, is_b}
use Rattle.check_literals.proofs.OfValues.Uints.{decimal_yes, hex_yes, binary_yes, zero_yes}
use Rattle.check_literals.proofs.values.numbers.is_uint.Goals as goal

pub returns-then-byte_at-ne48-clause-yes : goal.returns-then-byte_at-ne48-clause-yes
returns-then-byte_at-ne48-clause-yes c = λ t. decimal_yes _ _ _ (λ e. c.if-byte_at-ne48.true (c.byte_at.ensures.value ∙ e)) (c.are_digits.ensures.yes t)

pub returns-then-is_x-clause-yes : goal.returns-then-is_x-clause-yes
returns-then-is_x-clause-yes c = λ t. hex_yes _ _ _ (sym c.byte_at.ensures.value ∙ c.if-byte_at-ne48.false) (ap is_x (sym c.byte_at-letter.ensures.value) ∙ sym c.is_x.ensures ∙ c.if-is_x.true) (c.are_digits-then-is_x.ensures.yes t)

pub returns-then-is_b-clause-yes : goal.returns-then-is_b-clause-yes
returns-then-is_b-clause-yes c = λ t. binary_yes _ _ _ (sym c.byte_at.ensures.value ∙ c.if-byte_at-ne48.false) (ap is_b (sym c.byte_at-letter.ensures.value) ∙ sym c.is_b.ensures ∙ c.if-is_b.true) (c.are_digits-then-is_b.ensures.yes t)

pub returns-else-is_b-clause-yes : goal.returns-else-is_b-clause-yes
returns-else-is_b-clause-yes c = λ t. zero_yes _ _ _ (sym c.byte_at.ensures.value ∙ c.if-byte_at-ne48.false) (same_number _ _ t)
