use Rattle.std.proofs.Common.{sym, ◌∙◌}
use Rattle.check_literals.proofs.OfValues.Uints.{minus_no, plain_no}
use Rattle.check_literals.proofs.values.numbers.is_signed.Goals as goal

pub returns-then-byte_at-eq45-clause-otherwise : goal.returns-then-byte_at-eq45-clause-otherwise
returns-then-byte_at-eq45-clause-otherwise c = λ t. minus_no _ _ (sym c.byte_at.ensures.value ∙ c.if-byte_at-eq45.true) (c.is_uint.ensures.otherwise t)

pub returns-else-byte_at-eq45-clause-otherwise : goal.returns-else-byte_at-eq45-clause-otherwise
returns-else-byte_at-eq45-clause-otherwise c = λ t. plain_no _ _ (λ e. c.if-byte_at-eq45.false (c.byte_at.ensures.value ∙ e)) (c.is_uint-else-byte_at-eq45.ensures.otherwise t)
