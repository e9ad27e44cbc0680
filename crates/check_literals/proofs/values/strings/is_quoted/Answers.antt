use Rattle.std.proofs.Common.{sym, ◌∙◌}
use Rattle.check_literals.proofs.OfValues.Quoting.{not_last}
use Rattle.check_literals.proofs.values.strings.is_quoted.Goals as goal

pub returns-then-byte_at-sign-clause-otherwise : goal.returns-then-byte_at-sign-clause-otherwise
returns-then-byte_at-sign-clause-otherwise c = λ t v h. c.if-byte_at-sign.true (c.byte_at.ensures.value ∙ (c.closes_at_stop.ensures.quoted _ _ _ _ _ v h c.characters_end-end.ensures.furthest).1 ∙ sym c.quote_byte-sign.ensures)

pub returns-clause-otherwise : goal.returns-clause-otherwise
returns-clause-otherwise c = λ t v h. not_last _ _ t (c.closes_at_stop.ensures.quoted _ _ _ _ _ v h c.characters_end-end.ensures.furthest).0
