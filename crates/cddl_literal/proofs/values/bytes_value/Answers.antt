use Rattle.std.proofs.Common.{sym, ◌∙◌}
use Rattle.cddl_literal.proofs.ValueFacts.{hex_answer, base64_answer}
use Rattle.cddl_literal.proofs.values.bytes_value.Goals as goal

pub returns-then-is_h : goal.returns-then-is_h
returns-then-is_h c = hex_answer (λ b. b.items) c.as_bytes-source.result.now c.args.text.now c.prefixed_value.result c.as_bytes-source.ensures.value (sym c.is_h.ensures ∙ c.if-is_h.true) c.prefixed_value.ensures

pub returns-else-is_h : goal.returns-else-is_h
returns-else-is_h c = base64_answer (λ b. b.items) c.as_bytes-source.result.now c.args.text.now c.prefixed_value-else-is_h.result c.as_bytes-source.ensures.value c.if-source-eq39.false (sym c.is_h.ensures ∙ c.if-is_h.false) c.prefixed_value-else-is_h.ensures
