use Rattle.std.proofs.Common.{sym, ◌∙◌}
use Rattle.base64.specs.Engines.{standard, standard_no_pad}
use Rattle.cddl_literal.proofs.CodingFacts.{answer_by, padded, unpadded}
use Rattle.cddl_literal.proofs.prefixed.base64_bytes.Goals as goal

pub returns-then-has_padding : goal.returns-then-has_padding
returns-then-has_padding c = padded (λ v. v.items) c.unless_faulty.result c.args.letters.now c.deref.result.now (c.deref.ensures.value ∙ c.in_ok-standard.ensures) (sym c.has_padding.ensures ∙ c.if-has_padding.true) (answer_by (λ v. v.items) standard c.deref.result.now c.decode.result c.unless_faulty.result c.decode.ensures.ok c.decode.ensures.err c.unless_faulty.ensures)

pub returns : goal.returns
returns c = unpadded (λ v. v.items) c.unless_faulty-else-has_padding.result c.args.letters.now c.deref-else-has_padding.result.now (c.deref-else-has_padding.ensures.value ∙ c.in_ok-standard.ensures) (sym c.has_padding.ensures ∙ c.if-has_padding.false) (answer_by (λ v. v.items) standard_no_pad c.deref-else-has_padding.result.now c.decode-else-has_padding.result c.unless_faulty-else-has_padding.result c.decode-else-has_padding.ensures.ok c.decode-else-has_padding.ensures.err c.unless_faulty-else-has_padding.ensures)
