use Rattle.std.proofs.Common.{◌∙◌, sym, arith}
use Rattle.cddl_reasons.specs.Optional.{optional_of}
use Rattle.cddl_reasons.proofs.LastItems.{is_known, one_less}
use Rattle.cddl_reasons.proofs.optional.is_optional.Goals as goal

pub returns-in-Some : goal.returns-in-Some
returns-in-Some c = sym (is_known optional_of c.args.below.now c.each.k _ c.in-Some.optional c.open_at.result.now c.each.invariant (omega (arith, c.each-test.true)) c.open_at.ensures (sym c.optional_of.ensures ∙ c.in-Some.is))

pub each-preserved : goal.each-preserved
each-preserved c = one_less optional_of c.args.below.now c.each.k _ c.open_at.result.now c.each.invariant (omega (arith, c.each-test.true)) c.open_at.ensures (sym c.optional_of.ensures ∙ c.in_default.is)
