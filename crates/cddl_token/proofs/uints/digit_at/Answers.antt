use Rattle.std.proofs.Common.{refl, ◌∙◌, subst}
use Rattle.cddl_token.specs.Tokens.{flawed}
use Rattle.cddl_token.specs.Shapes.{IsLongestShape}
use Rattle.cddl_token.proofs.NumberFacts.{a_number, a_misspelled, a_float}
use Rattle.cddl_token.proofs.uints.digit_at.Goals as goal

pub number_or_fault-requires-clause-longest : goal.number_or_fault-requires-clause-longest
number_or_fault-requires-clause-longest c =
    a_number c.args.source.now c.args.at c.requires.begins c.shape_at-shape.result.1 (subst (λ k. IsLongestShape k c.args.source.now c.args.at c.shape_at-shape.result.1) c.in-Uint.is c.shape_at-shape.ensures.longest) (λ e. c.if-byte_at-eq42.false (c.byte_at.ensures.value ∙ e))

pub returns-in-Misspelled : goal.returns-in-Misspelled
returns-in-Misspelled c = flawed refl refl (a_misspelled c.args.source.now c.args.at c.requires.begins c.shape_at-shape.result.1 (subst (λ k. IsLongestShape k c.args.source.now c.args.at c.shape_at-shape.result.1) c.in-Misspelled.is c.shape_at-shape.ensures.longest))

pub returns-in-Float : goal.returns-in-Float
returns-in-Float c = flawed refl refl (a_float c.args.source.now c.args.at c.requires.begins c.shape_at-shape.result.1 (subst (λ k. IsLongestShape k c.args.source.now c.args.at c.shape_at-shape.result.1) c.in-Float.is c.shape_at-shape.ensures.longest))
