use Rattle.std.proofs.Common.{◌+◌, refl, sym, ◌∙◌, ap, subst}
use Rattle.cddl_literal.specs.Bytes.{is_decimal_digit}
use Rattle.cddl_token.specs.Tokens.{flawed}
use Rattle.cddl_token.specs.Shapes.{IsLongestShape}
use Rattle.cddl_token.proofs.NumberFacts.{lone_dash, dash_within, negative_misspelled, negative_float}
use Rattle.cddl_token.proofs.uints.negative_at.Goals as goal

pub returns-then-not-is_digit : goal.returns-then-not-is_digit
returns-then-not-is_digit c = flawed refl refl (lone_dash c.args.source.now c.args.at c.requires.begins (ap is_decimal_digit (sym c.byte_at.ensures.value) ∙ sym c.is_digit.ensures ∙ c.if-not-is_digit.true))

pub number_or_fault-requires-clause-longest : goal.number_or_fault-requires-clause-longest
number_or_fault-requires-clause-longest c = dash_within c.args.source.now c.args.at c.requires.begins _ c.shape_at-shape.result.1 c.shape_at-shape.ensures.longest

pub returns-in-Misspelled : goal.returns-in-Misspelled
returns-in-Misspelled c = flawed refl refl (negative_misspelled c.args.source.now c.args.at c.requires.begins c.shape_at-shape.result.1 (subst (λ k. IsLongestShape k c.args.source.now (c.args.at + 1) c.shape_at-shape.result.1) c.in-Misspelled.is c.shape_at-shape.ensures.longest))

pub returns-in-Float : goal.returns-in-Float
returns-in-Float c = flawed refl refl (negative_float c.args.source.now c.args.at c.requires.begins c.shape_at-shape.result.1 (subst (λ k. IsLongestShape k c.args.source.now (c.args.at + 1) c.shape_at-shape.result.1) c.in-Float.is c.shape_at-shape.ensures.longest))
