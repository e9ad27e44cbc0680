use Rattle.std.proofs.Common.{sym, ◌∙◌, true, false, arith}
use Rattle.std.proofs.lemmas.List.{at_drop_all}
use Rattle.cddl_explain.specs.Cases.{sign_of_rule}
use Rattle.cddl_explain.proofs.Ruling.{sign_at}
use Rattle.cddl_explain.proofs.cases.sign_of_rule.Goals as goal

pub token-preserved : goal.token-preserved
token-preserved c = sym (sign_at c.args.tokens.now c.token.k _ false c.token-test.true (sym c.is_assignment.ensures ∙ c.if-is_assignment.false)) ∙ c.token.invariant

pub returns-then-is_assignment : goal.returns-then-is_assignment
returns-then-is_assignment c = sym (sign_at c.args.tokens.now c.token.k _ true c.token-test.true (sym c.is_assignment.ensures ∙ c.if-is_assignment.true)) ∙ c.token.invariant

pub returns : goal.returns
returns c = sym (at_drop_all sign_of_rule c.args.tokens.now c.token.k (omega arith)) ∙ c.token.invariant
