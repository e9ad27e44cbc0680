use Rattle.std.proofs.Common.{ap, sym, ◌∙◌, ◌+◌, arith}
use Rattle.std.proofs.lemmas.List.{at_drop_all}
use Rattle.cddl_explain.specs.Rules.{assigns, closes}
use Rattle.cddl_explain.specs.declared.rules.InList.TheVariants as in_list
use Rattle.cddl_explain.proofs.Ruling.{closes_at, rest_whole}
use Rattle.cddl_explain.proofs.rules.closes.Goals as goal

pub token-preserved : goal.token-preserved
token-preserved c = sym (closes_at c.args.tokens.now c.token.k _ in_list.Within c.token-test.true (sym c.in_list_of.ensures ∙ c.in-Within.is)) ∙ c.token.invariant

pub returns-in-Last : goal.returns-in-Last
returns-in-Last c = c.assigns.ensures ∙ (ap assigns (rest_whole c.args.tokens.now (c.token.k + 1)) ∙ (sym (closes_at c.args.tokens.now c.token.k _ in_list.Last c.token-test.true (sym c.in_list_of.ensures ∙ c.in-Last.is)) ∙ c.token.invariant))

pub returns-in-Foreign : goal.returns-in-Foreign
returns-in-Foreign c = sym (closes_at c.args.tokens.now c.token.k _ in_list.Foreign c.token-test.true (sym c.in_list_of.ensures ∙ c.in-Foreign.is)) ∙ c.token.invariant

pub returns : goal.returns
returns c = sym (at_drop_all closes c.args.tokens.now c.token.k (omega arith)) ∙ c.token.invariant
