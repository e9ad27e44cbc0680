use Rattle.std.proofs.Common.{sym, subst, ◌∙◌, arith}
use Rattle.check_text.proofs.OfRuleFaults.Roots.{IsRoot, has_root, is_root}
use Rattle.check_text.proofs.rule_faults.root.no_root.Goals as goal

pub returns-in-Some : goal.returns-in-Some
returns-in-Some c z tree e g is = has_root c.args.terms.now tree c.args.survey.now is z e _ (subst (IsRoot c.args.terms.now z) (sym c.root_of.ensures.number ∙ c.in-Some.is) (is_root c.args.terms.now tree c.args.survey.now is z e _ g))

pub returns-in-None : goal.returns-in-None
returns-in-None c z tree e g is = (subst (IsRoot c.args.terms.now z) (sym c.root_of.ensures.number ∙ c.in-None.is) (is_root c.args.terms.now tree c.args.survey.now is z e _ g), λ p f. omega arith)
