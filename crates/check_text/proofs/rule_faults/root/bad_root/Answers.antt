use Rattle.std.proofs.Common.{sym, subst, ◌∙◌}
use Rattle.cddl_language.specs.Faults.{HasBadRoot}
use Rattle.lists.specs.Least.{IsLeast}
use Rattle.check_text.proofs.OfRuleFaults.Roots.{IsRoot, is_bad, is_root, no_bad}
use Rattle.check_text.proofs.rule_faults.root.bad_root.Goals as goal

pub returns-in-Some : goal.returns-in-Some
returns-in-Some c z tree e g is =
    let root = subst (IsRoot c.args.terms.now z) (sym c.root_of.ensures.number ∙ c.in-Some.is) (is_root c.args.terms.now tree c.args.survey.now is z e _ g) in
    subst (IsLeast (HasBadRoot z)) (sym c.bad_root_at.ensures) (is_bad c.args.terms.now tree c.args.survey.now is z e _ root.0 root.1 root.2)

pub returns-in-None : goal.returns-in-None
returns-in-None c z tree e g is = no_bad c.args.terms.now tree c.args.survey.now is z e (subst (IsRoot c.args.terms.now z) (sym c.root_of.ensures.number ∙ c.in-None.is) (is_root c.args.terms.now tree c.args.survey.now is z e _ g))
