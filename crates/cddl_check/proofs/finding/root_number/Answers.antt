use Rattle.std.proofs.Common.{◌∙◌, sym, subst}
use Rattle.cddl_language.specs.Reading.{definitions_in, rules_of}
use Rattle.check_terms.specs.Definitions.{AreDefinitions}
use Rattle.cddl_check.proofs.Roots.{IsRoot, is_root}
use Rattle.cddl_check.proofs.finding.root_number.Goals as goal

pub returns-in-Some-clause-root : goal.returns-in-Some-clause-root
returns-in-Some-clause-root c s worth tree given survey =
    let own = subst (λ x. AreDefinitions c.args.terms.now c.args.survey.now.definitions.items (definitions_in (rules_of x))) (sym given.tree) survey.text_read in
    subst (IsRoot c.args.terms.now s) (sym c.root_of.ensures.number ∙ c.in-Some.is) (is_root c.args.terms.now c.args.survey.now.known.items c.args.survey.now.definitions.items s survey.prelude_read own _ given.given)

pub returns-in-None-clause-stopped : goal.returns-in-None-clause-stopped
returns-in-None-clause-stopped c s worth tree given survey right =
    let own = subst (λ x. AreDefinitions c.args.terms.now c.args.survey.now.definitions.items (definitions_in (rules_of x))) (sym given.tree) survey.text_read in
    let no = subst (IsRoot c.args.terms.now s) (sym c.root_of.ensures.number ∙ c.in-None.is) (is_root c.args.terms.now c.args.survey.now.known.items c.args.survey.now.definitions.items s survey.prelude_read own _ given.given) in
    absurd (right.no_fault.1.1.1.1.0 0 no)
