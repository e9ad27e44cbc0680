use Rattle.std.proofs.Common.{sym, subst, ◌∙◌}
use Rattle.cddl_language.specs.Faults.{definitions, rules}
use Rattle.check_instances.specs.Found.{AreFound}
use Rattle.check_reached.specs.Reached.{AreReachedWords}
use Rattle.cddl_check.proofs.questioning.ask.Goals as goal

pub returns-clause-texts : goal.returns-clause-texts
returns-clause-texts c = c.in_ok-entries.ensures.texts ∙ c.in_ok-asked.ensures.texts

pub returns-clause-asking : goal.returns-clause-asking
returns-clause-asking c s worth x root refs tree right instanced =
    let old = c.args.terms.now in
    let first = c.questions.new.terms in
    let last = c.entry_questions.new.terms in
    let early = c.questions.ensures.grows in
    let late = c.entry_questions.ensures.grows in
    let survey = instanced.survey in
    let instances = instanced.rooted.instances in
    let reached = subst (AreReachedWords (rules s) root old) (sym c.deref.ensures.value) instanced.rooted.reached in
    let asked_found = subst (λ is. AreFound (definitions s) old is refs) (sym c.deref-2.ensures.value) instanced.found in
    let asked = c.in_ok-asked.ensures.asked x s root refs tree right.clear survey instances asked_found in
    let still = c.survey_grows.ensures old first x c.args.survey.now early c.in_ok-asked.ensures.texts c.is_table.ensures survey in
    let entry_found = subst (λ is. AreFound (definitions s) first is refs) (sym c.deref-3.ensures.value) (c.instances_grow.ensures old first early (definitions s) _ refs instanced.found) in
    record {
      asked = c.questions_grow.ensures first last late (rules s) root _ asked;
      entries = c.in_ok-entries.ensures.asked x s root refs tree right.clear still instances entry_found;
      opens = c.in_ok-opens.ensures old x s root tree survey reached;
    }
