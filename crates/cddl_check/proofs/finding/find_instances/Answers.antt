use Rattle.std.proofs.Common.{length, sym, subst, arith}
use Rattle.cddl_language.specs.Faults.{definitions}
use Rattle.cddl_language.specs.Prelude.{prelude}
use Rattle.cddl_language.specs.Reading.{definitions_in, rules_of}
use Rattle.check_names.specs.Environment.Names.{AreNames}
use Rattle.check_instances.specs.Found.{AreFound}
use Rattle.check_terms.specs.Definitions.{AreDefinitions}
use Rattle.cddl_check.specs.Outcome.{IsStopped}
use Rattle.cddl_check.proofs.Handing.{handed}
use Rattle.cddl_check.proofs.Lengths.{found_length}
use Rattle.cddl_check.proofs.finding.find_instances.Goals as goal

pub returns-clause-found : goal.returns-clause-found
returns-clause-found c s worth tree given survey right =
    let r = c.in_ok-root.ensures.root s worth tree given survey in
    let own = subst (λ x. AreDefinitions c.args.terms.now c.args.survey.now.definitions.items (definitions_in (rules_of x))) (sym given.tree) survey.text_read in
    let known_there = subst (λ ds. AreDefinitions c.args.terms.now ds prelude) (sym c.deref-2.ensures.value) survey.prelude_read in
    let own_there = subst (λ ds. AreDefinitions c.args.terms.now ds (definitions s)) (sym c.deref-3.ensures.value) own in
    let names_there : AreNames (length c.args.terms.now.texts) c.deref-2.result.now c.deref-3.result.now c.deref.result.now = rw (c.deref.ensures.value, c.deref-2.ensures.value, c.deref-3.ensures.value) survey.names_found in
    let fnd = c.in_ok-found.ensures.found (definitions s) r.0 (length c.args.terms.now.texts) known_there own_there names_there r.2 in
    let has = c.in_ok-instances.ensures.found s r.0 c.instances.new.terms fnd in
    let no_more = c.in_ok-instances.ensures.few s r.0 c.instances.new.terms fnd in
    let grows = c.instances.ensures.grows in
    let later = c.survey_grows.ensures c.args.terms.now c.instances.new.terms tree c.args.survey.now grows c.instances.ensures.texts c.len.ensures.table survey in
    let many = found_length (definitions s) c.instances.new.terms _ has.refs has.are_found in
    let found_there = subst (λ is. AreFound (definitions s) c.instances.new.terms is has.refs) (sym c.deref-4.ensures.value) has.are_found in (
      r.0,
      has.refs,
      record {
        survey = later;
        rooted = record {
          rooted = r.1;
          instances = has.are_instances;
          few = omega (arith, many, has.few);
          no_more = no_more;
          reached = c.in_ok-reached.ensures tree s r.0 has.refs given.tree right.clear later has.are_instances found_there;
        };
        number = grows.texts _ _ r.2;
        found = has.are_found;
      },
    )

pub returns-in_err-root-clause-stopped : goal.returns-in_err-root-clause-stopped
returns-in_err-root-clause-stopped c = handed _ _ c.in_err-root.field-0.0 c.from_residual.ensures.1 (λ s worth tree given survey right. c.in_err-root.ensures.stopped s worth tree given survey right)

pub returns-in_err-instances-clause-stopped : goal.returns-in_err-instances-clause-stopped
returns-in_err-instances-clause-stopped c = handed _ _ c.in_err-instances.field-0.0 c.from_residual-in_err-instances.ensures.1 (λ s worth tree given survey right.
    let r = c.in_ok-root.ensures.root s worth tree given survey in
    let own = subst (λ x. AreDefinitions c.args.terms.now c.args.survey.now.definitions.items (definitions_in (rules_of x))) (sym given.tree) survey.text_read in
    let known_there = subst (λ ds. AreDefinitions c.args.terms.now ds prelude) (sym c.deref-2.ensures.value) survey.prelude_read in
    let own_there = subst (λ ds. AreDefinitions c.args.terms.now ds (definitions s)) (sym c.deref-3.ensures.value) own in
    let names_there : AreNames (length c.args.terms.now.texts) c.deref-2.result.now c.deref-3.result.now c.deref.result.now = rw (c.deref.ensures.value, c.deref-2.ensures.value, c.deref-3.ensures.value) survey.names_found in
    let fnd = c.in_ok-found.ensures.found (definitions s) r.0 (length c.args.terms.now.texts) known_there own_there names_there r.2 in
    let told = c.in_err-instances.ensures.many s r.0 c.instances.new.terms fnd in
    subst (IsStopped s worth) (sym told.2) (c.root_faults_are_told.ensures.too_many s worth r.0 r.1 right.no_fault told.0 told.1))
