use Rattle.std.proofs.Common.{map, sym, ap, subst, arith, ◌∙◌}
use Rattle.cddl_language.specs.Faults.{definitions, rules}
use Rattle.cddl_language.specs.Reading.{definitions_in, name_at, rules_of}
use Rattle.check_instances.specs.Found.{AreFound}
use Rattle.check_names.specs.Kinds.Kinds.{AreKinds}
use Rattle.check_terms.specs.Definitions.{AreDefinitions}
use Rattle.cddl_check.proofs.Lengths.{definitions_length}
use Rattle.cddl_check.proofs.reading.finish_tree.Goals as goal

pub returns-clause-read : goal.returns-clause-read
returns-clause-read c s worth x root refs tree values right f =
    let old = c.args.terms.now in
    let mid = c.ask.new.terms in
    let new = c.close_instances.new.terms in
    let v = c.args.begun.survey in
    let asking = c.in_ok-questions.ensures.asking s worth x root refs tree right f in
    let grown = c.ask.ensures.grows in
    let further = c.close_instances.ensures.grows in
    let grows = c.growing_keeps.ensures.further old mid new grown further in
    let asked = c.in_ok-questions.ensures.texts in
    let texts = c.close_instances.ensures.texts ∙ asked in
    let survey = c.survey_grows.ensures old new x v grows texts c.is_table.ensures f.survey in
    let found = subst (λ is. AreFound (definitions s) mid is refs) (sym c.deref.ensures.value) (c.instances_grow.ensures old mid grown (definitions s) _ refs f.found) in
    let defined = subst (λ y. AreDefinitions new v.definitions.items (definitions_in (rules_of y))) (sym tree) survey.text_read in
    let kinds = subst (λ y. AreKinds new.texts (definitions_in (rules_of y)) v.kinds) (sym tree) survey.kinds_found in
    let known = definitions_length _ _ _ survey.prelude_read in
    let own = definitions_length _ _ _ defined in
    let meant = c.in_ok-meant.ensures.meant s worth root refs values f.rooted.instances f.rooted.few found (subst (λ ts. AreKinds ts (definitions s) v.kinds) c.close_instances.ensures.texts kinds) (omega (arith, known, own)) in
    record {
      right = right;
      rooted = record {
        rooted = f.rooted.rooted;
        instances = f.rooted.instances;
        few = f.rooted.few;
        no_more = f.rooted.no_more;
        reached = c.reached_words_grow.ensures old new grows (rules s) root _ f.rooted.reached;
      };
      number = grows.texts _ _ f.number;
      survey = survey;
      named = record {
        known = survey.prelude_read;
        defined = defined;
        names = survey.names_found;
        kinds = kinds;
        starts = survey.starts_found ∙ ap (λ y. map name_at (rules_of y)) (sym tree);
      };
      asking = record {
        asked = c.questions_grow.ensures _ _ further (rules s) root _ asking.asked;
        entries = c.entry_questions_grow.ensures _ _ further (rules s) root _ asking.entries;
        opens = asking.opens;
      };
      meant = meant;
      splices = c.in_ok-splices.ensures.found s worth root refs kinds meant;
    }
