use Rattle.std.proofs.Common.{sym, subst, ap, ◌∙◌}
use Rattle.std.specs.Prelude.{flat_map}
use Rattle.std.proofs.lemmas.Result.{IfOk-weaker}
use Rattle.cddl_language.specs.Reading.{definitions_in, rules_of}
use Rattle.cddl_language.specs.Faults.{definitions, rules}
use Rattle.check_live.specs.Live.{AreLive}
use Rattle.check_names.specs.Environment.Places.{lists}
use Rattle.check_terms.specs.Definitions.{AreDefinitions}
use Rattle.check_reading.specs.Parts.{AreParts, of_found}
use Rattle.check_reading.specs.Survey.Survey.{defined_in}
use Rattle.tree_nodes.specs.View.{token_of}
use Rattle.check_reached.specs.Asked.{AreAnswers}
use Rattle.check_reached.proofs.Answering.{Trees, are_asked}
use Rattle.check_reached.proofs.Parting.{at_sites}
use Rattle.check_reached.proofs.Reaching.{Laws, are_ready}
use Rattle.check_reached.proofs.asked.questions.Goals as goal

pub returns-clause-asked : goal.returns-clause-asked
returns-clause-asked c = IfOk-weaker c.ask_all.result _ _ (λ v h tree s root refs same clear is are found.
    let t = c.args.terms.now in
    let read = token_of tree in
    let ds = c.deref.result.now in
    let live = is.live_sites in
    let laws : Laws = record { live = c.reached_sites.ensures.live; instance = c.reached_sites.ensures.instance; reached = c.reached_sites.ensures.reached } in
    let trees : Trees = record { term = c.filled_trees.ensures.term; reference = c.filled_trees.ensures.reference; entry = c.filled_trees.ensures.entry; group = c.filled_trees.ensures.group } in
    let defined = subst (λ x. AreDefinitions t ds (definitions_in (rules_of x))) (sym same) (subst (λ xs. AreDefinitions t xs (defined_in tree)) (sym c.deref.ensures.value) is.text_read) in
    let ready = are_ready t is.table (rules s) ds defined (definitions s) c.args.found.now refs found (lists c.deref-2.result.now) (ap lists c.deref-2.ensures.value ∙ c.in-Ok.ensures) in
    let lives = subst (λ x. AreLive (rules_of x) read live) (sym same) is.live_found in
    let parts = subst (λ ps. AreParts t ps (flat_map (of_found read) live)) (sym c.deref-3.ensures.value) is.parts_read in
    are_asked laws trees s root clear refs are read live lives c.ask_all.new.terms v.items (subst (AreAnswers c.ask_all.new.terms v.items) (at_sites read (rules s) refs live) (h (rules s) refs (flat_map (of_found read) live) ready parts))) c.ask_all.ensures.answers
