use Rattle.std.proofs.Common.{map, sym, subst, ap, ◌∙◌}
use Rattle.std.proofs.lemmas.Result.{IfOk-weaker}
use Rattle.cddl_language.specs.Faults.{rules}
use Rattle.cddl_language.specs.Reading.{definitions_in, rules_of}
use Rattle.check_live.specs.Live.{AreLive}
use Rattle.check_names.specs.Environment.Places.{lists}
use Rattle.check_sites.specs.Sites.View.{view_found}
use Rattle.check_terms.specs.Definitions.{AreDefinitions}
use Rattle.check_reading.specs.Survey.Survey.{defined_in}
use Rattle.check_reading.specs.Words.{AreWords}
use Rattle.tree_nodes.specs.View.{token_of}
use Rattle.check_reached.specs.Reached.{AreReachedWords}
use Rattle.check_reached.proofs.Reaching.{Laws, are_reached}
use Rattle.check_reached.proofs.reached.reached_words.Goals as goal

pub returns : goal.returns
returns c = IfOk-weaker c.called.result _ _ (λ v e tree s root refs same clear is are found.
    let t = c.args.terms.now in
    let read = token_of tree in
    let ds = c.deref-2.result.now in
    let ws = c.deref-3.result.now in
    let laws : Laws = record { live = c.reached_sites.ensures.live; instance = c.reached_sites.ensures.instance; reached = c.reached_sites.ensures.reached } in
    let defined = subst (λ x. AreDefinitions t ds (definitions_in (rules_of x))) (sym same) (subst (λ xs. AreDefinitions t xs (defined_in tree)) (sym c.deref-2.ensures.value) is.text_read) in
    let lives = subst (λ x. AreLive (rules_of x) read is.live_sites) (sym same) is.live_found in
    let words = subst (λ vs. AreWords t vs (map (view_found read) is.live_sites)) (sym c.deref-3.ensures.value) is.live_read in
    subst (AreReachedWords (rules s) root t) (sym e) (are_reached laws s root clear refs are t is.table ds defined c.args.found.now found (lists c.deref.result.now) (ap lists c.deref.ensures.value ∙ c.in_ok-calls.ensures) read is.live_sites lives c.words_stand.ensures.found c.words_stand.ensures.every ws words)) c.called.ensures
