use Rattle.std.proofs.Common.{get_or, map, sym, subst}
use Rattle.tree_nodes.specs.Syntax.Syntax as S
use Rattle.cddl_language.specs.Reading.{definitions_in, rules_of}
use Rattle.check_reading.specs.Survey.Survey.{defined_in}
use Rattle.check_reading.specs.Words.{AreWords}
use Rattle.check_sites.specs.Sites.View.{view_found}
use Rattle.lists.specs.Least.{IsLeast}
use Rattle.tree_nodes.specs.View.{token_of, view}
use Rattle.all_offsets.proofs.Lemmas.{finished, none_told, steps}
use Rattle.check_text.specs.SiteFaults.Marks.{AreMarks}
use Rattle.check_text.specs.SiteFaults.Told.{IsToldAt}
use Rattle.check_text.specs.SiteFaults.Words.{IsToldAtWord}
use Rattle.check_text.proofs.OfSiteFaults.Telling.{IsTold, least_of_word, least_told, no_word, spoken, word_is}
use Rattle.check_text.proofs.OfSiteFaults.Wrong.{least_in_text}
use Rattle.check_text.proofs.site_faults.words.site_fault.Goals as goal

pub loop-word-init : goal.loop-word-init
loop-word-init c tree is are = none_told (IsToldAt c.args.terms.now (rules_of (view tree)) (IsToldAtWord c.args.code (defined_in tree))) c.deref-word-items.result.now

pub loop-word-preserved : goal.loop-word-preserved
loop-word-preserved c tree is are =
    let t = c.args.terms.now in
    let rs = rules_of (view tree) in
    let P = IsToldAtWord c.args.code (defined_in tree) in
    let w = get_or c.deref-word-items.result.now c.loop-word.word-index no_word in
    let it = are w (c.loop-word.word-index, c.loop-word-test.true, sym (word_is c.deref-word-items.result.now c.loop-word.word-index c.loop-word-test.true)) in
    let marked = subst (λ ds. AreMarks ds c.in_ok-marks.marks.keys) c.deref.ensures.value c.in_ok-marks.ensures in
    let wrong = c.wrong_at.ensures tree it.rule it.said (record { survey = is; marked = marked }) it.place it.is in
    steps (IsToldAt t rs P) c.deref-word-items.result.now c.loop-word.word-index w c.loop-word.least _ _ c.loop-word-test.true (word_is c.deref-word-items.result.now c.loop-word.word-index c.loop-word-test.true) (least_of_word t rs P w it.rule it.said it.place it.is _ wrong) c.lesser-least.ensures (c.loop-word.invariant tree is are)

pub returns : goal.returns
returns c s tree e is =
    let t = c.args.terms.now in
    let read = token_of tree in
    let rs = rules_of (view tree) in
    let P = IsToldAtWord c.args.code (defined_in tree) in
    let ws = c.deref-word-items.result.now in
    let are = subst (λ vs. AreWords t vs (map (view_found read) is.sites)) (sym c.deref-word-items.ensures.value) is.words_read in
    let stand = c.found_sites.ensures.found in
    let every = c.found_sites.ensures.every in
    let words = c.words_stand.ensures.found in
    let all = c.words_stand.ensures.every in
    let so = spoken stand every words all t read (view tree) is.sites is.sites_found ws are in
    let least = finished (IsToldAt t rs P) ws c.loop-word.word-index c.loop-word.least c.loop-word-test.false (c.loop-word.invariant tree is so) in
    least_in_text s c.args.code _ (subst (λ (x : S.Cddl). IsLeast (IsTold s (IsToldAtWord c.args.code (definitions_in (rules_of x)))) c.loop-word.least) (sym e) (least_told stand every words all t read (view tree) is.sites is.sites_found ws are P s e _ least))
