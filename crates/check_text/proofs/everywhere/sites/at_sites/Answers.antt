use Rattle.std.proofs.Common.{get_or, map, sym, subst}
use Rattle.tree_nodes.specs.Syntax.Syntax as S
use Rattle.cddl_language.specs.Reading.{definitions_in, rules_of}
use Rattle.check_reading.specs.Survey.Survey.{defined_in}
use Rattle.check_reading.specs.Words.{AreWords}
use Rattle.check_sites.specs.Sites.View.{view_found}
use Rattle.lists.proofs.Lemmas.{contains_at}
use Rattle.tree_nodes.specs.View.{token_of, view}
use Rattle.all_offsets.specs.Offsets.{AreOf}
use Rattle.all_offsets.proofs.Lemmas.{among, begins, ends, goes_on_least, read_at}
use Rattle.check_text.specs.SiteFaults.Marks.{AreMarks}
use Rattle.check_text.specs.SiteFaults.Told.{IsToldAt}
use Rattle.check_text.specs.SiteFaults.Words.{IsToldAtWord}
use Rattle.check_text.proofs.OfSiteFaults.Telling.{IsTold, all_told, least_of_word, no_word, one_of_word, spoken, word_is}
use Rattle.check_text.proofs.OfSiteFaults.Wrong.{all_in_text, one_at_word}
use Rattle.check_text.proofs.everywhere.sites.at_sites.Goals as goal

pub loop-word-init : goal.loop-word-init
loop-word-init c tree is are = begins (λ k. IsToldAt c.args.terms.now (rules_of (view tree)) (IsToldAtWord c.args.code (defined_in tree))) c.deref-word-items.result.now c.new-offsets.result.items c.new-offsets.ensures.items

pub loop-word-preserved : goal.loop-word-preserved
loop-word-preserved c tree is are =
    let t = c.args.terms.now in
    let rs = rules_of (view tree) in
    let P = IsToldAtWord c.args.code (defined_in tree) in
    let ws = c.deref-word-items.result.now in
    let w = get_or ws c.loop-word.word-index no_word in
    let i = c.loop-word.word-index in
    let there = read_at ws i w c.loop-word-test.true (word_is c.deref-word-items.result.now c.loop-word.word-index c.loop-word-test.true) in
    let it = are w (contains_at ws i w there) in
    let marked = subst (λ ds. AreMarks ds c.in_ok-marks.marks.keys) c.deref.ensures.value c.in_ok-marks.ensures in
    let wrong = c.wrong_at-wrong.ensures tree it.rule it.said (record { survey = is; marked = marked }) it.place it.is in
    goes_on_least (λ k. IsToldAt t rs P) ws i w c.wrong_at-wrong.result _ _ there (least_of_word t rs P w it.rule it.said it.place it.is _ wrong) (one_of_word t rs P w it.rule it.said it.place it.is (one_at_word c.args.code (defined_in tree) it.rule it.said)) c.in_ok-push_found.ensures (c.loop-word.invariant tree is are)

pub returns : goal.returns
returns c s tree e is =
    let t = c.args.terms.now in
    let read = token_of tree in
    let rs = rules_of (view tree) in
    let P = IsToldAtWord c.args.code (defined_in tree) in
    let ws = c.deref-word-items.result.now in
    let are = subst (λ vs. AreWords t vs (map (view_found read) is.sites)) (sym c.deref-word-items.ensures.value) is.words_read in
    let stand = c.found_sites.ensures.found in
    let every = c.found_sites.ensures.every in
    let words = c.words_stand.ensures.found in
    let all = c.words_stand.ensures.every in
    let so = spoken stand every words all t read (view tree) is.sites is.sites_found ws are in
    let of = among (IsToldAt t rs P) ws c.loop-word.offsets.items (ends (λ k. IsToldAt t rs P) ws c.loop-word.word-index c.loop-word.offsets.items c.loop-word-test.false (c.loop-word.invariant tree is so)) in
    all_in_text s c.args.code _ (subst (λ (x : S.Cddl). AreOf (IsTold s (IsToldAtWord c.args.code (definitions_in (rules_of x)))) c.loop-word.offsets.items) (sym e) (all_told stand every words all t read (view tree) is.sites is.sites_found ws are P s e _ of))
