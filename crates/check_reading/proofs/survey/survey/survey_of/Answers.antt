use Rattle.std.proofs.Common.{◌≡◌, map, sym, subst}
use Rattle.std.specs.Prelude.{flat_map}
use Rattle.cddl_language.specs.Reading.{rules_of}
use Rattle.tree_nodes.specs.View.{token_of, view}
use Rattle.check_terms.specs.Definitions.{AreDefinitions}
use Rattle.check_sites.specs.Sites.View.{outside, view_found}
use Rattle.check_sites.specs.Sites.Walk.{all_outer_sites}
use Rattle.check_reading.specs.Parts.{AreEntryParts, AreParts, of_found}
use Rattle.check_reading.specs.Survey.Survey.{defined_in}
use Rattle.check_reading.specs.Words.{AreWords}
use Rattle.check_reading.proofs.OfParts.Listing.{parts_kept}
use Rattle.check_reading.proofs.OfSurvey.Reading.{same_kinds, same_names}
use Rattle.check_reading.proofs.OfWords.Listing.{words_kept}
use Rattle.check_reading.proofs.survey.survey.survey_of.Goals as goal

pub returns-clause-survey : goal.returns-clause-survey
returns-clause-survey c =
    let tree = c.args.tree.now in
    let read = token_of tree in
    let mid = c.read.new.terms in
    let first = c.site_words.new.terms in
    let second = c.site_words-2.new.terms in
    let more = c.site_parts.new.terms in
    let t = c.entry_parts.new.terms in
    let keeps = c.growing_keeps.ensures in
    let late = keeps.further second more t c.in_ok-parts.ensures.grows c.in_ok-entries.ensures.grows in
    let later = keeps.further first second t c.in_ok-live.ensures.grows late in
    let grown = keeps.further mid first t c.in_ok-words.ensures.grows later in
    let known = keeps.definitions _ t (keeps.further _ mid t c.read.ensures.grows grown) _ _ c.in_ok-known.ensures.definitions in
    let text = keeps.definitions mid t grown _ _ c.in_ok-definitions.ensures.definitions in
    let are = same_names c.text_count-count.ensures.value c.deref-7.ensures.value c.deref-8.ensures.value c.in-Ok-names.ensures in
    let defined = subst (λ ds. AreDefinitions mid ds (defined_in tree)) (sym c.deref.ensures.value) c.in_ok-definitions.ensures.definitions in
    let outer = subst (λ fs. map (view_found read) (outside fs) ≡ all_outer_sites (rules_of (view tree))) (sym c.deref-2.ensures.value) c.in-Ok.ensures.outer in
    record {
      table = c.len.ensures.table;
      prelude_read = known;
      text_read = text;
      names_found = are;
      names_stand = λ k n v e f. c.names_stand.ensures t _ k _ _ _ _ n v c.len.ensures.table known text are e f;
      kinds_found = same_kinds c.deref-9.ensures.value c.deref-10.ensures.value c.deref-11.ensures.value c.in-Ok-kinds_of.ensures known text are;
      starts_found = c.in-Ok-starts_of.ensures;
      parameters_found = c.in-Ok-all_parameters.ensures;
      sites = c.in-Ok.sites.items;
      sites_found = c.in-Ok.ensures.all;
      words_read = words_kept first t later c.in_ok-words.words.items _ (subst (λ fs. AreWords first c.in_ok-words.words.items (map (view_found read) fs)) c.deref-3.ensures.value c.in_ok-words.ensures.words);
      live_sites = c.in-Ok-live_sites.reached.items;
      live_found = c.in-Ok-live_sites.ensures defined outer;
      live_read = words_kept second t late c.in_ok-live.live.items _ (subst (λ fs. AreWords second c.in_ok-live.live.items (map (view_found read) fs)) c.deref-4.ensures.value c.in_ok-live.ensures.words);
      parts_read = parts_kept more t (keeps.tree more t c.in_ok-entries.ensures.grows) c.in_ok-parts.parts.items _ (subst (λ fs. AreParts more c.in_ok-parts.parts.items (flat_map (of_found read) fs)) c.deref-5.ensures.value c.in_ok-parts.ensures.parts);
      entries_read = subst (λ fs. AreEntryParts t (rules_of (view tree)) read fs c.in_ok-entries.entries.items) c.deref-6.ensures.value c.in_ok-entries.ensures.parts;
    }
