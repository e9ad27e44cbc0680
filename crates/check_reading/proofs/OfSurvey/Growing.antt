-- What is read of a text is read of it by the numbers of a table with more rows.
use Rattle.std.proofs.Common.{◌≡◌, ℕ, List, length, Option, slice_get, sym, ap, subst, ◌∙◌}
use Rattle.cddl_language.specs.Terms as L
use Rattle.cddl_language.specs.Terms.{Text}
use Rattle.cddl_language.specs.Prelude.{prelude}
use Rattle.cddl_language.specs.Reading.{rules_of}
use Rattle.tree_nodes.specs.declared.tree.Tree.{Tree}
use Rattle.tree_nodes.specs.View.{token_of, view}
use Rattle.check_terms.specs.declared.definition.Definition.{Definition}
use Rattle.check_terms.specs.Definitions.{AreDefinitions}
use Rattle.check_terms.specs.Table.{Grows, Holds, IsTable, Table, Tree as Trees}
use Rattle.check_names.specs.Environment.Names.{AreNames}
use Rattle.check_names.specs.Kinds.Kinds.{AreKinds}
use Rattle.check_reading.specs.Survey.Survey.{IsSurvey, defined_in}
use Rattle.check_reading.specs.declared.survey.survey.Survey.{Survey}
use Rattle.check_reading.proofs.OfParts.Listing.{entry_parts_kept, parts_kept}
use Rattle.check_reading.proofs.OfWords.Listing.{words_kept}

pub grown : (old new : Table) (tree : Tree) (v : Survey) → Grows old new → new.texts ≡ old.texts → IsTable new → IsSurvey old tree v → ((ds : List Definition) (xs : List L.Definition) → AreDefinitions old ds xs → AreDefinitions new ds xs) → ((n : Option ℕ) (x : Trees) → Holds old n x → Holds new n x) → IsSurvey new tree v
grown old new tree v grows same table is keeps holds = record {
  table = table;
  prelude_read = keeps v.known.items prelude is.prelude_read;
  text_read = keeps v.definitions.items (defined_in tree) is.text_read;
  names_found = subst (λ (ts : List Text). AreNames (length ts) v.known.items v.definitions.items v.names.items) (sym same) is.names_found;
  names_stand = λ k n u e f. is.names_stand k n u (ap (λ (ts : List Text). slice_get ts k) (sym same) ∙ e) f;
  kinds_found = subst (λ (ts : List Text). AreKinds ts (defined_in tree) v.kinds) (sym same) is.kinds_found;
  starts_found = is.starts_found;
  parameters_found = is.parameters_found;
  sites = is.sites;
  sites_found = is.sites_found;
  words_read = words_kept old new grows v.words.items _ is.words_read;
  live_sites = is.live_sites;
  live_found = is.live_found;
  live_read = words_kept old new grows v.live.items _ is.live_read;
  parts_read = parts_kept old new holds v.parts.items _ is.parts_read;
  entries_read = entry_parts_kept old new holds (rules_of (view tree)) (token_of tree) is.live_sites v.entries.items is.entries_read;
}
