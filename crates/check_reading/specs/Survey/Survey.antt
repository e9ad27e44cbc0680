-- What a survey says of a specification.
use Rattle.std.specs.Prelude.{◌≡◌, ℕ, List, flat_map, length, map, Some, slice_get}
use Rattle.cddl_token.specs.declared.Token.{Token}
use Rattle.cddl_language.specs.Terms as L
use Rattle.cddl_language.specs.Terms.{Text}
use Rattle.cddl_language.specs.Prelude.{prelude}
use Rattle.cddl_language.specs.Reading.{definitions_in, name_at, parameter_tokens, rule_head, rules_of}
use Rattle.tree_nodes.specs.Syntax.Syntax as S
use Rattle.tree_nodes.specs.declared.tree.Tree.{Tree}
use Rattle.tree_nodes.specs.View.{token_of, view}
use Rattle.check_terms.specs.Definitions.{AreDefinitions}
use Rattle.check_terms.specs.Table.{IsTable, Table}
use Rattle.check_names.specs.declared.environment.environment.Name.{Name}
use Rattle.check_names.specs.Environment.Environment.{IsStanding}
use Rattle.check_names.specs.Environment.Names.{AreNames, standing}
use Rattle.check_names.specs.Environment.Places.{lists}
use Rattle.check_names.specs.Kinds.Kinds.{AreKinds}
use Rattle.check_sites.specs.Sites.View.{view_found}
use Rattle.check_sites.specs.Sites.Walk.{all_sites}
use Rattle.check_sites.specs.declared.sites.site.Found.{Found}
use Rattle.check_live.specs.Live.{AreLive}
use Rattle.check_reading.specs.Parts.{AreEntryParts, AreParts, of_found}
use Rattle.check_reading.specs.Words.{AreWords}
use Rattle.check_reading.specs.declared.survey.survey.Survey.{Survey}

-- the definitions of a tree
abbrev pub defined_in : Tree → List L.Definition
defined_in tree = definitions_in (rules_of (view tree))

abbrev pub token_at : Token → ℕ
token_at t = t.start

-- the offsets of a rule's parameters
abbrev pub parameters_at : S.Rule → List ℕ
parameters_at r = map token_at (parameter_tokens (rule_head r))

-- the survey is of this tree, by the numbers of this table
pub record IsSurvey (t : Table) (tree : Tree) (s : Survey) : Type 0 where
  pub table : IsTable t
  pub prelude_read : AreDefinitions t s.known.items prelude
  pub text_read : AreDefinitions t s.definitions.items (defined_in tree)
  pub names_found : AreNames (length t.texts) s.known.items s.definitions.items s.names.items
  pub names_stand : (k : ℕ) (n : Text) (v : Name) → slice_get t.texts k ≡ Some n → slice_get s.names.items k ≡ Some v → IsStanding (defined_in tree) n (standing v)
  pub kinds_found : AreKinds t.texts (defined_in tree) s.kinds
  pub starts_found : s.starts.items ≡ map name_at (rules_of (view tree))
  pub parameters_found : lists s.parameters.items ≡ map parameters_at (rules_of (view tree))
  pub sites : List Found
  pub sites_found : map (view_found (token_of tree)) sites ≡ all_sites (rules_of (view tree))
  pub words_read : AreWords t s.words.items (map (view_found (token_of tree)) sites)
  pub live_sites : List Found
  pub live_found : AreLive (rules_of (view tree)) (token_of tree) live_sites
  pub live_read : AreWords t s.live.items (map (view_found (token_of tree)) live_sites)
  pub parts_read : AreParts t s.parts.items (flat_map (of_found (token_of tree)) live_sites)
  pub entries_read : AreEntryParts t (rules_of (view tree)) (token_of tree) live_sites s.entries.items
