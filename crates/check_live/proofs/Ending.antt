-- What the search ends with are the live sites.
use Rattle.std.proofs.Common.{◌≡◌, ℕ, ◌+◌, ◌≤◌, Bool, false, List, [], ◌∷◌, ◌++◌, length, map, Some, slice_get, subst}
use Rattle.std.specs.List.{Contains}
use Rattle.cddl_token.specs.declared.Token.{Token}
use Rattle.tree_nodes.specs.Syntax.Syntax as S
use Rattle.tree_nodes.specs.declared.tree.Leaf.{Leaf}
use Rattle.tree_nodes.specs.declared.tree.Tree.{Tree}
use Rattle.tree_nodes.specs.View.{token_of, view}
use Rattle.cddl_language.specs.Reading.{definitions_in, rules_of}
use Rattle.cddl_language.specs.Sites.{Site, outer_sites}
use Rattle.check_terms.specs.Definitions.{AreDefinitions}
use Rattle.check_terms.specs.Table.{IsTable, Table}
use Rattle.check_terms.specs.declared.definition.Definition.{Definition}
use Rattle.check_sites.specs.declared.sites.site.Found.{Found}
use Rattle.check_sites.specs.Sites.Listed.{StandsIn, WasFound}
use Rattle.check_sites.specs.Sites.View.{outside, view_found}
use Rattle.check_sites.specs.Sites.Walk.{all_outer_sites}
use Rattle.graphs.specs.declared.implications.Implication.{Implication}
use Rattle.graphs.specs.Implications.Implications.{AreFollowing}
use Rattle.check_live.specs.declared.facts.Fact.{Fact}
use Rattle.check_live.specs.Facts.{IsPrepared}
use Rattle.check_live.specs.Live.{AreLive}
use Rattle.check_live.specs.Search.{IsSearch, State, live_in, of_rules, standing_at}
use Rattle.check_live.proofs.Living.{are_live}
use Rattle.check_live.proofs.Searching.{begins}

-- the laws of sites outside of arguments
pub record Laws : Type 0 where
  pub outer : (fs : List Found) (f : Found) → Contains (outside fs) f → Contains fs f × (f.in_argument ≡ false)
  pub found : (read : Leaf → Token) (rs : List S.Rule) (fs : List Found) → map (view_found read) (outside fs) ≡ all_outer_sites rs → (f : Found) → Contains fs f → f.in_argument ≡ false → StandsIn outer_sites read rs f
  pub every : (read : Leaf → Token) (rs : List S.Rule) (fs : List Found) → map (view_found read) (outside fs) ≡ all_outer_sites rs → (k : ℕ) (r : S.Rule) (p : Site) → slice_get rs k ≡ Some r → Contains (outer_sites r) p → WasFound read (outside fs) k p

module _ (t : Table) (tree : Tree) (ds : List Definition) (fs : List Found) (laws : Laws) (few : length t.texts ≤ 4294967296) (table : IsTable t) (defined : AreDefinitions t ds (definitions_in (rules_of (view tree)))) (outer : map (view_found (token_of tree)) (outside fs) ≡ all_outer_sites (rules_of (view tree))) (keys : List Fact) (before : List Implication) where
  search_begins : (count : ℕ) (a : State) → count ≡ length keys → IsPrepared ds (length ds) 0 keys before → a.implications ≡ before ++ of_rules count (length before) ∷ [] → a.standing ≡ standing_at (count + length before) (outside fs) → IsSearch keys (token_of tree) t.texts (rules_of (view tree)) ds 0 a
  search_begins count a same_count prepared implied stand =
      begins keys (token_of tree) t.texts (rules_of (view tree)) ds fs before a
      prepared
      (subst (λ n. a.implications ≡ before ++ of_rules n (length before) ∷ []) same_count implied)
      (subst (λ n. a.standing ≡ standing_at (n + length before) (outside fs)) same_count stand)
      (λ f c. let o = laws.outer fs f c in laws.found (token_of tree) (rules_of (view tree)) fs outer f o.0 o.1)
      (laws.every (token_of tree) (rules_of (view tree)) fs outer)

  pub ends : (count number : ℕ) (a b : State) (is_there : List Implication) (flags : List Bool) → count ≡ length keys → IsPrepared ds (length ds) 0 keys before → a.implications ≡ before ++ of_rules count (length before) ∷ [] → a.standing ≡ standing_at (count + length before) (outside fs) → ((rs : List S.Rule) (xs : List Definition) → IsSearch keys (token_of tree) t.texts rs xs 0 a → IsSearch keys (token_of tree) t.texts rs xs (length b.standing) b) → number ≡ length b.implications → is_there ≡ b.implications → AreFollowing (count + number) is_there flags → AreLive (rules_of (view tree)) (token_of tree) (live_in flags b.standing)
  ends count number a b is_there flags same_count prepared implied stand run same_number same_there follow =
      are_live t keys (token_of tree) (rules_of (view tree)) ds b table.texts few defined prepared.distinct
      prepared.uses
      (run (rules_of (view tree)) ds (search_begins count a same_count prepared implied stand))
      flags
      (subst (λ n. AreFollowing (n + length b.implications) b.implications flags) same_count (subst (λ n. AreFollowing (count + n) b.implications flags) same_number (subst (λ xs. AreFollowing (count + number) xs flags) same_there follow)))
