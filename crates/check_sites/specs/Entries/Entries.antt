-- The entries of a text, by the group in which they stand.
use Rattle.std.specs.Prelude.{◌≡◌, ℕ, ◌+◌, List, [], ◌∷◌, ◌++◌, map, Contains, Option, Some, None, slice_get}
use Rattle.cddl_token.specs.declared.Token.{Token}
use Rattle.tree_nodes.specs.Syntax.Syntax as S
use Rattle.tree_nodes.specs.declared.tree.Leaf.{Leaf}
use Rattle.tree_nodes.specs.View.{view_grpent, view_types}
use Rattle.cddl_language.specs.Sites.{Site, a_map}
use Rattle.check_sites.specs.declared.sites.site.Found.{Found}
use Rattle.check_sites.specs.Sites.View.{view_site}
use Rattle.check_sites.specs.declared.entries.entry.Holder.{Holder}
use Rattle.check_sites.specs.declared.entries.entry.Holder.TheVariants as HolderV
use Rattle.check_sites.specs.declared.entries.entry.Node.{Node}
use Rattle.check_sites.specs.declared.entries.entry.Node.TheVariants as NodeV
use Rattle.check_sites.specs.declared.entries.entry.TextEntry.{TextEntry}

-- The entries of a group, each before those in its parentheses.
abbrev mutual
  pub group_inside : S.Group → List S.GrpEnt
  group_inside (S.sole es) = choice_inside es
  group_inside (S.orelse g s es) = group_inside g ++ choice_inside es

  pub choice_inside : S.GrpChoice → List S.GrpEnt
  choice_inside S.no_entries = []
  choice_inside (S.entries es e c) = choice_inside es ++ entry_inside e

  pub entry_inside : S.GrpEnt → List S.GrpEnt
  entry_inside (S.typed o t) = S.typed o t ∷ []
  entry_inside (S.keyed o k t) = S.keyed o k t ∷ []
  entry_inside (S.grouped o p g c) = S.grouped o p g c ∷ group_inside g

-- those of a rule's body; parentheses round all of it are the group itself

abbrev pub body_inside : S.GrpEnt → List S.GrpEnt
body_inside (S.grouped None p g c) = group_inside g
body_inside (S.grouped (Some o) p g c) = entry_inside (S.grouped (Some o) p g c)
body_inside (S.typed o t) = entry_inside (S.typed o t)
body_inside (S.keyed o k t) = entry_inside (S.keyed o k t)

abbrev pub rule_inside : S.Rule → List S.GrpEnt
rule_inside (S.type_rule n a t) = S.typed None t ∷ []
rule_inside (S.group_rule n a e) = body_inside e

-- The group of the map or the array that a type is, in any number of parentheses.
abbrev mutual
  pub bare_types : S.Types → Option S.Group
  bare_types (S.only x) = bare_type1 x
  bare_types (S.or t s x) = None

  pub bare_type1 : S.Type1 → Option S.Group
  bare_type1 (S.one x) = bare_operand x
  bare_type1 (S.operation x o y) = None

  pub bare_operand : S.Type2 → Option S.Group
  bare_operand (S.parens o t c) = bare_types t
  bare_operand (S.map_of o g c) = Some g
  bare_operand (S.array_of o g c) = Some g
  bare_operand (S.literal v) = None
  bare_operand (S.typename r) = None
  bare_operand (S.unwrapped u r) = None
  bare_operand (S.choice_of a o g c) = None
  bare_operand (S.choice_of_name a r) = None
  bare_operand (S.tagged o t c) = None
  bare_operand (S.tagged_by o h a p t c) = None
  bare_operand (S.simple_by o h c) = None
  bare_operand (S.hash t) = None

-- the group that `~` of the rule's name unwraps
abbrev pub opened_in : S.Rule → Option S.Group
opened_in (S.type_rule n a t) = bare_types t
opened_in (S.group_rule n a e) = None

abbrev pub some_inside : Option S.Group → List S.GrpEnt
some_inside None = []
some_inside (Some g) = group_inside g

abbrev pub opened_inside : S.Rule → List S.GrpEnt
opened_inside r = some_inside (opened_in r)

-- An entry in the rule at a place, in the group of a holder.
pub record Standing : Type 0 where
  pub rule : ℕ
  pub holder : Holder
  pub entry : S.GrpEnt

abbrev pub view_node : (Leaf → Token) → Node → S.GrpEnt
view_node read (NodeV.Entry e) = view_grpent read e.now
view_node read (NodeV.Type t) = S.typed None (view_types read t.now)

abbrev pub view_found : (Leaf → Token) → TextEntry → Standing
view_found read x = record { rule = x.rule; holder = x.holder; entry = view_node read x.node }

abbrev pub standing : ℕ → Holder → List S.GrpEnt → List Standing
standing k h es = map (λ e. record { rule = k; holder = h; entry = e }) es

-- the entries of maps at sites, and those of rules, from the place k on

abbrev pub of_site : ℕ → Site → List Standing
of_site k (a_map u g) = standing k HolderV.Map (group_inside g)
of_site k _ = []

abbrev pub of_sites : (Leaf → Token) → List Found → List Standing
of_sites read [] = []
of_sites read (f ∷ fs) = of_site f.rule (view_site read f.site) ++ of_sites read fs

abbrev pub of_rule : ℕ → S.Rule → List Standing
of_rule k r = standing k HolderV.Rule (rule_inside r) ++ standing k HolderV.Opened (opened_inside r)

abbrev pub of_rules : ℕ → List S.Rule → List Standing
of_rules k [] = []
of_rules k (r ∷ rs) = of_rule k r ++ of_rules (k + 1) rs

-- Where an entry of the text stands: in a map at one of these sites, in a rule's body, or in what `~` of its name unwraps.
module _ (rs : List S.Rule) (read : Leaf → Token) (sites : List Found) where
  pub data Stands : ℕ → Holder → S.GrpEnt → Type 0 where
    in_map : {f : Found} {u : Token} {g : S.Group} {e : S.GrpEnt} → Contains sites f → view_site read f.site ≡ a_map u g → Contains (group_inside g) e → Stands f.rule HolderV.Map e
    in_rule : {k : ℕ} {r : S.Rule} {e : S.GrpEnt} → slice_get rs k ≡ Some r → Contains (rule_inside r) e → Stands k HolderV.Rule e
    in_opened : {k : ℕ} {r : S.Rule} {e : S.GrpEnt} → slice_get rs k ≡ Some r → Contains (opened_inside r) e → Stands k HolderV.Opened e

  pub record WasListed (xs : List TextEntry) (k : ℕ) (h : Holder) (e : S.GrpEnt) : Type 0 where
    pub found : TextEntry
    pub contained : Contains xs found
    pub place : found.rule ≡ k
    pub same_holder : found.holder ≡ h
    pub same : view_node read found.node ≡ e

  -- each stands so, and each that stands so is listed
  pub record AreEntries (xs : List TextEntry) : Type 0 where
    pub sound : (x : TextEntry) → Contains xs x → Stands x.rule x.holder (view_node read x.node)
    pub complete : (k : ℕ) (h : Holder) (e : S.GrpEnt) → Stands k h e → WasListed xs k h e
