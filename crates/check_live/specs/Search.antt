-- The search for contexts: the sites of rules outside of arguments, and of each argument that some rule may use.
use Rattle.std.specs.Prelude.{◌≡◌, ◌≢◌, ℕ, ◌+◌, ◌<◌, ◌⊎◌, Bool, true, false, if◌then◌else◌, List, [], ◌∷◌, ◌++◌, map, length, Contains, Some, None, slice_get, slice_index_or}
use Rattle.cddl_token.specs.declared.Token.{Token}
use Rattle.tree_nodes.specs.Syntax.Syntax as S
use Rattle.tree_nodes.specs.declared.tree.Leaf.{Leaf}
use Rattle.tree_nodes.specs.declared.tree.Ref.{Ref}
use Rattle.tree_nodes.specs.View.{view_ref}
use Rattle.cddl_language.specs.Sites.{Site, arguments, in_type1, outer_sites, ref_at_site, ref_name}
use Rattle.cddl_language.specs.Terms.{Text}
use Rattle.check_terms.specs.declared.definition.Definition.{Definition}
use Rattle.check_sites.specs.declared.sites.site.Found.{Found}
use Rattle.check_sites.specs.Sites.View.{view_found, view_site}
use Rattle.check_sites.specs.Sites.Walk.{placed}
use Rattle.graphs.specs.declared.implications.Implication.{Implication}
use Rattle.check_live.specs.declared.facts.Fact.{Fact}
use Rattle.check_live.specs.declared.search.Search.{Search}
use Rattle.check_live.specs.declared.search.Standing.{Standing}
use Rattle.check_live.specs.Facts.{HasParameter, OfParameter, slot_of, use_of}

pub record State : Type 0 where
  pub implications : List Implication
  pub standing : List Standing

abbrev pub state : Search → State
state s = record { implications = s.implications.items; standing = s.standing.items }

-- the sites stand in the context
abbrev pub standing_at : ℕ → List Found → List Standing
standing_at c [] = []
standing_at c (f ∷ fs) = record { found = f; context = c } ∷ standing_at c fs

-- what was found of contexts that follow
abbrev pub live_in : List Bool → List Standing → List Found
live_in flags [] = []
live_in flags (e ∷ es) = if slice_index_or flags e.context false then e.found ∷ live_in flags es else live_in flags es

abbrev pub seen : (Leaf → Token) → Standing → Site
seen read e = view_site read e.found.site

-- what stands has stayed, at the same places
pub record Stays (old new : State) : Type 0 where
  pub implications : (j : ℕ) (i : Implication) → slice_get old.implications j ≡ Some i → slice_get new.implications j ≡ Some i
  pub standing : (m : ℕ) (e : Standing) → slice_get old.standing m ≡ Some e → slice_get new.standing m ≡ Some e

-- A context has the number that follows those of facts, by the place of its implication.
module _ (count : ℕ) where
  -- the context of rules
  abbrev pub of_rules : ℕ → Implication
  of_rules place = record { then = count + place; first = None; second = None }

  -- that of an argument: from the context where its reference stands, and its slot
  abbrev pub of_argument : ℕ → ℕ → ℕ → Implication
  of_argument place parent slot = record { then = count + place; first = Some parent; second = Some slot }

  -- the context of this argument has been added, with its sites
  pub record AddsArgument (read : Leaf → Token) (q : Standing) (slot : ℕ) (x : S.Type1) (old new : State) : Type 0 where
    pub sites : List Found
    pub found : map (view_found read) sites ≡ placed q.found.rule (in_type1 false true x)
    pub implied : new.implications ≡ old.implications ++ of_argument (length old.implications) q.context slot ∷ []
    pub stand : new.standing ≡ old.standing ++ standing_at (count + length old.implications) sites

-- a use follows from a context
abbrev pub of_use : ℕ → ℕ → Implication
of_use used context = record { then = used; first = Some context; second = None }

module _ (keys : List Fact) (read : Leaf → Token) where
  -- a site that stands in the context of an argument: of the reference f, of the name n, at the site q
  pub record IsWithin (q : Standing) (f : S.Ref) (n : ℕ) (is : List Implication) (e : Standing) : Type 0 where
    pub at : ℕ
    pub slot : ℕ
    pub place : ℕ
    pub argument : S.Type1
    pub there : slice_get is at ≡ Some (of_argument (length keys) at q.context slot)
    pub context : e.context ≡ length keys + at
    pub rule : e.found.rule ≡ q.found.rule
    pub given : slice_get (arguments f) place ≡ Some argument
    pub slot_there : slice_get keys slot ≡ Some (slot_of n place)
    pub contained : Contains (in_type1 false true argument) (seen read e)

  -- a site of the context
  pub record HasSite (st : State) (rule context : ℕ) (p : Site) : Type 0 where
    pub place : ℕ
    pub site : Standing
    pub there : slice_get st.standing place ≡ Some site
    pub rule_same : site.found.rule ≡ rule
    pub context_same : site.context ≡ context
    pub same : seen read site ≡ p

  -- the argument at the place has its context, and the context its sites
  pub record HasArgument (q : Standing) (n place : ℕ) (x : S.Type1) (st : State) : Type 0 where
    pub at : ℕ
    pub slot : ℕ
    pub slot_there : slice_get keys slot ≡ Some (slot_of n place)
    pub there : slice_get st.implications at ≡ Some (of_argument (length keys) at q.context slot)
    pub each : (p : Site) → Contains (in_type1 false true x) p → HasSite st q.found.rule (length keys + at) p

  -- the contexts of the arguments before the place have been added, of those that have a slot
  pub record AddsArguments (q : Standing) (f : S.Ref) (n most : ℕ) (old new : State) : Type 0 where
    pub stays : Stays old new
    pub sites : (m : ℕ) (e : Standing) → slice_get new.standing m ≡ Some e → (slice_get old.standing m ≡ Some e) ⊎ IsWithin q f n new.implications e
    pub steps : (j : ℕ) (i : Implication) → slice_get new.implications j ≡ Some i → (slice_get old.implications j ≡ Some i) ⊎ (i.then ≡ length keys + j)
    pub complete : (k s : ℕ) (x : S.Type1) → k < most → slice_get (arguments f) k ≡ Some x → slice_get keys s ≡ Some (slot_of n k) → HasArgument q n k x new

  module _ (texts : List Text) where
    -- What a site brings: its reference to a parameter is a use; that to another name brings the contexts of its arguments.
    pub data Brings (q : Standing) (old new : State) : Type 0 where
      no_reference : ref_at_site (seen read q) ≡ None → new ≡ old → Brings q old new
      no_number : (f : S.Ref) → ref_at_site (seen read q) ≡ Some f → ((k : ℕ) → k < 4294967296 → slice_get texts k ≢ Some (ref_name f)) → new ≡ old → Brings q old new
      a_use : (f : S.Ref) (n used : ℕ) → ref_at_site (seen read q) ≡ Some f → slice_get texts n ≡ Some (ref_name f) → slice_get keys used ≡ Some (use_of q.found.rule n) → new.implications ≡ old.implications ++ of_use used q.context ∷ [] → new.standing ≡ old.standing → Brings q old new
      some_arguments : (f : S.Ref) (n : ℕ) → ref_at_site (seen read q) ≡ Some f → slice_get texts n ≡ Some (ref_name f) → ((u : ℕ) → slice_get keys u ≢ Some (use_of q.found.rule n)) → AddsArguments q f n (length (arguments f)) old new → Brings q old new

    -- a site of a rule outside of arguments, or one of an argument
    pub data IsFrom (rs : List S.Rule) (st : State) (e : Standing) : Type 0 where
      of_rule : (r : S.Rule) → slice_get rs e.found.rule ≡ Some r → Contains (outer_sites r) (seen read e) → IsFrom rs st e
      within : (m : ℕ) (q : Standing) (f : S.Ref) (n : ℕ) → slice_get st.standing m ≡ Some q → ref_at_site (seen read q) ≡ Some f → slice_get texts n ≡ Some (ref_name f) → ((u : ℕ) → slice_get keys u ≢ Some (use_of q.found.rule n)) → IsWithin q f n st.implications e → IsFrom rs st e

    -- the implication of a parameter, of a context, or of a use
    pub data IsStep (ds : List Definition) (st : State) (j : ℕ) (i : Implication) : Type 0 where
      parameter : OfParameter ds keys i → IsStep ds st j i
      context : i.then ≡ length keys + j → IsStep ds st j i
      used_at : (m : ℕ) (q : Standing) (f : S.Ref) (n : ℕ) → slice_get st.standing m ≡ Some q → ref_at_site (seen read q) ≡ Some f → slice_get texts n ≡ Some (ref_name f) → slice_get keys i.then ≡ Some (use_of q.found.rule n) → i.first ≡ Some q.context → IsStep ds st j i

    -- what the site brings is there
    pub data IsServed (st : State) (q : Standing) : Type 0 where
      without_reference : ref_at_site (seen read q) ≡ None → IsServed st q
      without_number : (f : S.Ref) → ref_at_site (seen read q) ≡ Some f → ((k : ℕ) → k < 4294967296 → slice_get texts k ≢ Some (ref_name f)) → IsServed st q
      with_use : (f : S.Ref) (n used j : ℕ) → ref_at_site (seen read q) ≡ Some f → slice_get texts n ≡ Some (ref_name f) → slice_get keys used ≡ Some (use_of q.found.rule n) → slice_get st.implications j ≡ Some (of_use used q.context) → IsServed st q
      with_arguments : (f : S.Ref) (n : ℕ) → ref_at_site (seen read q) ≡ Some f → slice_get texts n ≡ Some (ref_name f) → ((u : ℕ) → slice_get keys u ≢ Some (use_of q.found.rule n)) → ((k s : ℕ) (x : S.Type1) → slice_get (arguments f) k ≡ Some x → slice_get keys s ≡ Some (slot_of n k) → HasArgument q n k x st) → IsServed st q

    -- The search where the sites before the place are served.
    pub record IsSearch (rs : List S.Rule) (ds : List Definition) (done : ℕ) (st : State) : Type 0 where
      pub root : ℕ
      pub root_there : slice_get st.implications root ≡ Some (of_rules (length keys) root)
      pub rules : (k : ℕ) (r : S.Rule) (p : Site) → slice_get rs k ≡ Some r → Contains (outer_sites r) p → HasSite st k (length keys + root) p
      pub parameters : (r k : ℕ) (d : Definition) (p : ℕ) → slice_get ds r ≡ Some d → slice_get d.parameters.items k ≡ Some p → HasParameter ds keys st.implications r k
      pub placed_in : (m : ℕ) (e : Standing) → slice_get st.standing m ≡ Some e → (r : S.Rule) × (slice_get rs e.found.rule ≡ Some r)
      pub sites : (m : ℕ) (e : Standing) → slice_get st.standing m ≡ Some e → IsFrom rs st e
      pub steps : (j : ℕ) (i : Implication) → slice_get st.implications j ≡ Some i → IsStep ds st j i
      pub served : (m : ℕ) (q : Standing) → m < done → slice_get st.standing m ≡ Some q → IsServed st q

-- what the name of this number brings at a site: a use where it is a parameter, else the contexts of its arguments
pub data BringsName (keys : List Fact) (q : Standing) (old new : State) (name : Ref) (n : ℕ) : Type 0 where
  a_parameter : (used : ℕ) → slice_get keys used ≡ Some (use_of q.found.rule n) → new.implications ≡ old.implications ++ of_use used q.context ∷ [] → new.standing ≡ old.standing → BringsName keys q old new name n
  no_parameter : ((u : ℕ) → slice_get keys u ≢ Some (use_of q.found.rule n)) → ((read : Leaf → Token) → AddsArguments keys read q (view_ref read name) n (length (arguments (view_ref read name))) old new) → BringsName keys q old new name n
