-- The words of the rules whose name has instances stand at the sites that are reached.
use Rattle.std.proofs.Common.{◌≡◌, ℕ, zero, suc, Bool, true, false, if◌then◌else◌, List, [], ◌∷◌, ◌⊎◌, inl, inr, length, map, Option, Some, None, refl, sym, ap, subst, ◌∙◌, slice_get, true≢false}
use Rattle.std.specs.Cmp.Lexicographic.{same_text}
use Rattle.std.proofs.lemmas.Cmp.{nat_list_eq_equiv}
use Rattle.std.proofs.lemmas.Option.{slice_get_within}
use Rattle.cddl_token.specs.declared.Token.{Token}
use Rattle.tree_nodes.specs.Syntax.Syntax as S
use Rattle.tree_nodes.specs.declared.tree.Leaf.{Leaf}
use Rattle.cddl_language.specs.Environment.{is_same}
use Rattle.cddl_language.specs.Faults.{Specification, definitions, rules}
use Rattle.cddl_language.specs.Reading.{definitions_in, name_in, parameters_in}
use Rattle.cddl_language.specs.Sites.{IsInstance, IsReached, Site}
use Rattle.cddl_language.specs.StandsFor.{AreInstances}
use Rattle.cddl_language.specs.Terms as L
use Rattle.cddl_language.specs.Terms.{Ref, Term, Text, arguments_of, name_of}
use Rattle.check_terms.specs.Definitions.{AreDefinitions, further_definition, AreTexts}
use Rattle.check_terms.specs.Table.{IsTable, Table}
use Rattle.check_terms.specs.Trees.{ref_tree}
use Rattle.check_terms.specs.declared.definition.Definition.{Definition}
use Rattle.check_terms.specs.Fill.Templates.{AreTrees}
use Rattle.check_names.specs.Environment.Places.{no_places}
use Rattle.check_instances.specs.declared.found.Instance.{Instance}
use Rattle.check_instances.specs.Found.{AreFound}
use Rattle.cddl_language.specs.Live.Live.{IsClear, IsLive}
use Rattle.check_live.specs.Live.{AreLive}
use Rattle.check_sites.specs.declared.sites.site.Found.{Found}
use Rattle.check_sites.specs.Sites.View.{view_found, view_site}
use Rattle.check_reading.specs.Words.{AreWords, HasWord, IsWordOf, Said, said_at}
use Rattle.check_reading.specs.declared.words.word.Word.{Word}
use Rattle.std.specs.List.{Contains}
use Rattle.check_reached.specs.Calls.{called_in, calls_named, has_any, has_calls, refs_named, with_calls}
use Rattle.check_reached.specs.Reached.{AreReachedWords, IsReachedWord}
use Rattle.check_reached.specs.Asked.{AreReady, IsReady}
use Rattle.check_reached.proofs.Listing.{listed}
use Rattle.check_reached.proofs.Lists.{IsIn, at_place, contains, is_in}
use Rattle.check_reached.proofs.Named.{named_trees}

-- Rules and their definitions by numbers.

pub record IsRuleAt (t : Table) (r : S.Rule) (d : Option Definition) : Type 0 where
  pub definition : Definition
  pub there : d ≡ Some definition
  pub named : slice_get t.texts definition.name ≡ Some (name_in r)
  pub parameters : AreTexts t.texts definition.parameters.items (parameters_in r)

pub rule_at : (t : Table) (rs : List S.Rule) (ds : List Definition) (k : ℕ) (r : S.Rule) → AreDefinitions t ds (definitions_in rs) → slice_get rs k ≡ Some r → IsRuleAt t r (slice_get ds k)
rule_at t [] ds k r h e = cc
rule_at t (x ∷ rs) [] k r h e = elim h [ ]
rule_at t (x ∷ rs) (d ∷ ds) zero r (further_definition h hs) e =
    let same : x ≡ r = cc in
    subst (λ y. IsRuleAt t y (Some d)) same (record { definition = d; there = refl; named = h.name; parameters = h.parameters })
rule_at t (x ∷ rs) (d ∷ ds) (suc k) r (further_definition h hs) e = rule_at t rs ds k r hs e

pub no_rule_at : (t : Table) (rs : List S.Rule) (ds : List Definition) (k : ℕ) → AreDefinitions t ds (definitions_in rs) → slice_get rs k ≡ None → slice_get ds k ≡ None
no_rule_at t [] [] k h e = refl
no_rule_at t [] (d ∷ ds) k h e = elim h [ ]
no_rule_at t (x ∷ rs) [] k h e = elim h [ ]
no_rule_at t (x ∷ rs) (d ∷ ds) zero h e = cc
no_rule_at t (x ∷ rs) (d ∷ ds) (suc k) (further_definition h hs) e = no_rule_at t rs ds k hs e

-- References to a name.

pub in_named : (n : Text) (refs : List Ref) (r : Ref) → IsIn r (refs_named n refs) → IsIn r refs × (name_of r ≡ n)
in_named n [] r h = absurd h
in_named n (q ∷ refs) r h = by (is_same (name_of q) n) refl h (in_named n refs r)
  where
    by : (b : Bool) → is_same (name_of q) n ≡ b → IsIn r (if b then q ∷ refs_named n refs else refs_named n refs) → (IsIn r (refs_named n refs) → IsIn r refs × (name_of r ≡ n)) → ((r ≡ q) ⊎ IsIn r refs) × (name_of r ≡ n)
    by true e (inl same) so = (inl same, ap name_of same ∙ same_text (name_of q) n (sym e))
    by true e (inr k) so = let w = so k in (inr w.0, w.1)
    by false e k so = let w = so k in (inr w.0, w.1)

pub is_named : (n : Text) (refs : List Ref) (r : Ref) → IsIn r refs → name_of r ≡ n → IsIn r (refs_named n refs)
is_named n [] r h e = absurd h
is_named n (q ∷ refs) r (inl same) e = subst (λ b. IsIn r (if b then q ∷ refs_named n refs else refs_named n refs)) (sym (subst (λ m. is_same m n ≡ true) (sym (ap name_of (sym same) ∙ e)) (nat_list_eq_equiv.refl n))) (inl same)
is_named n (q ∷ refs) r (inr h) e = by (is_same (name_of q) n) (is_named n refs r h e)
  where
    by : (b : Bool) → IsIn r (refs_named n refs) → IsIn r (if b then q ∷ refs_named n refs else refs_named n refs)
    by true k = inr k
    by false k = k

-- a list with rows has a reference, and the other way round

first_ref : (t : Table) (ns : List ℕ) (refs : List Ref) → AreTrees t ns (map ref_tree refs) → has_any (Some ns) ≡ true → (r : Ref) × IsIn r refs
first_ref t [] refs h e = absurd (true≢false (sym e))
first_ref t (n ∷ ns) [] h e = elim h [ ]
first_ref t (n ∷ ns) (r ∷ refs) h e = (r, inl refl)

first_row : (t : Table) (ns : List ℕ) (refs : List Ref) (r : Ref) → AreTrees t ns (map ref_tree refs) → IsIn r refs → has_any (Some ns) ≡ true
first_row t ns [] r h k = absurd k
first_row t [] (q ∷ refs) r h k = elim h [ ]
first_row t (n ∷ ns) (q ∷ refs) r h k = refl

in_called : (ls : List (List ℕ)) (ds : List Definition) (fs : List Word) (f : Word) → IsIn f (called_in ls ds fs) → IsIn f fs × (has_calls ls (slice_get ds f.rule) ≡ true)
in_called ls ds [] f h = absurd h
in_called ls ds (g ∷ fs) f h = by (has_calls ls (slice_get ds g.rule)) refl h (in_called ls ds fs f)
  where
    by : (b : Bool) → has_calls ls (slice_get ds g.rule) ≡ b → IsIn f (if b then g ∷ called_in ls ds fs else called_in ls ds fs) → (IsIn f (called_in ls ds fs) → IsIn f fs × (has_calls ls (slice_get ds f.rule) ≡ true)) → ((f ≡ g) ⊎ IsIn f fs) × (has_calls ls (slice_get ds f.rule) ≡ true)
    by true e (inl same) so = (inl same, ap (λ (x : Word). has_calls ls (slice_get ds x.rule)) same ∙ e)
    by true e (inr k) so = let w = so k in (inr w.0, w.1)
    by false e k so = let w = so k in (inr w.0, w.1)

is_called : (ls : List (List ℕ)) (ds : List Definition) (fs : List Word) (f : Word) → IsIn f fs → has_calls ls (slice_get ds f.rule) ≡ true → IsIn f (called_in ls ds fs)
is_called ls ds [] f h e = absurd h
is_called ls ds (g ∷ fs) f (inl same) e = subst (λ b. IsIn f (if b then g ∷ called_in ls ds fs else called_in ls ds fs)) (sym (ap (λ (x : Word). has_calls ls (slice_get ds x.rule)) (sym same) ∙ e)) (inl same)
is_called ls ds (g ∷ fs) f (inr h) e = by (has_calls ls (slice_get ds g.rule)) (is_called ls ds fs f h e)
  where
    by : (b : Bool) → IsIn f (called_in ls ds fs) → IsIn f (if b then g ∷ called_in ls ds fs else called_in ls ds fs)
    by true k = inr k
    by false k = k

-- What the lists of calls say, of the definitions of these rules.
module _ (t : Table) (is : IsTable t) (rs : List S.Rule) (ds : List Definition) (defined : AreDefinitions t ds (definitions_in rs)) (xs : List L.Definition) (found : List Instance) (refs : List Ref) (are : AreFound xs t found refs) (ls : List (List ℕ)) (calls : ls ≡ with_calls t.rows found (no_places (length t.texts))) where
  ready_at : (k : ℕ) (r : S.Rule) → slice_get rs k ≡ Some r → IsReady t refs ls (slice_get ds k) r
  ready_at k r e =
      let w = rule_at t rs ds k r defined e in
      record {
        definition = w.definition;
        calls = calls_named t.rows w.definition.name found;
        there = w.there;
        parameters = w.parameters;
        listed = ap (λ (ms : List (List ℕ)). slice_get ms w.definition.name) calls ∙ listed t.rows found (length t.texts) w.definition.name (slice_get_within t.texts w.definition.name (name_in r) w.named);
        trees = named_trees t is w.definition.name (name_in r) w.named xs found refs are;
      }

  pub are_ready : AreReady t rs refs ls ds
  are_ready = record { some = ready_at; none = λ k e. no_rule_at t rs ds k defined e }

  -- the name of a rule has an instance exactly where a reference is to it

  called_ref : (k : ℕ) (r : S.Rule) → slice_get rs k ≡ Some r → has_calls ls (slice_get ds k) ≡ true → (i : Ref) × IsIn i (refs_named (name_in r) refs)
  called_ref k r e h =
      let w = ready_at k r e in
      first_ref t w.calls (refs_named (name_in r) refs) w.trees (sym (ap (has_calls ls) w.there ∙ ap has_any w.listed) ∙ h)

  ref_called : (k : ℕ) (r : S.Rule) (i : Ref) → slice_get rs k ≡ Some r → IsIn i (refs_named (name_in r) refs) → has_calls ls (slice_get ds k) ≡ true
  ref_called k r i e h =
      let w = ready_at k r e in
      ap (has_calls ls) w.there ∙ ap has_any w.listed ∙ first_row t w.calls (refs_named (name_in r) refs) i w.trees h

-- The laws of words, and of sites that are reached.

abbrev pub WordsStand : Type 0
WordsStand = (t : Table) (read : Leaf → Token) (fs : List Found) (ws : List Word) → AreWords t ws (map (view_found read) fs) → (w : Word) → Contains ws w → (f : Found) × (Contains fs f × IsWordOf t w (view_found read f))

abbrev pub AllWords : Type 0
AllWords = (t : Table) (read : Leaf → Token) (fs : List Found) (ws : List Word) → AreWords t ws (map (view_found read) fs) → (f : Found) (x : Said) → Contains fs f → said_at (view_site read f.site) ≡ Some x → HasWord t ws f.rule x

pub record Laws : Type 0 where
  pub live : (rs : List S.Rule) (root : Text) (r : S.Rule) (xs : List Term) (p : Site) → IsReached rs root r xs p → IsLive rs r p
  pub instance : (rs : List S.Rule) (root : Text) (r : S.Rule) (xs : List Term) (p : Site) → IsReached rs root r xs p → (i : Ref) × (IsInstance rs root r i × (xs ≡ arguments_of i))
  pub reached : (s : Specification) (root : Text) → IsClear s → (r : S.Rule) (i : Ref) (p : Site) → IsInstance (rules s) root r i → IsLive (rules s) r p → IsReached (rules s) root r (arguments_of i) p

module _ (laws : Laws) (s : Specification) (root : Text) (clear : IsClear s) (refs : List Ref) (are : AreInstances (definitions s) root refs) where
  -- a reference to the name of a rule is an instance of the rule
  pub instance_of : (k : ℕ) (r : S.Rule) (i : Ref) → slice_get (rules s) k ≡ Some r → IsIn i (refs_named (name_in r) refs) → IsInstance (rules s) root r i
  instance_of k r i e h =
      let w = in_named (name_in r) refs i h in
      record { reached = are.only i (contains refs i w.0); named = w.1; present = contains (rules s) r (at_place (rules s) k r e) }

  pub ref_of_instance : (r : S.Rule) (i : Ref) → IsInstance (rules s) root r i → IsIn i (refs_named (name_in r) refs)
  ref_of_instance r i h = is_named (name_in r) refs i (is_in refs i (are.all i h.reached)) h.named

  module _ (t : Table) (is : IsTable t) (ds : List Definition) (defined : AreDefinitions t ds (definitions s)) (found : List Instance) (are_found : AreFound (definitions s) t found refs) (ls : List (List ℕ)) (calls : ls ≡ with_calls t.rows found (no_places (length t.texts))) (read : Leaf → Token) (live : List Found) (are_live : AreLive (rules s) read live) (stand : WordsStand) (every : AllWords) (ws : List Word) (are_words : AreWords t ws (map (view_found read) live)) where
    sound : (w : Word) → IsIn w (called_in ls ds ws) → IsReachedWord (rules s) root t w
    sound w h =
        let c = in_called ls ds ws w h in
        let f = stand t read live ws are_words w (contains ws w c.0) in
        let it = are_live.sound f.0 f.1.0 in
        let place = subst (λ k. slice_get (rules s) k ≡ Some it.0) (sym f.1.1.rule) it.1.0 in
        let i = called_ref t is (rules s) ds defined (definitions s) found refs are_found ls calls w.rule it.0 place c.1 in
        record {
          rule = it.0;
          arguments = arguments_of i.0;
          site = view_site read f.0.site;
          place = place;
          reached = laws.reached s root clear it.0 i.0 (view_site read f.0.site) (instance_of w.rule it.0 i.0 place i.1) it.1.1;
          stands = record { rule = refl; said = f.1.1.said; there = f.1.1.there; is = f.1.1.is };
        }

    complete : (k : ℕ) (r : S.Rule) (xs : List Term) (p : Site) (x : Said) → slice_get (rules s) k ≡ Some r → IsReached (rules s) root r xs p → said_at p ≡ Some x → HasWord t (called_in ls ds ws) k x
    complete k r xs p x e h says =
        let f = are_live.complete k r p e (laws.live (rules s) root r xs p h) in
        let w = every t read live ws are_words f.0 x f.1.0 (ap said_at f.1.1.1 ∙ says) in
        let i = laws.instance (rules s) root r xs p h in
        let c = ref_called t is (rules s) ds defined (definitions s) found refs are_found ls calls k r i.0 e (ref_of_instance r i.0 i.1.0) in
        let rule = w.rule ∙ f.1.1.0 in
        record { word = w.word; present = contains (called_in ls ds ws) w.word (is_called ls ds ws w.word (is_in ws w.word w.present) (ap (λ j. has_calls ls (slice_get ds j)) rule ∙ c)); rule = rule; is = w.is }

    pub are_reached : AreReachedWords (rules s) root t (called_in ls ds ws)
    are_reached = record { sound = λ w h. sound w (is_in (called_in ls ds ws) w h); complete = complete }
