-- What is spliced into a map by a reference stands in the group of that reference.
use Rattle.std.proofs.Common.{◌≡◌, ◌⊎◌, inl, inr, ℕ, zero, suc, List, [], ◌∷◌, ◌++◌, Option, Some, None, refl, sym, ap, subst, ◌∙◌, slice_get}
use Rattle.std.specs.Prelude.{Contains, map, flat_map}
use Rattle.lists.proofs.Lemmas.{IsIn, from_contains, from_get, in_cases, in_left, in_right, same_some, to_contains}
use Rattle.cddl_token.specs.declared.Token.{Token}
use Rattle.tree_nodes.specs.Syntax.Syntax as S
use Rattle.cddl_language.specs.Environment.{definitions_of, most_names}
use Rattle.cddl_language.specs.Kinds.{Opened, opens_group, opened, opened_in, opened_term}
use Rattle.cddl_language.specs.MapFaults as M
use Rattle.cddl_language.specs.MapFaults.{IsBare, itself, in_parens, IsSpliced, of_map, of_parens, of_name, of_opened, IsSplicedInto, its_own, StandsAt, choice_entries, closed_entry, all_entries, group_between, group_entries, point_in, rule_entries}
use Rattle.cddl_language.specs.Reach.{Point, at_name, at_unwrapping}
use Rattle.cddl_language.specs.Reading as R
use Rattle.cddl_language.specs.Reading.{body_of, definition_of, definitions_in, entry_of, group_of, name_in, parameters_in, rule_name, term_of, term_of2}
use Rattle.cddl_language.specs.Substitution.{body_alternatives, fill_body, fill_entries, fill_entry, fill_group, group_choices}
use Rattle.cddl_language.specs.Terms.{Text, Term, Ref, call, Group, Entries, Entry, Body, Definition, alternatives, arguments_of, entry_list, lone, name_of, stripped, term_list}
use Rattle.check_terms.specs.Table.{Table}
use Rattle.check_maps.specs.declared.spliced.listing.Spliced.{Spliced}
use Rattle.check_maps.specs.Spliced.Spliced.{AreSpliced, IsOwner, a_name, an_opening, IsSplicedEntry}
use Rattle.check_maps.proofs.OfMapCycles.Back.{More, StandsInside}
use Rattle.check_maps.proofs.OfMapCycles.Owners.{HasGroup, has_named, has_opened, none_is_some, one_group, opened_one, opened_through, opened_types, point_group}
use Rattle.check_maps.proofs.OfMapCycles.Rows.{deeper}
use Rattle.check_maps.proofs.Entries.{in_choices, in_last_choice, to_one}

-- The entries of a group of the text are those of the closed group.
module _ (ps : List Text) (ts : List Term) where
  in_entries : (es : S.GrpChoice) (e : S.GrpEnt) → IsIn e (choice_entries es) → IsIn (fill_entry ps ts (entry_of e)) (entry_list (fill_entries ps ts (R.entries_of es)))
  in_entries S.no_entries e h = absurd h
  in_entries (S.entries es d c) e h = by (in_cases (choice_entries es) (d ∷ []) e h) (in_entries es e)
    where
      before : List Entry
      before = entry_list (fill_entries ps ts (R.entries_of es))

      by : IsIn e (choice_entries es) ⊎ IsIn e (d ∷ []) → (IsIn e (choice_entries es) → IsIn (fill_entry ps ts (entry_of e)) before) → IsIn (fill_entry ps ts (entry_of e)) (before ++ fill_entry ps ts (entry_of d) ∷ [])
      by (inl g) f = in_left before (fill_entry ps ts (entry_of d) ∷ []) (fill_entry ps ts (entry_of e)) (f g)
      by (inr (inl g)) f = in_right before (fill_entry ps ts (entry_of d) ∷ []) (fill_entry ps ts (entry_of e)) (inl (ap (λ z. fill_entry ps ts (entry_of z)) g))
      by (inr (inr g)) f = absurd g

  in_group : (g : S.Group) (e : S.GrpEnt) → IsIn e (group_entries g) → Contains (all_entries (alternatives (fill_group ps ts (group_of g)))) (fill_entry ps ts (entry_of e))
  in_group (S.sole es) e h = to_one (fill_entries ps ts (R.entries_of es)) (fill_entry ps ts (entry_of e)) (in_entries es e h)
  in_group (S.orelse g s es) e h = by (in_cases (group_entries g) (choice_entries es) e h) (in_group g e)
    where
      first : List Entries
      first = alternatives (fill_group ps ts (group_of g))

      last : Entries
      last = fill_entries ps ts (R.entries_of es)

      by : IsIn e (group_entries g) ⊎ IsIn e (choice_entries es) → (IsIn e (group_entries g) → Contains (all_entries first) (fill_entry ps ts (entry_of e))) → Contains (all_entries (first ++ last ∷ [])) (fill_entry ps ts (entry_of e))
      by (inl i) f = in_choices first last (fill_entry ps ts (entry_of e)) (f i)
      by (inr i) f = in_last_choice first last (fill_entry ps ts (entry_of e)) (to_one last (fill_entry ps ts (entry_of e)) (in_entries es e i))

-- the closed entries of a group
pub group_has : (r : S.Rule) (ts : List Term) (g : S.Group) (e : S.GrpEnt) → Contains (group_entries g) e → Contains (all_entries (alternatives (fill_group (parameters_in r) ts (group_of g)))) (closed_entry r ts e)
group_has r ts g e c = in_group (parameters_in r) ts g e (from_contains (group_entries g) e c)

-- The entries of a rule are those of what it says as a group.

lone_has : (r : S.Rule) (ts : List Term) (d e : S.GrpEnt) → IsIn e (d ∷ []) → Contains (all_entries (lone (closed_entry r ts d) ∷ [])) (closed_entry r ts e)
lone_has r ts d e (inl h) = to_one (lone (closed_entry r ts d)) (closed_entry r ts e) (inl (ap (closed_entry r ts) h))
lone_has r ts d e (inr h) = absurd h

body_has : (r : S.Rule) (ts : List Term) (e : S.GrpEnt) → Contains (rule_entries r) e → Contains (all_entries (body_alternatives (fill_body (parameters_in r) ts (body_of r)))) (closed_entry r ts e)
body_has (S.type_rule n a t) ts e c = lone_has (S.type_rule n a t) ts (S.typed None t) e (from_contains (rule_entries (S.type_rule n a t)) e c)
body_has (S.group_rule n a (S.typed o t)) ts e c = lone_has (S.group_rule n a (S.typed o t)) ts (S.typed o t) e (from_contains (rule_entries (S.group_rule n a (S.typed o t))) e c)
body_has (S.group_rule n a (S.keyed o k t)) ts e c = lone_has (S.group_rule n a (S.keyed o k t)) ts (S.keyed o k t) e (from_contains (rule_entries (S.group_rule n a (S.keyed o k t))) e c)
body_has (S.group_rule n a (S.grouped None p g z)) ts e c = group_has (S.group_rule n a (S.grouped None p g z)) ts g e c
body_has (S.group_rule n a (S.grouped (Some o) p g z)) ts e c = lone_has (S.group_rule n a (S.grouped (Some o) p g z)) ts (S.grouped (Some o) p g z) e (from_contains (rule_entries (S.group_rule n a (S.grouped (Some o) p g z))) e c)

in_map : {A B : Type 0} (f : A → B) (xs : List A) (x : A) → IsIn x xs → IsIn (f x) (map f xs)
in_map f [] x h = absurd h
in_map f (y ∷ xs) x (inl e) = inl (ap f e)
in_map f (y ∷ xs) x (inr h) = inr (in_map f xs x h)

in_apart : (e : Entry) (ess fss : List Entries) → IsIn e (all_entries ess) ⊎ IsIn e (all_entries fss) → IsIn e (all_entries (ess ++ fss))
in_apart e [] fss (inl i) = absurd i
in_apart e [] fss (inr i) = i
in_apart e (es ∷ ess) fss (inl i) = by (in_cases (entry_list es) (all_entries ess) e i) (λ j. in_apart e ess fss (inl j))
  where
    by : IsIn e (entry_list es) ⊎ IsIn e (all_entries ess) → (IsIn e (all_entries ess) → IsIn e (all_entries (ess ++ fss))) → IsIn e (all_entries ((es ∷ ess) ++ fss))
    by (inl j) more = in_left (entry_list es) (all_entries (ess ++ fss)) e j
    by (inr j) more = in_right (entry_list es) (all_entries (ess ++ fss)) e (more j)
in_apart e (es ∷ ess) fss (inr i) = in_right (entry_list es) (all_entries (ess ++ fss)) e (in_apart e ess fss (inr i))

-- an entry of one of these lists of choices is one of all of them
of_flat : {A : Type 0} (f : A → List Entries) (xs : List A) (x : A) (e : Entry) → IsIn x xs → Contains (all_entries (f x)) e → Contains (all_entries (flat_map f xs)) e
of_flat f [] x e h c = absurd h
of_flat f (y ∷ xs) x e h c = to_contains (all_entries (flat_map f (y ∷ xs))) e (by h (λ i. of_flat f xs x e i c))
  where
    by : (x ≡ y) ⊎ IsIn x xs → (IsIn x xs → Contains (all_entries (flat_map f xs)) e) → IsIn e (all_entries (f y ++ flat_map f xs))
    by (inl i) more = in_apart e (f y) (flat_map f xs) (inl (subst (λ z. IsIn e (all_entries (f z))) i (from_contains (all_entries (f x)) e c)))
    by (inr i) more = in_apart e (f y) (flat_map f xs) (inr (from_contains (all_entries (flat_map f xs)) e (more i)))

choices_have : (ds : List Definition) (f : Ref) (d : Definition) (e : Entry) → Contains (definitions_of ds (name_of f)) d → Contains (all_entries (body_alternatives (fill_body d.parameters (arguments_of f) d.body))) e → Contains (all_entries (group_choices ds f)) e
choices_have ds (call n ts) d e c h =
    let fill : Definition → Body = λ x. fill_body x.parameters (term_list ts) x.body in
    of_flat body_alternatives (map fill (definitions_of ds n)) (fill d) e (in_map fill (definitions_of ds n) d (from_contains (definitions_of ds n) d c)) h

-- Where `~` leads.

between_term : (ps : List Text) (ts : List Term) (next : Ref → Option Opened) (x : S.Type2) (g : S.Group) → group_between x ≡ Some g → opened_term next ps ts (term_of2 x) ≡ Some (opens_group (fill_group ps ts (group_of g)))
between_term ps ts next (S.map_of o h c) g e = ap (λ z. Some (opens_group (fill_group ps ts (group_of z)))) (same_some e)
between_term ps ts next (S.array_of o h c) g e = ap (λ z. Some (opens_group (fill_group ps ts (group_of z)))) (same_some e)
between_term ps ts next (S.literal v) g e = none_is_some e
between_term ps ts next (S.typename r) g e = none_is_some e
between_term ps ts next (S.parens o t c) g e = none_is_some e
between_term ps ts next (S.unwrapped u r) g e = none_is_some e
between_term ps ts next (S.choice_of a o h c) g e = none_is_some e
between_term ps ts next (S.choice_of_name a r) g e = none_is_some e
between_term ps ts next (S.tagged o t c) g e = none_is_some e
between_term ps ts next (S.tagged_by o h a p t c) g e = none_is_some e
between_term ps ts next (S.simple_by o h c) g e = none_is_some e
between_term ps ts next (S.hash t) g e = none_is_some e

between_stripped : (x : S.Type2) (g : S.Group) → group_between x ≡ Some g → stripped (term_of2 x) ≡ term_of2 x
between_stripped (S.map_of o h c) g e = refl
between_stripped (S.array_of o h c) g e = refl
between_stripped (S.literal v) g e = none_is_some e
between_stripped (S.typename r) g e = none_is_some e
between_stripped (S.parens o t c) g e = none_is_some e
between_stripped (S.unwrapped u r) g e = none_is_some e
between_stripped (S.choice_of a o h c) g e = none_is_some e
between_stripped (S.choice_of_name a r) g e = none_is_some e
between_stripped (S.tagged o t c) g e = none_is_some e
between_stripped (S.tagged_by o h a p t c) g e = none_is_some e
between_stripped (S.simple_by o h c) g e = none_is_some e
between_stripped (S.hash t) g e = none_is_some e

bare_term : (x : S.Type2) (t : S.Types) → IsBare x t → stripped (term_of t) ≡ stripped (term_of2 x)
bare_term x _ itself = refl
bare_term x _ (in_parens {t = t} b) = bare_term x t b

same_opened : {f g : Opened} {o : Option Opened} → o ≡ Some f → o ≡ Some g → f ≡ g
same_opened e h = cc

only_one : (d c : Definition) → IsIn c (d ∷ []) → d ≡ c
only_one d c (inl e) = sym e
only_one d c (inr h) = absurd h

module _ (rs : List S.Rule) (defined : (r : S.Rule) → Contains rs r → Contains (definitions_of (definitions_in rs) (name_in r)) (definition_of r)) where
  abbrev ds : List Definition
  ds = definitions_in rs

  opened_at : (k : ℕ) (f : Ref) (n : S.RuleName) (a : S.AssignT) (t : S.Types) (x : S.Type2) (g : S.Group) (o : Opened) → Contains rs (S.type_rule n a t) → rule_name n ≡ name_of f → IsBare x t → group_between x ≡ Some g → opened_in (suc k) ds f ≡ Some o → o ≡ opens_group (fill_group (parameters_in (S.type_rule n a t)) (arguments_of f) (group_of g))
  opened_at k f n a t x g o present name bare between e =
      let r = S.type_rule n a t in
      let one = opened_one ds k f o e in
      let in_one : IsIn (definition_of r) (one.0 ∷ []) = from_contains (one.0 ∷ []) (definition_of r) (subst (λ es. Contains es (definition_of r)) one.1 (subst (λ m. Contains (definitions_of ds m) (definition_of r)) name (defined r present))) in
      let same : one.0 ≡ definition_of r = only_one one.0 (definition_of r) in_one in
      let sole : definitions_of ds (name_of f) ≡ definition_of r ∷ [] = one.1 ∙ ap (λ (d : Definition). d ∷ []) same in
      let next : Ref → Option Opened = λ h. opened_in k ds h in
      let types = opened_types ds k f (definition_of r) (term_of t) o sole refl e in
      let strip : stripped (term_of t) ≡ term_of2 x = bare_term x t bare ∙ between_stripped x g between in
      same_opened (sym (ap (opened_term next (parameters_in r) (arguments_of f)) strip) ∙ types) (between_term (parameters_in r) (arguments_of f) next x g between)

  stands_opened : (k : ℕ) (f : Ref) (r : S.Rule) (ys : List Term) (g : S.Group) (o : Opened) → StandsAt rs f r ys g → opened_in k ds f ≡ Some o → o ≡ opens_group (fill_group (parameters_in r) ys (group_of g))
  stands_opened zero f r ys g o s e = none_is_some e
  stands_opened (suc k) f r ys g o (M.at_once {n = n} {a = a} {t = t} {x = x} present name bare between) e = opened_at k f n a t x g o present name bare between e
  stands_opened (suc k) f r ys g o (M.through {h = h} {d = d} {t = t} sole body strip free s) e = stands_opened k _ r ys g o s (opened_through ds k f h d t o sole body strip free e)

  module _ (root : Text) (more : More ds) where
    -- the closed entry stands in the group of its reference
    record InGroup (p : Point) (e : Entry) : Type 0 where
      group : List Entries
      has : HasGroup ds more p group
      into : IsSplicedInto ds e group

    by_name : (s : S.Rule) (f : Ref) (e : S.GrpEnt) → Contains rs s → name_in s ≡ name_of f → Contains (rule_entries s) e → InGroup (at_name f) (closed_entry s (arguments_of f) e)
    by_name s f e present name c = record {
      group = group_choices ds f;
      has = has_named;
      into = its_own (choices_have ds f (definition_of s) (closed_entry s (arguments_of f) e) (subst (λ m. Contains (definitions_of ds m) (definition_of s)) name (defined s present)) (body_has s (arguments_of f) e c));
    }

    opened_group : (f : Ref) (fss : List Entries) → HasGroup ds more (at_unwrapping f) fss → (g : Group) × (opened ds f ≡ Some (opens_group g))
    opened_group f _ (has_opened {g = g} h) = (g, h)

    same_groups : (g h : Group) → opens_group g ≡ opens_group h → g ≡ h
    same_groups g h e = cc

    by_opened : (d : Entry) (s : S.Rule) (ys : List Term) (f : Ref) (g : S.Group) (e : S.GrpEnt) → point_in ds d ≡ Some (at_unwrapping f) → StandsAt rs f s ys g → Contains (group_entries g) e → InGroup (at_unwrapping f) (closed_entry s ys e)
    by_opened d s ys f g e point stands c =
        let j = point_group ds more d (at_unwrapping f) point in
        let o = opened_group f j.0 j.2 in
        let same = same_groups o.0 (fill_group (parameters_in s) ys (group_of g)) (stands_opened (most_names ds) f s ys g (opens_group o.0) stands o.1) in
        record {
          group = alternatives o.0;
          has = has_opened o.1;
          into = its_own (subst (λ z. Contains (all_entries (alternatives z)) (closed_entry s ys e)) (sym same) (group_has s ys g e c));
        }

    deeper_group : (r : S.Rule) (ts : List Term) (p : Point) (o : Option Token) (b z : Token) (g : S.Group) (e : S.GrpEnt) → InGroup p (closed_entry r ts (S.grouped o b g z)) → Contains (group_entries g) e → InGroup p (closed_entry r ts e)
    deeper_group r ts p o b z g e i c = record { group = i.group; has = i.has; into = deeper ds i.into refl (its_own (group_has r ts g e c)) }

    same_point : {p q : Point} {e : Entry} → Some p ≡ Some q → InGroup p e → InGroup q e
    same_point {e = e} h i = subst (λ z. InGroup z e) (same_some h) i

    in_its_group : {r : S.Rule} {ts : List Term} {q : Option Point} {e : S.GrpEnt} → IsSpliced rs root r ts q e → (p : Point) → q ≡ Some p → InGroup p (closed_entry r ts e)
    in_its_group (of_map h c) p i = none_is_some i
    in_its_group (of_parens {r = r} {xs = ts} {o = o} {p = b} {c = z} {g = g} {e = e} s c) p i = deeper_group r ts p o b z g e (in_its_group s p i) c
    in_its_group (of_name {s = s} {e = e} {f = f} h point present name c) p i = same_point i (by_name s f e present name c)
    in_its_group (of_opened {r = r} {s = s} {xs = ts} {ys = ys} {d = d} {e = e} {f = f} {g = g} h point stands c) p i = same_point i (by_opened (closed_entry r ts d) s ys f g e point stands c)

    module _ (t : Table) (refs : List Ref) (spliced : List Spliced) (are : AreSpliced rs root t refs spliced) where
      pub all_stand : (i : ℕ) (x : Spliced) → slice_get spliced i ≡ Some x → StandsInside ds root t refs more x
      all_stand i x at =
          let s = are.sound x (to_contains spliced x (from_get spliced i x at)) in
          record { entry = closed_entry s.rule s.arguments s.entry; row = s.row; inside = λ p fss o h. by s p fss o h s.owner s.owns (s.each s.owner s.owns s.spliced) }
        where
          no_point : {p : Point} (w : _) → IsOwner ds refs w (Some p) → IsOwner ds refs w None → ⊥
          no_point _ (a_name h) i = elim i [ ]
          no_point _ (an_opening h way one free) i = elim i [ ]

          by : (s : IsSplicedEntry rs root t refs x) (p : Point) (fss : List Entries) → IsOwner ds refs x.owner (Some p) → HasGroup ds more p fss → (q : Option Point) → IsOwner ds refs x.owner q → IsSpliced rs root s.rule s.arguments q s.entry → IsSplicedInto ds (closed_entry s.rule s.arguments s.entry) fss
          by s p fss o h None own k = absurd (no_point x.owner o own)
          by s p fss o h (Some q) own k =
              let j = in_its_group k q refl in
              subst (λ ess. IsSplicedInto ds (closed_entry s.rule s.arguments s.entry) ess) (one_group ds more refs x.owner q p j.group fss own o j.has h) j.into
