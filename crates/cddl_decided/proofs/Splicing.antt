-- What stands in a map by the text is spliced into the closed group of a map that is reached.
use Rattle.std.proofs.Common.{◌≡◌, ℕ, zero, suc, Bool, true, false, if◌then◌else◌, List, [], ◌∷◌, ◌++◌, ◌⊎◌, inl, inr, map, Option, Some, None, refl, sym, ap, ◌∙◌, subst}
use Rattle.std.specs.Prelude.{Contains, flat_map}
use Rattle.lists.proofs.Lemmas.{IsIn, from_contains, from_flat, in_cases, in_left, in_right, no_some, none_in, same_some, to_contains, to_flat}
use Rattle.cddl_token.specs.declared.Token.{Token}
use Rattle.tree_nodes.specs.Syntax.Syntax as S
use Rattle.cddl_language.specs.Environment.{definitions_of, is_group_socket, is_in, most_names}
use Rattle.cddl_language.specs.Kinds.{Opened, Part, asks_type, names_group, opened, opened_body, opened_by, opened_in, opened_term, opens, opens_group, part_of}
use Rattle.cddl_language.specs.MapFaults as F
use Rattle.cddl_language.specs.MapFaults.{IsBare, IsSpliced, IsSplicedInto, StandsAt, all_entries, choice_entries, closed_entry, group_between, group_entries, group_in, group_of_part, point_in, point_of_part, rule_entries}
use Rattle.cddl_language.specs.Reach.{Point, at_name, at_unwrapping}
use Rattle.cddl_language.specs.Reading.{body_of, definition_of, definitions_in, entries_of, entry_of, group_of, name_in, parameters_in, rule_name, term_of, term_of2}
use Rattle.cddl_language.specs.Sites.{IsReached, a_map}
use Rattle.cddl_language.specs.Substitution.{bodies, body_alternatives, fill_body, fill_entries, fill_entry, fill_group, fill_ref, group_choices}
use Rattle.cddl_language.specs.Terms.{Body, Definition, Entries, Entry, typed, keyed, grouped, Group, Ref, call, Term, Text, alternatives, arguments_of, entry_list, name_of, of_types, stripped, term_list, named}
use Rattle.cddl_decided.proofs.Parts.{opened_group}

mapped : {A B : Type 0} (f : A → B) (xs : List A) (x : A) → IsIn x xs → IsIn (f x) (map f xs)
mapped f [] x i = absurd i
mapped f (y ∷ xs) x (inl e) = inl (ap f e)
mapped f (y ∷ xs) x (inr i) = inr (mapped f xs x i)

-- Entries of a text's group are entries of the closed group.

all_more : (xs ys : List Entries) (e : Entry) → IsIn e (all_entries xs) → IsIn e (all_entries (xs ++ ys))
all_more xs ys e i = let w = from_flat entry_list xs e i in to_flat entry_list (xs ++ ys) w.0 e (in_left xs ys w.0 w.1) w.2

all_last : (xs : List Entries) (es : Entries) (e : Entry) → IsIn e (entry_list es) → IsIn e (all_entries (xs ++ es ∷ []))
all_last xs es e i = to_flat entry_list (xs ++ es ∷ []) es e (in_right xs (es ∷ []) es (inl refl)) i

module _ (ps : List Text) (xs : List Term) where
  in_choice : (es : S.GrpChoice) (e : S.GrpEnt) → IsIn e (choice_entries es) → IsIn (fill_entry ps xs (entry_of e)) (entry_list (fill_entries ps xs (entries_of es)))
  in_choice S.no_entries e i = absurd i
  in_choice (S.entries es d c) e i = by (in_choice es e) (in_cases (choice_entries es) (d ∷ []) e i)
    where
      by : (IsIn e (choice_entries es) → IsIn (fill_entry ps xs (entry_of e)) (entry_list (fill_entries ps xs (entries_of es)))) → IsIn e (choice_entries es) ⊎ IsIn e (d ∷ []) → IsIn (fill_entry ps xs (entry_of e)) (entry_list (fill_entries ps xs (entries_of es)) ++ fill_entry ps xs (entry_of d) ∷ [])
      by again (inl j) = in_left (entry_list (fill_entries ps xs (entries_of es))) (fill_entry ps xs (entry_of d) ∷ []) (fill_entry ps xs (entry_of e)) (again j)
      by again (inr (inl f)) = in_right (entry_list (fill_entries ps xs (entries_of es))) (fill_entry ps xs (entry_of d) ∷ []) (fill_entry ps xs (entry_of e)) (inl (ap (λ x. fill_entry ps xs (entry_of x)) f))
      by again (inr (inr j)) = absurd j

  in_a_group : (g : S.Group) (e : S.GrpEnt) → IsIn e (group_entries g) → IsIn (fill_entry ps xs (entry_of e)) (all_entries (alternatives (fill_group ps xs (group_of g))))
  in_a_group (S.sole es) e i = all_last [] (fill_entries ps xs (entries_of es)) (fill_entry ps xs (entry_of e)) (in_choice es e i)
  in_a_group (S.orelse g s es) e i = by (in_a_group g e) (in_cases (group_entries g) (choice_entries es) e i)
    where
      by : (IsIn e (group_entries g) → IsIn (fill_entry ps xs (entry_of e)) (all_entries (alternatives (fill_group ps xs (group_of g))))) → IsIn e (group_entries g) ⊎ IsIn e (choice_entries es) → IsIn (fill_entry ps xs (entry_of e)) (all_entries (alternatives (fill_group ps xs (group_of g)) ++ fill_entries ps xs (entries_of es) ∷ []))
      by again (inl j) = all_more (alternatives (fill_group ps xs (group_of g))) (fill_entries ps xs (entries_of es) ∷ []) (fill_entry ps xs (entry_of e)) (again j)
      by again (inr j) = all_last (alternatives (fill_group ps xs (group_of g))) (fill_entries ps xs (entries_of es)) (fill_entry ps xs (entry_of e)) (in_choice es e j)

one_entry : (ps : List Text) (xs : List Term) (d e : S.GrpEnt) → IsIn e (d ∷ []) → IsIn (fill_entry ps xs (entry_of e)) (fill_entry ps xs (entry_of d) ∷ [])
one_entry ps xs d e (inl f) = inl (ap (λ x. fill_entry ps xs (entry_of x)) f)
one_entry ps xs d e (inr j) = absurd j

-- of the group that a rule's body is
in_body : (s : S.Rule) (xs : List Term) (e : S.GrpEnt) → IsIn e (rule_entries s) → IsIn (closed_entry s xs e) (all_entries (body_alternatives (fill_body (parameters_in s) xs (body_of s))))
in_body (S.type_rule n a t) xs e i = one_entry (parameters_in (S.type_rule n a t)) xs (S.typed None t) e i
in_body (S.group_rule n a (S.typed o t)) xs e i = one_entry (parameters_in (S.group_rule n a (S.typed o t))) xs (S.typed o t) e i
in_body (S.group_rule n a (S.keyed o k t)) xs e i = one_entry (parameters_in (S.group_rule n a (S.keyed o k t))) xs (S.keyed o k t) e i
in_body (S.group_rule n a (S.grouped None p g c)) xs e i = in_a_group (parameters_in (S.group_rule n a (S.grouped None p g c))) xs g e i
in_body (S.group_rule n a (S.grouped (Some o) p g c)) xs e i = one_entry (parameters_in (S.group_rule n a (S.grouped (Some o) p g c))) xs (S.grouped (Some o) p g c) e i

-- what is spliced into a group of what is spliced in is spliced in
deeper : (ds : List Definition) {d e : Entry} {ess fss : List Entries} → IsSplicedInto ds d ess → group_in ds d ≡ Some fss → IsSplicedInto ds e fss → IsSplicedInto ds e ess
deeper ds (F.its_own c) h i = F.further c h i
deeper ds (F.further c k s) h i = F.further c k (deeper ds s h i)

module _ (ds : List Definition) where
  -- an entry that leads to a name has its group
  part_names : (p : Part) (f : Ref) → point_of_part ds p ≡ Some (at_name f) → group_of_part ds p ≡ Some (group_choices ds f)
  part_names asks_type f e = absurd (no_some e)
  part_names (names_group r) f e = ap (λ (x : Ref). Some (group_choices ds x)) same
    where
      same : r ≡ f
      same = cc
  part_names (opens r g) f e = absurd (cc)

  names : (d : Entry) (f : Ref) → point_in ds d ≡ Some (at_name f) → group_in ds d ≡ Some (group_choices ds f)
  names (typed o t) f e = part_names (part_of ds t) f e
  names (keyed o k t) f e = absurd (no_some e)
  names (grouped o g) f e = absurd (no_some e)

  -- one that leads to what `~` opens has what is opened
  record HasOpened (d : Entry) (f : Ref) : Type 0 where
    group : Group
    has : group_in ds d ≡ Some (alternatives group)
    is : opened ds f ≡ Some (opens_group group)

  part_opens : (t : Term) (p : Part) (f : Ref) → part_of ds t ≡ p → point_of_part ds p ≡ Some (at_unwrapping f) → (g : Group) × (group_of_part ds p ≡ Some (alternatives g)) × (opened ds f ≡ Some (opens_group g))
  part_opens t asks_type f h e = absurd (no_some e)
  part_opens t (names_group r) f h e = absurd (cc)
  part_opens t (opens r g) f h e = (g, refl, subst (λ (x : Ref). opened ds x ≡ Some (opens_group g)) same (opened_group ds t r g h))
    where
      same : r ≡ f
      same = cc

  opens_so : (d : Entry) (f : Ref) → point_in ds d ≡ Some (at_unwrapping f) → HasOpened d f
  opens_so (typed o t) f e = let w = part_opens t (part_of ds t) f refl e in record { group = w.0; has = w.1; is = w.2 }
  opens_so (keyed o k t) f e = absurd (no_some e)
  opens_so (grouped o g) f e = absurd (no_some e)

-- a type that is a map or an array in parentheses has its group
record IsOfGroup (t : Term) (g : Group) : Type 0 where
  gives : (next : Ref → Option Opened) (ps : List Text) (xs : List Term) → opened_term next ps xs (stripped t) ≡ Some (opens_group (fill_group ps xs g))

bare : (x : S.Type2) (g : S.Group) {t : S.Types} → IsBare x t → group_between x ≡ Some g → IsOfGroup (term_of t) (group_of g)
bare (S.map_of o h c) g F.itself e = record { gives = λ next ps xs. ap (λ (y : S.Group). Some (opens_group (fill_group ps xs (group_of y)))) (same_some e) }
bare (S.array_of o h c) g F.itself e = record { gives = λ next ps xs. ap (λ (y : S.Group). Some (opens_group (fill_group ps xs (group_of y)))) (same_some e) }
bare x g (F.in_parens b) e = record { gives = (bare x g b e).gives }
bare _ g F.itself e = absurd (no_some e)

abbrev pub AreDefined : List S.Rule → Type 0
AreDefined rs = (r : S.Rule) → Contains rs r → Contains (definitions_of (definitions_in rs) (name_in r)) (definition_of r)

module _ (rs : List S.Rule) (defined : AreDefined rs) where
  abbrev ds : List Definition
  ds = definitions_in rs

  -- of the group that a name is
  in_name : (s : S.Rule) (f : Ref) (e : S.GrpEnt) → Contains rs s → name_in s ≡ name_of f → IsIn e (rule_entries s) → IsIn (closed_entry s (arguments_of f) e) (all_entries (group_choices ds f))
  in_name s (call n ts) e here same i =
      let d = subst (λ m. Contains (definitions_of ds m) (definition_of s)) same (defined s here) in
      let b = mapped (λ (x : Definition). fill_body x.parameters (term_list ts) x.body) (definitions_of ds n) (definition_of s) (from_contains (definitions_of ds n) (definition_of s) d) in
      let w = from_flat entry_list (body_alternatives (fill_body (parameters_in s) (term_list ts) (body_of s))) (closed_entry s (term_list ts) e) (in_body s (term_list ts) e i) in
      to_flat entry_list (group_choices ds (call n ts)) w.0 (closed_entry s (term_list ts) e) (to_flat body_alternatives (bodies ds (call n ts)) (fill_body (parameters_in s) (term_list ts) (body_of s)) w.0 b w.1) w.2

  abbrev IsOpenedAs : Ref → Group → ℕ → Type 0
  IsOpenedAs f g k = opened_in k ds f ≡ Some (opens_group g)

  -- the text's group that a way of `~` ends at is what is opened
  stands : {f : Ref} {s : S.Rule} {ys : List Term} {g : S.Group} → StandsAt rs f s ys g → (k : ℕ) (h : Group) → IsOpenedAs f h k → fill_group (parameters_in s) ys (group_of g) ≡ h
  stands st zero h e = absurd (no_some e)
  stands {f = call n ts} (F.at_once {n = m} {a = a} {t = t} {x = x} {g = g} here same b between) (suc k) h e = by (is_group_socket n) (definitions_of ds n) refl e
    where
      rule : S.Rule
      rule = S.type_rule m a t

      among : IsIn (definition_of rule) (definitions_of ds n)
      among = from_contains (definitions_of ds n) (definition_of rule) (subst (λ z. Contains (definitions_of ds z) (definition_of rule)) same (defined rule here))

      found : opened_term (λ r. opened_in k ds r) (parameters_in rule) (term_list ts) (stripped (term_of t)) ≡ Some (opens_group h) → fill_group (parameters_in rule) (term_list ts) (group_of g) ≡ h
      found i = group_same (sym ((bare x g b between).gives (λ r. opened_in k ds r) (parameters_in rule) (term_list ts)) ∙ i)
        where
          group_same : Some (opens_group (fill_group (parameters_in rule) (term_list ts) (group_of g))) ≡ Some (opens_group h) → fill_group (parameters_in rule) (term_list ts) (group_of g) ≡ h
          group_same j = cc

      of_one : (d : Definition) → IsIn (definition_of rule) (d ∷ []) → opened_by (λ r. opened_in k ds r) (term_list ts) (d ∷ []) ≡ Some (opens_group h) → fill_group (parameters_in rule) (term_list ts) (group_of g) ≡ h
      of_one d (inl i) j = found (subst (λ (z : Definition). opened_by (λ r. opened_in k ds r) (term_list ts) (z ∷ []) ≡ Some (opens_group h)) (sym i) j)
      of_one d (inr i) j = absurd i

      by : (b : Bool) (es : List Definition) → definitions_of ds n ≡ es → (if b then None else opened_by (λ r. opened_in k ds r) (term_list ts) es) ≡ Some (opens_group h) → fill_group (parameters_in rule) (term_list ts) (group_of g) ≡ h
      by true es i j = absurd (no_some j)
      by false [] i j = absurd (no_some j)
      by false (d ∷ []) i j = of_one d (subst (IsIn (definition_of rule)) i among) j
      by false (d ∷ c ∷ es) i j = absurd (no_some j)
  stands {f = call n ts} {s = s} {ys = ys} {g = g} (F.through {h = q} {d = d} {t = t} one body name free st) (suc k) h e = by (is_group_socket n) (λ i. stands {f = fill_ref d.parameters (term_list ts) q} {s = s} {ys = ys} {g = g} st k h i) e
    where
      after : opened_term (λ r. opened_in k ds r) d.parameters (term_list ts) (stripped t) ≡ Some (opens_group h) → IsOpenedAs (fill_ref d.parameters (term_list ts) q) h k
      after i = subst (λ c. (if c then None else opened_in k ds (fill_ref d.parameters (term_list ts) q)) ≡ Some (opens_group h)) free (subst (λ z. opened_term (λ r. opened_in k ds r) d.parameters (term_list ts) z ≡ Some (opens_group h)) name i)

      by : (b : Bool) → (IsOpenedAs (fill_ref d.parameters (term_list ts) q) h k → fill_group (parameters_in s) ys (group_of g) ≡ h) → (if b then None else opened_by (λ r. opened_in k ds r) (term_list ts) (definitions_of ds n)) ≡ Some (opens_group h) → fill_group (parameters_in s) ys (group_of g) ≡ h
      by true next i = absurd (no_some i)
      by false next i = next (after (of_body (subst (λ es. opened_by (λ r. opened_in k ds r) (term_list ts) es ≡ Some (opens_group h)) one i)))
        where
          of_body : opened_by (λ r. opened_in k ds r) (term_list ts) (d ∷ []) ≡ Some (opens_group h) → opened_term (λ r. opened_in k ds r) d.parameters (term_list ts) (stripped t) ≡ Some (opens_group h)
          of_body j = subst (λ c. opened_body (λ r. opened_in k ds r) d.parameters (term_list ts) c ≡ Some (opens_group h)) body j

  module _ (root : Text) where
    -- the closed group of a map that is reached has the entry
    record IsInMap (e : Entry) : Type 0 where
      rule : S.Rule
      arguments : List Term
      token : Token
      group : S.Group
      reached : IsReached rs root rule arguments (a_map token group)
      into : IsSplicedInto ds e (alternatives (fill_group (parameters_in rule) arguments (group_of group)))

    moved : {d e : Entry} {fss : List Entries} → IsInMap d → group_in ds d ≡ Some fss → IsIn e (all_entries fss) → IsInMap e
    moved {e = e} {fss = fss} w has i = record { rule = w.rule; arguments = w.arguments; token = w.token; group = w.group; reached = w.reached; into = deeper ds w.into has (F.its_own (to_contains (all_entries fss) e i)) }

    in_map : {r : S.Rule} {xs : List Term} {q : Option Point} {e : S.GrpEnt} → IsSpliced rs root r xs q e → IsInMap (closed_entry r xs e)
    in_map {r} {xs} (F.of_map {t = t} {g = g} {e = e} reached c) = record {
      rule = r;
      arguments = xs;
      token = t;
      group = g;
      reached = reached;
      into = F.its_own (to_contains (all_entries (alternatives (fill_group (parameters_in r) xs (group_of g)))) (closed_entry r xs e) (in_a_group (parameters_in r) xs g e (from_contains (group_entries g) e c)));
    }
    in_map {r} {xs} (F.of_parens {q = q} {o = o} {p = p} {c = k} {g = g} {e = e} s c) = moved (in_map {r = r} {xs = xs} {q = q} {e = S.grouped o p g k} s) refl (in_a_group (parameters_in r) xs g e (from_contains (group_entries g) e c))
    in_map (F.of_name {r = r} {s = v} {xs = xs} {q = q} {d = d} {e = e} {f = f} s p here same c) = moved (in_map {r = r} {xs = xs} {q = q} {e = d} s) (names ds (closed_entry r xs d) f p) (in_name v f e here same (from_contains (rule_entries v) e c))
    in_map (F.of_opened {r = r} {s = v} {xs = xs} {ys = ys} {q = q} {d = d} {e = e} {f = f} {g = g} s p st c) =
        let w = opens_so ds (closed_entry r xs d) f p in
        moved (in_map {r = r} {xs = xs} {q = q} {e = d} s) w.has (subst (λ h. IsIn (closed_entry v ys e) (all_entries (alternatives h))) (stands st (most_names ds) w.group w.is) (in_a_group (parameters_in v) ys g e (from_contains (group_entries g) e c)))

    -- as a law says it
    pub spliced : (r : S.Rule) (xs : List Term) (q : Option Point) (e : S.GrpEnt) → IsSpliced rs root r xs q e → (m : S.Rule) × (ys : List Term) × (t : Token) × (g : S.Group) × IsReached rs root m ys (a_map t g) × IsSplicedInto ds (closed_entry r xs e) (alternatives (fill_group (parameters_in m) ys (group_of g)))
    spliced r xs q e s = let w = in_map s in (w.rule, w.arguments, w.token, w.group, w.reached, w.into)
