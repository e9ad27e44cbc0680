-- Where no group stands in the place of a type, or a type in that of a group, each `&name` names a group wherever the root leads.
use Rattle.std.proofs.Common.{◌≡◌, Bool, true, false, if◌then◌else◌, List, [], ◌∷◌, ◌++◌, refl, subst, Some}
use Rattle.std.specs.Prelude.{Contains}
use Rattle.std.proofs.lemmas.Bool.{false≢true}
use Rattle.std.proofs.lemmas.List.Elements.{Contains-append_left, Contains-append_right}
use Rattle.lists.proofs.Lemmas.{at_head, later as behind}
use Rattle.cddl_token.specs.declared.Token.{Token}
use Rattle.tree_nodes.specs.Syntax.Syntax as S
use Rattle.cddl_language.specs.Faults.{type_name, Specification, definitions, names_a_group, rules}
use Rattle.cddl_language.specs.Kinds.{is_group, opened, opens_group}
use Rattle.cddl_language.specs.Reach.{Point, Reaches, at_choice, at_chosen_name, at_name, at_opened_choice, at_unwrapping, entries_points, group_points, points, points_in}
use Rattle.cddl_language.specs.Reading.{body_of, definitions_in, entries_of, entry_of, followed, group_of, key_of, operation, ref_of, term_of, term_of1, term_of2, terms_of}
use Rattle.cddl_language.specs.Sites as L
use Rattle.cddl_language.specs.Sites.{Site, a_choice_of_name, a_map, a_choice_of, a_name, an_entry, an_operation, an_unwrapping, is_parameter, ref_name, sites}
use Rattle.cddl_language.specs.Substitution.{group_choices, type_choices}
use Rattle.cddl_language.specs.Terms.{Entries, Group, Ref, Term, Terms, no_terms, term, Text, name_of}
use Rattle.cddl_decided.specs.Bounds.Untold.{ChooseGroups, NamesNoGroupAsType}
use Rattle.cddl_decided.proofs.OfBounds.After.{AllIn, AllInBody, AllInEntries, AllInEntry, AllInGroup, AllInKey, AllInRef, AllInTerms}
use Rattle.cddl_decided.proofs.OfBounds.Led.{AllAt, AllDefinitions, AllInOpened, AllPoints, in_entries_points, in_group_choices, in_group_points, in_meaning, in_opened, in_points, in_reached, in_type_choices, one_alternative, one_point, one_term}

module _ (P : Text → Type 0) where
  -- each name after `&` at these sites is of this sort
  abbrev Each : List Site → Type 0
  Each ps = (t : Token) (f : S.Ref) → Contains ps (a_choice_of_name t f) → P (ref_name f)

  front : (ps qs : List Site) → Each (ps ++ qs) → Each ps
  front ps qs h t f c = h t f (Contains-append_left ps qs (a_choice_of_name t f) c)

  back : (ps qs : List Site) → Each (ps ++ qs) → Each qs
  back ps qs h t f c = h t f (Contains-append_right ps qs (a_choice_of_name t f) c)

  rest : (p : Site) (ps : List Site) → Each (p ∷ ps) → Each ps
  rest p ps h t f c = h t f (behind p ps (a_choice_of_name t f) c)

  in_followed : (ts : Terms) (u : Term) → AllInTerms P ts → AllIn P u → AllInTerms P (followed ts u)
  in_followed no_terms u h k = (k, tt)
  in_followed (term t ts) u h k = (h.0, in_followed ts u h.1 k)

  in_operation : (x y : Term) (o : S.Operator) → AllIn P x → AllIn P y → AllIn P (operation x o y)
  in_operation x y (S.range t) h k = (h, k)
  in_operation x y (S.range_below t) h k = (h, k)
  in_operation x y (S.control t) h k = (h, k)

  mutual
    in_types : (b : Bool) (t : S.Types) → Each (L.in_types true b t) → AllIn P (term_of t)
    in_types b (S.only r) h = in_type1 b r h
    in_types b (S.or t s r) h = (in_types true t (front (L.in_types true true t) (L.in_type1 true true r) h), in_type1 true r (back (L.in_types true true t) (L.in_type1 true true r) h))

    in_type1 : (b : Bool) (r : S.Type1) → Each (L.in_type1 true b r) → AllIn P (term_of1 r)
    in_type1 b (S.one x) h = in_type2 b x h
    in_type1 b (S.operation x o y) h =
        let both = rest (an_operation x o y) (L.in_type2 true true x ++ L.in_type2 true true y) h in
        in_operation (term_of2 x) (term_of2 y) o (in_type2 true x (front (L.in_type2 true true x) (L.in_type2 true true y) both)) (in_type2 true y (back (L.in_type2 true true x) (L.in_type2 true true y) both))

    in_type2 : (b : Bool) (x : S.Type2) → Each (L.in_type2 true b x) → AllIn P (term_of2 x)
    in_type2 b (S.literal v) h = tt
    in_type2 b (S.typename r) h = in_ref r (rest (a_name b r) (L.in_ref true r) h)
    in_type2 b (S.parens o t c) h = in_types b t h
    in_type2 b (S.map_of o g c) h = in_group g (rest (a_map o g) (L.in_group true g) h)
    in_type2 b (S.array_of o g c) h = in_group g h
    in_type2 b (S.unwrapped u r) h = in_ref r (rest (an_unwrapping b u r) (L.in_ref true r) h)
    in_type2 b (S.choice_of a o g c) h = in_group g (rest (a_choice_of a g) (L.in_group true g) h)
    in_type2 b (S.choice_of_name a r) h = (h a r (at_head (a_choice_of_name a r) (L.in_ref true r)), in_ref r (rest (a_choice_of_name a r) (L.in_ref true r) h))
    in_type2 b (S.tagged o t c) h = in_types true t h
    in_type2 b (S.tagged_by o u a p t c) h = (in_types true u (front (L.in_types true true u) (L.in_types true true t) h), in_types true t (back (L.in_types true true u) (L.in_types true true t) h))
    in_type2 b (S.simple_by o u c) h = in_types true u h
    in_type2 b (S.hash t) h = tt

    in_ref : (r : S.Ref) → Each (L.in_ref true r) → AllInRef P (ref_of r)
    in_ref (S.name t) h = tt
    in_ref (S.applied o a c) h = in_arg a h

    in_arg : (a : S.GenericArg) → Each (L.in_arguments true a) → AllInTerms P (terms_of a)
    in_arg (S.argument r) h = (in_type1 true r h, tt)
    in_arg (S.arguments a c r) h = in_followed (terms_of a) (term_of1 r) (in_arg a (front (L.in_arguments true a) (L.in_type1 true true r) h)) (in_type1 true r (back (L.in_arguments true a) (L.in_type1 true true r) h))

    in_group : (g : S.Group) → Each (L.in_group true g) → AllInGroup P (group_of g)
    in_group (S.sole es) h = in_entries es h
    in_group (S.orelse g s es) h = (in_group g (front (L.in_group true g) (L.in_entries true es) h), in_entries es (back (L.in_group true g) (L.in_entries true es) h))

    in_entries : (es : S.GrpChoice) → Each (L.in_entries true es) → AllInEntries P (entries_of es)
    in_entries S.no_entries h = tt
    in_entries (S.entries es e c) h = (in_entries es (front (L.in_entries true es) (L.in_entry true e) h), in_entry e (back (L.in_entries true es) (L.in_entry true e) h))

    in_entry : (e : S.GrpEnt) → Each (L.in_entry true e) → AllInEntry P (entry_of e)
    in_entry (S.typed o t) h = in_types false t (rest (an_entry (S.typed o t)) (L.in_types true false t) h)
    in_entry (S.keyed o k t) h =
        let both = rest (an_entry (S.keyed o k t)) (L.in_key true k ++ L.in_types true true t) h in
        (in_key k (front (L.in_key true k) (L.in_types true true t) both), in_types true t (back (L.in_key true k) (L.in_types true true t) both))
    in_entry (S.grouped o p g c) h = in_group g (rest (an_entry (S.grouped o p g c)) (L.in_group true g) h)

    in_key : (k : S.MemberKey) → Each (L.in_key true k) → AllInKey P (key_of k)
    in_key (S.type_key r u a) h = in_type1 true r h
    in_key (S.bareword n c) h = tt
    in_key (S.value_key v c) h = tt

  in_rule : (r : S.Rule) → Each (sites r) → AllInBody P (body_of r)
  in_rule (S.type_rule n a t) h = in_types (L.demands_type true a) t h
  in_rule (S.group_rule n a e) h = in_entry e h

  in_rules : (rs : List S.Rule) → ((r : S.Rule) → Contains rs r → Each (sites r)) → AllDefinitions P (definitions_in rs)
  in_rules [] h = tt
  in_rules (r ∷ rs) h = (in_rule r (h r (at_head r rs)), in_rules rs (λ q c. h q (behind r rs q c)))

module _ (s : Specification) (none : NamesNoGroupAsType s) where
  abbrev pub NamesGroup : Text → Type 0
  NamesGroup n = is_group (definitions s) n ≡ true

  of_group : (b c : Bool) → (if b then false else c) ≡ true → c ≡ true
  of_group true c e = absurd (false≢true e)
  of_group false c e = e

  at_sites : (r : S.Rule) → Contains (rules s) r → (t : Token) (f : S.Ref) → Contains (sites r) (a_choice_of_name t f) → NamesGroup (ref_name f)
  at_sites r i t f c = by (names_a_group s r f) refl
    where
      by : (b : Bool) → names_a_group s r f ≡ b → NamesGroup (ref_name f)
      by true e = of_group (is_parameter r (ref_name f)) (is_group (definitions s) (ref_name f)) e
      by false e = absurd (none (L.ref_token f).start (type_name (record { rule = i; site = c }) e refl))

  pub rule_names_groups : (r : S.Rule) → Contains (rules s) r → AllInBody NamesGroup (body_of r)
  rule_names_groups r i = in_rule NamesGroup r (at_sites r i)

  all_name_groups : AllDefinitions NamesGroup (definitions s)
  all_name_groups = in_rules NamesGroup (rules s) at_sites

  module _ (root : Text) (r : Ref) (here : Reaches (definitions s) root r) where
    pub of_reached : AllInRef NamesGroup r
    of_reached = in_reached NamesGroup (definitions s) root r all_name_groups here

    pub types_choose : (t : Term) → Contains (type_choices (definitions s) r) t → AllPoints NamesGroup (points t)
    types_choose t c = in_points NamesGroup t (one_term NamesGroup (type_choices (definitions s) r) t (in_type_choices NamesGroup (definitions s) r all_name_groups of_reached) c)

    pub group_chooses : (es : Entries) → Contains (group_choices (definitions s) r) es → AllPoints NamesGroup (entries_points es)
    group_chooses es c = in_entries_points NamesGroup es (one_alternative NamesGroup (group_choices (definitions s) r) es (in_group_choices NamesGroup (definitions s) r all_name_groups of_reached) c)

    pub opened_chooses : (g : Group) → opened (definitions s) r ≡ Some (opens_group g) → AllPoints NamesGroup (group_points g)
    opened_chooses g e = in_group_points NamesGroup g (subst (AllInOpened NamesGroup) e (in_opened NamesGroup (definitions s) r all_name_groups of_reached))

    pub meaning_chooses : AllPoints NamesGroup (points_in (definitions s) r)
    meaning_chooses = in_meaning NamesGroup (definitions s) r all_name_groups of_reached

  -- a point is a choice from a group's name, or none by a name
  abbrev pub IsOfGroup : Point → Type 0
  IsOfGroup p = (r : Ref) → p ≡ at_choice r → is_group (definitions s) (name_of r) ≡ true

  is_of_group : (p : Point) → AllAt NamesGroup p → IsOfGroup p
  is_of_group (at_choice q) h r e = subst (λ x. is_group (definitions s) (name_of x) ≡ true) same h.0
    where
      same : q ≡ r
      same = cc
  is_of_group (at_name q) h r e = cc
  is_of_group (at_unwrapping q) h r e = cc
  is_of_group (at_chosen_name q) h r e = cc
  is_of_group (at_opened_choice q) h r e = cc

  pub points_choose : (ps : List Point) → AllPoints NamesGroup ps → (p : Point) → Contains ps p → IsOfGroup p
  points_choose ps h p c = is_of_group p (one_point NamesGroup ps p h c)

  pub chosen_from : (root : Text) (r : Ref) → Reaches (definitions s) root r → ChooseGroups (definitions s) (points_in (definitions s) r)
  chosen_from root r here q c = points_choose (points_in (definitions s) r) (meaning_chooses root r here) (at_choice q) c q refl
