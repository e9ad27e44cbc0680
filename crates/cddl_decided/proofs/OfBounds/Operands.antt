-- Each `&name` in an operand of a site that is reached names a group, where all in the text do.
use Rattle.std.proofs.Common.{◌≡◌, ℕ, zero, suc, Bool, true, false, List, [], ◌∷◌, ◌++◌, Some, refl, slice_get, subst, arith}
use Rattle.std.specs.Prelude.{Contains}
use Rattle.lists.proofs.Lemmas.{none_in, same_some_there}
use Rattle.tree_nodes.specs.Syntax.Syntax as S
use Rattle.cddl_language.specs.Faults.{Specification, definitions, rules}
use Rattle.cddl_language.specs.Reach.{Reaches, at_choice, points}
use Rattle.cddl_language.specs.Reading.{body_of, followed, operation, parameters_in, ref_of, term_of, term_of1, term_of2, terms_of, group_of, entries_of, entry_of, key_of}
use Rattle.cddl_language.specs.Sites as L
use Rattle.cddl_language.specs.Sites.{Site, a_choice_of, a_choice_of_name, a_hash, a_map, a_name, an_entry, an_operation, an_unwrapping, argument_list, arguments, IsReached, in_argument, in_body, IsUsed, used, outer_sites, ref_at_site}
use Rattle.cddl_language.specs.Substitution.{fill}
use Rattle.cddl_language.specs.Terms.{Term, Terms, no_terms, term, Ref, call, Text, arguments_of}
use Rattle.cddl_decided.specs.Bounds.Untold.{ChooseGroups, NamesNoGroupAsType}
use Rattle.cddl_decided.proofs.OfBounds.After.{AllIn, AllInBody, AllInEntries, AllInEntry, AllInGroup, AllInKey, AllInRef, AllInTerms, AllTerms, as_list, in_filled}
use Rattle.cddl_decided.proofs.OfBounds.Led.{in_points}
use Rattle.cddl_decided.proofs.OfBounds.Sited.{NamesGroup, of_reached, points_choose, rule_names_groups}

module _ (P : Text → Type 0) where
  -- in the arguments of the reference at a site, and in operands
  abbrev pub AllAtSite : Site → Type 0
  AllAtSite (a_name b f) = AllInRef P (ref_of f)
  AllAtSite (an_unwrapping b t f) = AllInRef P (ref_of f)
  AllAtSite (a_choice_of_name t f) = AllInRef P (ref_of f)
  AllAtSite (an_operation x o y) = AllIn P (term_of2 x) × AllIn P (term_of2 y)
  AllAtSite (a_choice_of t g) = Unit {0}
  AllAtSite (a_hash t) = Unit {0}
  AllAtSite (an_entry e) = Unit {0}
  AllAtSite (a_map t g) = Unit {0}

  abbrev AllSites : List Site → Type 0
  AllSites [] = Unit {0}
  AllSites (p ∷ ps) = AllAtSite p × AllSites ps

  joined : (ps qs : List Site) → AllSites ps → AllSites qs → AllSites (ps ++ qs)
  joined [] qs h k = k
  joined (p ∷ ps) qs h k = (h.0, joined ps qs h.1 k)

  one_site : (ps : List Site) (p : Site) → AllSites ps → Contains ps p → AllAtSite p
  one_site [] p h c = absurd (none_in p c)
  one_site (q ∷ ps) p h (zero, l, e) = subst AllAtSite e h.0
  one_site (q ∷ ps) p h (suc k, l, e) = one_site ps p h.1 (k, omega arith, e)

  both_operands : (x y : Term) (o : S.Operator) → AllIn P (operation x o y) → AllIn P x × AllIn P y
  both_operands x y (S.range t) h = h
  both_operands x y (S.range_below t) h = h
  both_operands x y (S.control t) h = h

  no_sites : (r : S.Ref) → AllSites (L.in_ref false r)
  no_sites (S.name t) = tt
  no_sites (S.applied o a c) = tt

  -- of the sites outside of arguments
  mutual
    at_types : (b : Bool) (t : S.Types) → AllIn P (term_of t) → AllSites (L.in_types false b t)
    at_types b (S.only r) h = at_type1 b r h
    at_types b (S.or t s r) h = joined (L.in_types false true t) (L.in_type1 false true r) (at_types true t h.0) (at_type1 true r h.1)

    at_type1 : (b : Bool) (r : S.Type1) → AllIn P (term_of1 r) → AllSites (L.in_type1 false b r)
    at_type1 b (S.one x) h = at_type2 b x h
    at_type1 b (S.operation x o y) h = let k = both_operands (term_of2 x) (term_of2 y) o h in (k, joined (L.in_type2 false true x) (L.in_type2 false true y) (at_type2 true x k.0) (at_type2 true y k.1))

    at_type2 : (b : Bool) (x : S.Type2) → AllIn P (term_of2 x) → AllSites (L.in_type2 false b x)
    at_type2 b (S.literal v) h = tt
    at_type2 b (S.typename r) h = (h, no_sites r)
    at_type2 b (S.parens o t c) h = at_types b t h
    at_type2 b (S.map_of o g c) h = (tt, at_group g h)
    at_type2 b (S.array_of o g c) h = at_group g h
    at_type2 b (S.unwrapped u r) h = (h, no_sites r)
    at_type2 b (S.choice_of a o g c) h = (tt, at_group g h)
    at_type2 b (S.choice_of_name a r) h = (h.1, no_sites r)
    at_type2 b (S.tagged o t c) h = at_types true t h
    at_type2 b (S.tagged_by o u a p t c) h = joined (L.in_types false true u) (L.in_types false true t) (at_types true u h.0) (at_types true t h.1)
    at_type2 b (S.simple_by o u c) h = at_types true u h
    at_type2 b (S.hash t) h = (tt, tt)

    at_group : (g : S.Group) → AllInGroup P (group_of g) → AllSites (L.in_group false g)
    at_group (S.sole es) h = at_entries es h
    at_group (S.orelse g s es) h = joined (L.in_group false g) (L.in_entries false es) (at_group g h.0) (at_entries es h.1)

    at_entries : (es : S.GrpChoice) → AllInEntries P (entries_of es) → AllSites (L.in_entries false es)
    at_entries S.no_entries h = tt
    at_entries (S.entries es e c) h = joined (L.in_entries false es) (L.in_entry false e) (at_entries es h.0) (at_entry e h.1)

    at_entry : (e : S.GrpEnt) → AllInEntry P (entry_of e) → AllSites (L.in_entry false e)
    at_entry (S.typed o t) h = (tt, at_types false t h)
    at_entry (S.keyed o k t) h = (tt, joined (L.in_key false k) (L.in_types false true t) (at_key k h.0) (at_types true t h.1))
    at_entry (S.grouped o p g c) h = (tt, at_group g h)

    at_key : (k : S.MemberKey) → AllInKey P (key_of k) → AllSites (L.in_key false k)
    at_key (S.type_key r u a) h = at_type1 true r h
    at_key (S.bareword n c) h = tt
    at_key (S.value_key v c) h = tt

  at_rule : (r : S.Rule) → AllInBody P (body_of r) → AllSites (outer_sites r)
  at_rule (S.type_rule n a t) h = at_types (L.demands_type false a) t h
  at_rule (S.group_rule n a e) h = at_entry e h

  -- the arguments of a reference

  abbrev AllArguments : List S.Type1 → Type 0
  AllArguments [] = Unit {0}
  AllArguments (x ∷ xs) = AllIn P (term_of1 x) × AllArguments xs

  with_argument : (xs : List S.Type1) (x : S.Type1) → AllArguments xs → AllIn P (term_of1 x) → AllArguments (xs ++ x ∷ [])
  with_argument [] x h k = (k, tt)
  with_argument (y ∷ xs) x h k = (h.0, with_argument xs x h.1 k)

  earlier : (ts : Terms) (u : Term) → AllInTerms P (followed ts u) → AllInTerms P ts × AllIn P u
  earlier no_terms u h = (tt, h.0)
  earlier (term t ts) u h = let k = earlier ts u h.1 in ((h.0, k.0), k.1)

  all_arguments : (a : S.GenericArg) → AllInTerms P (terms_of a) → AllArguments (argument_list a)
  all_arguments (S.argument r) h = (h.0, tt)
  all_arguments (S.arguments a c r) h = let k = earlier (terms_of a) (term_of1 r) h in with_argument (argument_list a) r (all_arguments a k.0) k.1

  of_reference : (f : S.Ref) → AllInRef P (ref_of f) → AllArguments (arguments f)
  of_reference (S.name t) h = tt
  of_reference (S.applied o a c) h = all_arguments a h

  one_argument : (xs : List S.Type1) (k : ℕ) (x : S.Type1) → AllArguments xs → slice_get xs k ≡ Some x → AllIn P (term_of1 x)
  one_argument [] k x h e = cc
  one_argument (y ∷ xs) zero x h e = subst (λ z. AllIn P (term_of1 z)) (same_some_there y x e) h.0
  one_argument (y ∷ xs) (suc k) x h e = one_argument xs k x h.1 e

  the_reference : (q : Site) (f : S.Ref) → ref_at_site q ≡ Some f → AllAtSite q → AllInRef P (ref_of f)
  the_reference (a_name b g) f e h = subst (λ z. AllInRef P (ref_of z)) (same_some_there g f e) h
  the_reference (an_unwrapping b t g) f e h = subst (λ z. AllInRef P (ref_of z)) (same_some_there g f e) h
  the_reference (a_choice_of_name t g) f e h = subst (λ z. AllInRef P (ref_of z)) (same_some_there g f e) h
  the_reference (a_choice_of t g) f e h = cc
  the_reference (a_hash t) f e h = cc
  the_reference (an_operation x o y) f e h = cc
  the_reference (an_entry d) f e h = cc
  the_reference (a_map t g) f e h = cc

  module _ (rs : List S.Rule) (root : Text) (all : (r : S.Rule) → Contains rs r → AllInBody P (body_of r)) where
    in_used : (r : S.Rule) (xs : List Term) (f : S.Ref) (x : S.Type1) → IsUsed rs root r xs f x → AllInRef P (ref_of f) → AllIn P (term_of1 x)
    in_used r xs f x (used k n m w a b d) h = one_argument (arguments f) k x (of_reference f h) d

    pub at_reached : (r : S.Rule) (xs : List Term) (p : Site) → IsReached rs root r xs p → AllAtSite p
    at_reached r xs p (in_body h c) = one_site (outer_sites r) p (at_rule r (all r h.present)) c
    at_reached r xs p (in_argument {q = q} {f = f} {x = x} h e u c) = one_site (L.in_type1 false true x) p (at_type1 true x (in_used r xs f x u (the_reference q f e (at_reached r xs q h)))) c

-- the arguments with which a site is reached are those of an instance
the_instance : (s : Specification) (root : Text) (r : S.Rule) (xs : List Term) (p : Site) → IsReached (rules s) root r xs p → (i : Ref) × Reaches (definitions s) root i × (arguments_of i ≡ xs)
the_instance s root r xs p (in_body {i = i} h c) = (i, h.reached, refl)
the_instance s root r xs p (in_argument {q = q} h e u c) = the_instance s root r xs q h

module _ (s : Specification) (none : NamesNoGroupAsType s) (root : Text) (r : S.Rule) (xs : List Term) where
  as_arguments : (i : Ref) → AllInRef (NamesGroup s none) i → AllTerms (NamesGroup s none) (arguments_of i)
  as_arguments (call n ts) h = as_list (NamesGroup s none) ts h

  given : (p : Site) → IsReached (rules s) root r xs p → AllTerms (NamesGroup s none) xs
  given p h = let i = the_instance s root r xs p h in subst (λ ts. AllTerms (NamesGroup s none) ts) i.2 (as_arguments i.0 (of_reached s none root i.0 i.1))

  operand : (x : S.Type2) → AllTerms (NamesGroup s none) xs → AllIn (NamesGroup s none) (term_of2 x) → ChooseGroups (definitions s) (points (fill (parameters_in r) xs (term_of2 x)))
  operand x all h q c = points_choose s none (points (fill (parameters_in r) xs (term_of2 x))) (in_points (NamesGroup s none) (fill (parameters_in r) xs (term_of2 x)) (in_filled (NamesGroup s none) (parameters_in r) xs all (term_of2 x) h)) (at_choice q) c q refl

  pub first_operand : (x y : S.Type2) (o : S.Operator) → IsReached (rules s) root r xs (an_operation x o y) → ChooseGroups (definitions s) (points (fill (parameters_in r) xs (term_of2 x)))
  first_operand x y o h = operand x (given (an_operation x o y) h) (at_reached (NamesGroup s none) (rules s) root (rule_names_groups s none) r xs (an_operation x o y) h).0

  pub last_operand : (x y : S.Type2) (o : S.Operator) → IsReached (rules s) root r xs (an_operation x o y) → ChooseGroups (definitions s) (points (fill (parameters_in r) xs (term_of2 y)))
  last_operand x y o h = operand y (given (an_operation x o y) h) (at_reached (NamesGroup s none) (rules s) root (rule_names_groups s none) r xs (an_operation x o y) h).1
