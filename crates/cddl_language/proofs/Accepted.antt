-- `t = [* t]` is accepted.
use Rattle.std.specs.Prelude.{◌≡◌, ◌≢◌, ◌⊎◌, ℕ, zero, suc, ◌<◌, length, List, [], ◌∷◌, slice_get, slice_index_or, Contains, Option, Some, None, true, false, codes}
use Rattle.std.proofs.Common.{refl, sym, ap, ◌∙◌, subst, arith, inl, inr}
use Rattle.std.proofs.lemmas.List.Elements.{Contains-get_or}
use Rattle.cddl_token.specs.declared.Token.{Token}
use Rattle.cddl_token.specs.declared.Code.{Code}
use Rattle.cddl_token.specs.declared.Code.TheVariants as C
use Rattle.tree_nodes.specs.Syntax.Syntax as S
use Rattle.std.proofs.lemmas.Bool.{false≢true}
use Rattle.lists.proofs.Lemmas.{no_some as none_is_some, same_some, some_none as some_is_none}
use Rattle.cddl_language.proofs.After.{free_first, in_one}
use Rattle.cddl_language.proofs.Alone as A
use Rattle.cddl_language.proofs.Alone.{in_type}
use Rattle.cddl_language.proofs.Basics.{cons_is_nil, beyond_two, only}
use Rattle.cddl_language.specs.Numbers.{least_of, most_of}
use Rattle.cddl_language.specs.Terms as M
use Rattle.cddl_language.specs.Terms.{Text, Term, named, array_of, Ref, call, no_terms, Group, no_entries, entries, typed, Definition, alternatives, lone}
use Rattle.cddl_language.specs.Prelude.{prelude}
use Rattle.cddl_language.specs.Reading.{definition_of, occurrence, name_in, parameter_tokens, parameters_in, rule_head}
use Rattle.cddl_language.specs.Environment.{definitions_of}
use Rattle.cddl_language.specs.Substitution.{type_choices, group_choices}
use Rattle.cddl_language.specs.Kinds.{asks_type, opens_group, opened, part_of, is_group, is_group_definition}
use Rattle.cddl_language.specs.Reach.{Reaches, at_root, onward, Point, ref_at, at_name, at_choice, at_opened_choice, most_instances, points_in}
use Rattle.cddl_language.specs.Literals.{Values}
use Rattle.cddl_language.specs.Free as R
use Rattle.cddl_language.specs.Free.{IsFree, IsFreeInSome, IsFreeInChoice, IsFreeInMeaning, IsOnCycle, LeadsOn}
use Rattle.cddl_language.specs.Sites.{Site, a_name, an_unwrapping, a_choice_of, a_choice_of_name, a_hash, an_operation, an_entry, a_map, sites, outer_sites, ref_at_site, ref_name, arguments, IsReached, in_body, in_argument, IsUsed, used}
use Rattle.cddl_language.specs.MapFaults.{HasMapShape, HasNoKey, HasTooManyAlternatives, IsSpliced, comes_back, occurs_badly, of_map, of_name, of_opened, of_parens}
use Rattle.cddl_language.specs.Faults as F
use Rattle.cddl_language.specs.Faults.{IsFaultAt, IsAccepted, parameter_count, first_equals, first_rule, HasSite, HasName}
use Rattle.cddl_language.specs.Texts as T

-- the rule, its definition, the reference in it, and what stands there
abbrev rule : S.Rule
rule = T.type_is 0 (codes "t") (T.is_type (T.array 4 (T.one_entry (T.occurring 5 (codes "*") (T.name 7 (codes "t"))))))

abbrev ds : List Definition
ds = definition_of rule ∷ []

abbrev t : Ref
t = call (codes "t") no_terms

abbrev ref : S.Ref
ref = T.a_ref 7 (codes "t")

abbrev starred : S.GrpEnt
starred = T.occurring 5 (codes "*") (T.name 7 (codes "t"))

abbrev inside : Group
inside = M.sole (entries no_entries (typed (Some (codes "*")) (named t)) false)

abbrev lists : Term
lists = array_of inside

-- What computes.

no_group : is_group ds (codes "t") ≡ false
unfolding prelude
no_group = refl

means_lists : type_choices ds t ≡ lists ∷ []
unfolding prelude
means_lists = refl

refers_to_itself : points_in ds t ≡ at_name t ∷ []
unfolding prelude
refers_to_itself = refl

opens_lists : opened ds t ≡ Some (opens_group inside)
unfolding prelude
opens_lists = refl

chooses_lists : group_choices ds t ≡ lone (typed None lists) ∷ []
unfolding prelude
chooses_lists = refl

is_type : part_of ds (named t) ≡ asks_type
unfolding prelude
is_type = refl

is_defined : definitions_of ds (codes "t") ≡ definition_of rule ∷ []
unfolding prelude
is_defined = refl

has_no_parameters : parameter_count ds (codes "t") ≡ Some 0
unfolding prelude
has_no_parameters = refl

same_kind : is_group_definition ds (definition_of rule) ≡ is_group ds (name_in rule)
unfolding prelude
same_kind = refl

-- Its sites: the entry and its name.

abbrev entry_in : Site → Option S.GrpEnt
entry_in (an_entry e) = Some e
entry_in _ = None

-- the two sorts of sites that there are
abbrev IsThere : Site → Type 0
IsThere (an_entry e) = e ≡ starred
IsThere (a_name true r) = ⊥
IsThere (a_name false r) = r ≡ ref
IsThere _ = ⊥

in_rule : (p : Site) → Contains (outer_sites rule) p → IsThere p
in_rule p (zero, h, e) = subst IsThere e refl
in_rule p (suc zero, h, e) = subst IsThere e refl
in_rule p (suc (suc k), h, e) = absurd (beyond_two k h)

found : (r : S.Rule) (p : Site) → HasSite T.lists r p → IsThere p
found r p h = in_rule p (subst (λ q. Contains (sites q) p) (only h.rule) h.site)

-- a reference at such a site
its_name : (p : Site) (f : S.Ref) → IsThere p → ref_at_site p ≡ Some f → f ≡ ref
its_name (an_entry e) f h g = absurd (none_is_some g)
its_name (a_name false r) f h g = sym (same_some g) ∙ h
its_name (a_name true r) f h g = absurd h
its_name (an_unwrapping b u r) f h g = absurd h
its_name (a_choice_of a r) f h g = absurd h
its_name (a_choice_of_name a r) f h g = absurd h
its_name (a_hash a) f h g = absurd h
its_name (an_operation x o y) f h g = absurd h
its_name (a_map o g) f h k = absurd h

named_there : (r : S.Rule) (f : S.Ref) → HasName T.lists r f → (r ≡ rule) × (f ≡ ref)
named_there r f h = (only h.found.rule, its_name h.at f (found r h.at h.found) h.name)

-- What it reaches: itself, and these sites.

reached : (r : Ref) → Reaches ds (codes "t") r → r ≡ t
reached r h = go r h
  where
    step : (r s : Ref) (p : Point) → r ≡ t → Contains (points_in ds r) p → s ≡ ref_at p → s ≡ t
    step r s p e c f = f ∙ ap ref_at (only (subst (λ ps. Contains ps p) refers_to_itself (subst (λ q. Contains (points_in ds q) p) e c)))

    go : (r : Ref) → Reaches ds (codes "t") r → r ≡ t
    go r at_root = refl
    go s (onward {r = r} {p = p} h c f) = step r s p (go r h) c f

unused : (r : S.Rule) (xs : List Term) (f : S.Ref) (x : S.Type1) → f ≡ ref → IsUsed (rule ∷ []) (codes "t") r xs f x → ⊥
unused r xs f x e (used k a b c d g h) = none_is_some (subst (λ z. slice_get (arguments z) k ≡ Some x) e h)

places_reached : (r : S.Rule) (xs : List Term) (p : Site) → IsReached (rule ∷ []) (codes "t") r xs p → IsThere p
places_reached s ys o (in_body {r = r} {p = p} i c) = in_rule p (subst (λ q. Contains (outer_sites q) p) (only i.present) c)
places_reached s ys o (in_argument {r = r} {xs = xs} {q = q} {f = f} {x = x} h e u c) = absurd (unused r xs f x (its_name q f (places_reached r xs q h) e) u)

-- No map is reached.
nothing_spliced : (r : S.Rule) (xs : List Term) (q : Option Point) (e : S.GrpEnt) → IsSpliced (rule ∷ []) (codes "t") r xs q e → ⊥
nothing_spliced r xs q e (of_map {t = u} {g = g} h c) = places_reached r xs (a_map u g) h
nothing_spliced r xs q e (of_parens {o = o} {p = p} {c = z} {g = g} s c) = nothing_spliced r xs q (S.grouped o p g z) s
nothing_spliced s xs q e (of_name {r = r} {xs = ys} {q = p} {d = d} h n c k m) = nothing_spliced r ys p d h
nothing_spliced s xs q e (of_opened {r = r} {xs = ys} {q = p} {d = d} h n c m) = nothing_spliced r ys p d h

-- No name is free in what it means, since the entry asks a type of an item.

inside_free : (p : Point) → IsFreeInSome ds p (alternatives inside) → ⊥
inside_free p h = free_first ds p (Some (codes "*")) (named t) false is_type (in_one ds p _ h)

is_array : part_of ds lists ≡ asks_type
is_array = refl

inside_chosen : (p : Point) → IsFreeInChoice ds p (alternatives inside) → p ≡ at_name t
inside_chosen p h = by (in_type ds p (Some (codes "*")) (named t) is_type h)
  where
    by : IsFree ds p (named t) → p ≡ at_name t
    by (R.name e) = e

abbrev OnlyTo : Point → Point → Type 0
OnlyTo q p = A.OnlyTo ds t inside no_group means_lists opens_lists chooses_lists is_array inside_free q p

leads_only : (p q : Point) → ref_at q ≡ t → IsFreeInMeaning ds p q → OnlyTo q p
leads_only p q e h = A.leads_only ds t inside no_group means_lists opens_lists chooses_lists is_array inside_free p q e h

-- Where the first step leads, no other begins: that is the name, by itself or after `&`.
one_step : (p s u : Point) → OnlyTo p s → IsFreeInMeaning ds u s → ⊥
one_step (at_choice r) s u e h = A.name_ends ds t inside no_group means_lists opens_lists chooses_lists is_array inside_free u s e h
one_step (at_opened_choice r) s u e h = let f = inside_chosen s e in subst (λ z. OnlyTo z u) f (leads_only u s (ap ref_at f) h)
one_step _ s u e h = absurd e

no_way_back : (p q : Point) → ref_at p ≡ t → LeadsOn ds p q → p ≡ q → ⊥
no_way_back p q e (R.at_once h) f = one_step p q q (leads_only q p e h) (subst (λ z. IsFreeInMeaning ds q z) f h)
no_way_back p q e (R.onwards {q = s} h (R.at_once k)) f = one_step p s q (leads_only s p e h) k
no_way_back p q e (R.onwards {q = s} h (R.onwards {q = u} k l)) f = one_step p s u (leads_only s p e h) k

-- No fault stands.

module _ (worth : Values) (at : ℕ) where
  no_duplicate : F.IsDuplicate T.lists at → ⊥
  no_duplicate (F.other_equals {q = q} {r = r} c s f differ e) = differ (ap definition_of (only c) ∙ ap definition_of (same_some (subst (λ z. first_equals (rule ∷ []) (name_in z) ≡ Some q) (only c) f)))
  no_duplicate (F.parameter_twice {r = r} {t = u} {j = j} c h f g e k) = none_is_some (subst (λ z. slice_get (parameter_tokens (rule_head z)) j ≡ Some u) (only c) f)

  no_clash : F.IsKindClash T.lists at → ⊥
  no_clash f = f.clash (subst (λ z. is_group_definition ds (definition_of z) ≡ is_group ds (name_in z)) (sym (only f.present)) same_kind)

  all_defined : F.IsUndefined T.lists at → ⊥
  all_defined f = cons_is_nil (sym is_defined ∙ subst (λ z. definitions_of ds (ref_name z) ≡ []) ((named_there f.rule f.ref f.found).1) f.no_definition)

  counts : (k : ℕ) → parameter_count ds (codes "t") ≡ Some k → 0 ≡ k
  counts k e = same_some (sym has_no_parameters ∙ e)

  right_arity : F.HasWrongArity T.lists at → ⊥
  right_arity (F.by_rule {r = r} {k = k} c f differ e) = differ (ap (λ z. length (parameters_in z)) (only c) ∙ counts k (subst (λ z. parameter_count ds (name_in z) ≡ Some k) (only c) f))
  right_arity (F.by_name {r = r} {f = f} {k = k} n p c differ e) = differ (ap (λ z. length (arguments z)) ((named_there r f n).1) ∙ counts k (subst (λ z. parameter_count ds (ref_name z) ≡ Some k) ((named_there r f n).1) c))
  right_arity (F.by_parameter {r = r} {f = f} n p differ e) = differ (ap arguments ((named_there r f n).1))

  has_root : F.HasNoRoot T.lists at → ⊥
  has_root (F.no_rule e h) = some_is_none e
  has_root (F.no_such {n = n} e f h) = cons_is_nil (sym is_defined ∙ subst (λ z. definitions_of ds z ≡ []) (sym (same_some e)) f)

  good_root : F.HasBadRoot T.lists at → ⊥
  good_root f = go f.root f.rule f.rooted f.first f.bad
    where
      go : (n : Text) (r : S.Rule) → Some (codes "t") ≡ Some n → first_rule (rule ∷ []) n ≡ Some r → (is_group ds n ≡ true) ⊎ (parameters_in r ≢ []) → ⊥
      go n r e h (inl b) = false≢true (sym no_group ∙ subst (λ z. is_group ds z ≡ true) (sym (same_some e)) b)
      go n r e h (inr b) = b (ap parameters_in (sym (same_some (subst (λ z. first_rule (rule ∷ []) z ≡ Some r) (sym (same_some e)) h))))

  no_group_as_type : F.HasGroupAsType T.lists at → ⊥
  no_group_as_type (F.group_name {r = r} {f = f} p h e) = found r (a_name true f) p
  no_group_as_type (F.type_name {r = r} {t = u} {f = f} p h e) = found r (a_choice_of_name u f) p

  no_hash : F.HasBadHash T.lists at → ⊥
  no_hash f = found f.rule (a_hash f.token) f.found

  no_control : F.HasUnknownControl T.lists at → ⊥
  no_control f = found f.rule (an_operation f.left (S.control f.token) f.right) f.found

  few_instances : F.HasTooManyInstances T.lists (codes "t") at → ⊥
  few_instances f = f.distinct 0 1 t (omega arith) (two f.many) (one 0 (some f.many) ∙ sym (one 1 (two f.many)))
    where
      two : most_instances < length f.instances → 1 < length f.instances
      two h = omega arith

      some : most_instances < length f.instances → 0 < length f.instances
      some h = omega arith

      one : (i : ℕ) → i < length f.instances → slice_index_or f.instances i t ≡ t
      one i h = reached (slice_index_or f.instances i t) (f.reached (slice_index_or f.instances i t) (Contains-get_or f.instances i t h))

  no_unwrapping : F.HasNotUnwrappable T.lists (codes "t") at → ⊥
  no_unwrapping (F.opens_nothing {r = r} {xs = xs} {b = b} {t = u} {f = f} p h e) = places_reached r xs (an_unwrapping b u f) p
  no_unwrapping (F.opens_group_as_type {r = r} {xs = xs} {t = u} {f = f} p h e) = places_reached r xs (an_unwrapping true u f) p
  no_unwrapping (F.chooses_from_none {r = r} {xs = xs} {t = u} {g = g} p h e) = places_reached r xs (a_choice_of u g) p
  no_unwrapping (F.chooses_from_no_name {r = r} {xs = xs} {t = u} {f = f} p h e) = places_reached r xs (a_choice_of_name u f) p

  no_cycle : (p : Point) → IsOnCycle ds (codes "t") p → ⊥
  no_cycle p c = no_way_back p p (reached (ref_at p) c.back.instance) c.back.way refl

  no_recursion : F.HasRecursion T.lists (codes "t") at → ⊥
  no_recursion (F.at_rule f e) = no_cycle f.point f.cycle
  no_recursion (F.without_rule {p = p} c none e) = no_cycle p c

  within_bounds : (e : S.GrpEnt) (o : Token) → e ≡ starred → F.occur_token e ≡ Some o → F.IsOver (least_of (occurrence (Some o))) (most_of (occurrence (Some o))) → ⊥
  within_bounds e o h f g = subst (λ z. F.IsOver (least_of (occurrence z)) (most_of (occurrence z))) (sym f ∙ ap F.occur_token h) g

  right_controllers : F.HasNotLiteral T.lists worth (codes "t") at → ⊥
  right_controllers (F.comparand {r = r} {xs = xs} {x = x} {y = y} {o = o} p c h e) = places_reached r xs (an_operation x o y) p
  right_controllers (F.left_operand {r = r} {xs = xs} {x = x} {y = y} {o = o} p c h e) = places_reached r xs (an_operation x o y) p
  right_controllers (F.right_operand {r = r} {xs = xs} {x = x} {y = y} {o = o} p c h e) = places_reached r xs (an_operation x o y) p
  right_controllers (F.out_of_range {r = r} {xs = xs} {x = x} {y = y} {o = o} p c g h k e) = places_reached r xs (an_operation x o y) p

  good_controllers : F.HasBadController T.lists worth (codes "t") at → ⊥
  good_controllers (F.no_number {r = r} {xs = xs} {x = x} {y = y} {o = o} p c g l h e) = places_reached r xs (an_operation x o y) p
  good_controllers (F.no_members {r = r} {xs = xs} {x = x} {y = y} {o = o} p c h e) = places_reached r xs (an_operation x o y) p
  good_controllers (F.not_utf8 {r = r} {xs = xs} {x = x} {y = y} {o = o} p c g h k e) = places_reached r xs (an_operation x o y) p

  good_ranges : F.HasBadRange T.lists worth (codes "t") at → ⊥
  good_ranges (F.first_end {r = r} {xs = xs} {x = x} {y = y} {o = o} p s h e) = places_reached r xs (an_operation x o y) p
  good_ranges (F.last_end {r = r} {xs = xs} {x = x} {y = y} {o = o} p s h e) = places_reached r xs (an_operation x o y) p
  good_ranges (F.bounds {r = r} {xs = xs} {e = e} {t = o} p h f k) = within_bounds e o (places_reached r xs (an_entry e) p) h f

  has_keys : HasNoKey (rule ∷ []) (codes "t") at → ⊥
  has_keys f = nothing_spliced f.rule f.arguments f.owner f.entry f.spliced

  good_maps : HasMapShape (rule ∷ []) (codes "t") at → ⊥
  good_maps (comes_back {r = r} {xs = xs} {p = p} {e = e} s h k) = nothing_spliced r xs (Some p) e s
  good_maps (occurs_badly {r = r} {xs = xs} {q = q} {e = e} s h k) = nothing_spliced r xs q e s

  few_alternatives : HasTooManyAlternatives (rule ∷ []) (codes "t") at → ⊥
  few_alternatives f = places_reached f.rule f.arguments (a_map f.token f.group) f.reached

  no_fault : (c : Code) → IsFaultAt T.lists worth c at → ⊥
  no_fault C.Duplicate f = no_duplicate f
  no_fault C.KindClash f = no_clash f
  no_fault C.Undefined f = all_defined f
  no_fault C.Arity f = right_arity f
  no_fault C.NoRoot f = has_root f
  no_fault C.BadRoot f = good_root f
  no_fault C.GroupAsType f = no_group_as_type f
  no_fault C.HashForm f = no_hash f
  no_fault C.UnknownControl f = no_control f
  no_fault C.TooManyInstances f = few_instances f
  no_fault C.NotUnwrappable f = no_unwrapping f
  no_fault C.Recursion f = no_recursion f
  no_fault C.NotLiteral f = right_controllers f
  no_fault C.BadRange f = good_ranges f
  no_fault C.BadController f = good_controllers f
  no_fault C.NoKey f = has_keys f
  no_fault C.MapShape f = good_maps f
  no_fault C.TooManyAlternatives f = few_alternatives f
  no_fault _ f = f

pub accepted : (worth : Values) → IsAccepted T.lists worth
accepted worth c at f = no_fault worth at c f
