-- All references that stand in what an instance means are instances.
use Rattle.std.proofs.Common.{◌≡◌, zero, suc, ◌⊎◌, inl, inr, false, List, [], ◌∷◌, ◌++◌, Some, None, refl, sym, subst, arith}
use Rattle.std.specs.Prelude.{Contains, flat_map}
use Rattle.std.proofs.lemmas.List.Elements.{Contains-append_left, Contains-append_right, Contains-append_cases}
use Rattle.lists.proofs.Lemmas.{none_in as nothing_in}
use Rattle.cddl_language.specs.Terms.{Text, Term, literal, named, parens, map_of, array_of, unwrapped, choice_of, choice_of_name, tagged, tagged_by, simple_by, hash, range, control, or, Ref, Group, sole, orelse, Entries, no_entries, entries, typed, keyed, grouped, Body, of_types, of_entry, Definition, choices, alternatives}
use Rattle.cddl_language.specs.Substitution.{bodies, types_in, type_choices, body_alternatives, group_choices}
use Rattle.cddl_language.specs.Reach.{Point, Reaches, onward, points, group_points, entries_points, entry_points, body_points}
use Rattle.check_instances.specs.Closed.Closed.{AreReached}

one_in : {A : Type 0} (x y : A) → Contains (x ∷ []) y → y ≡ x
one_in x y (zero, h, e) = sym e
one_in x y (suc k, h, e) = absurd (omega (arith, h))

-- points of a part are points of the whole

choice_points : (t x : Term) (p : Point) → Contains (choices t) x → Contains (points x) p → Contains (points t) p
choice_points (or t u) x p c h = by (Contains-append_cases (choices t) (u ∷ []) x c) (λ d. choice_points t x p d h)
  where
    by : Contains (choices t) x ⊎ Contains (u ∷ []) x → (Contains (choices t) x → Contains (points t) p) → Contains (points t ++ points u) p
    by (inl d) f = Contains-append_left (points t) (points u) p (f d)
    by (inr d) f = Contains-append_right (points t) (points u) p (subst (λ y. Contains (points y) p) (one_in u x d) h)
choice_points (literal v) x p c h = subst (λ y. Contains (points y) p) (one_in (literal v) x c) h
choice_points (named r) x p c h = subst (λ y. Contains (points y) p) (one_in (named r) x c) h
choice_points (parens u) x p c h = subst (λ y. Contains (points y) p) (one_in (parens u) x c) h
choice_points (map_of g) x p c h = subst (λ y. Contains (points y) p) (one_in (map_of g) x c) h
choice_points (array_of g) x p c h = subst (λ y. Contains (points y) p) (one_in (array_of g) x c) h
choice_points (unwrapped r) x p c h = subst (λ y. Contains (points y) p) (one_in (unwrapped r) x c) h
choice_points (choice_of g) x p c h = subst (λ y. Contains (points y) p) (one_in (choice_of g) x c) h
choice_points (choice_of_name r) x p c h = subst (λ y. Contains (points y) p) (one_in (choice_of_name r) x c) h
choice_points (tagged n u) x p c h = subst (λ y. Contains (points y) p) (one_in (tagged n u) x c) h
choice_points (tagged_by a u) x p c h = subst (λ y. Contains (points y) p) (one_in (tagged_by a u) x c) h
choice_points (simple_by a) x p c h = subst (λ y. Contains (points y) p) (one_in (simple_by a) x c) h
choice_points (hash n) x p c h = subst (λ y. Contains (points y) p) (one_in (hash n) x c) h
choice_points (range a b u) x p c h = subst (λ y. Contains (points y) p) (one_in (range a b u) x c) h
choice_points (control a n u) x p c h = subst (λ y. Contains (points y) p) (one_in (control a n u) x c) h

alternative_points : (g : Group) (es : Entries) (p : Point) → Contains (alternatives g) es → Contains (entries_points es) p → Contains (group_points g) p
alternative_points (sole fs) es p c h = subst (λ y. Contains (entries_points y) p) (one_in fs es c) h
alternative_points (orelse g fs) es p c h = by (Contains-append_cases (alternatives g) (fs ∷ []) es c) (λ d. alternative_points g es p d h)
  where
    by : Contains (alternatives g) es ⊎ Contains (fs ∷ []) es → (Contains (alternatives g) es → Contains (group_points g) p) → Contains (group_points g ++ entries_points fs) p
    by (inl d) f = Contains-append_left (group_points g) (entries_points fs) p (f d)
    by (inr d) f = Contains-append_right (group_points g) (entries_points fs) p (subst (λ y. Contains (entries_points y) p) (one_in fs es d) h)

-- a point of a group is one of an alternative
in_alternative : (g : Group) (p : Point) → Contains (group_points g) p → (es : Entries) × Contains (alternatives g) es × Contains (entries_points es) p
in_alternative (sole es) p h = (es, (0, omega arith, refl), h)
in_alternative (orelse g fs) p h = by (Contains-append_cases (group_points g) (entries_points fs) p h) (in_alternative g p)
  where
    by : Contains (group_points g) p ⊎ Contains (entries_points fs) p → (Contains (group_points g) p → (es : Entries) × Contains (alternatives g) es × Contains (entries_points es) p) → (es : Entries) × Contains (alternatives g ++ fs ∷ []) es × Contains (entries_points es) p
    by (inl d) f = let q = f d in (q.0, Contains-append_left (alternatives g) (fs ∷ []) q.0 q.1, q.2)
    by (inr d) f = (fs, Contains-append_right (alternatives g) (fs ∷ []) fs (0, omega arith, refl), d)

type_points : (bs : List Body) (x : Term) (p : Point) → Contains (types_in bs) x → Contains (points x) p → Contains (flat_map body_points bs) p
type_points [] x p c h = absurd (nothing_in x c)
type_points (of_types t ∷ bs) x p c h = by (Contains-append_cases (choices t) (types_in bs) x c) (λ d. type_points bs x p d h)
  where
    by : Contains (choices t) x ⊎ Contains (types_in bs) x → (Contains (types_in bs) x → Contains (flat_map body_points bs) p) → Contains (points t ++ flat_map body_points bs) p
    by (inl d) f = Contains-append_left (points t) (flat_map body_points bs) p (choice_points t x p d h)
    by (inr d) f = Contains-append_right (points t) (flat_map body_points bs) p (f d)
type_points (of_entry e ∷ bs) x p c h = Contains-append_right (entry_points e) (flat_map body_points bs) p (type_points bs x p c h)

one_body : (b : Body) (es : Entries) (p : Point) → Contains (body_alternatives b) es → Contains (entries_points es) p → Contains (body_points b) p
one_body (of_types t) es p c h = subst (λ y. Contains (entries_points y) p) (one_in (entries no_entries (typed None t) false) es c) h
one_body (of_entry (grouped None g)) es p c h = alternative_points g es p c h
one_body (of_entry (grouped (Some o) g)) es p c h = subst (λ y. Contains (entries_points y) p) (one_in (entries no_entries (grouped (Some o) g) false) es c) h
one_body (of_entry (typed o t)) es p c h = subst (λ y. Contains (entries_points y) p) (one_in (entries no_entries (typed o t) false) es c) h
one_body (of_entry (keyed o k t)) es p c h = subst (λ y. Contains (entries_points y) p) (one_in (entries no_entries (keyed o k t) false) es c) h

all_points : (bs : List Body) (es : Entries) (p : Point) → Contains (flat_map body_alternatives bs) es → Contains (entries_points es) p → Contains (flat_map body_points bs) p
all_points [] es p c h = absurd (nothing_in es c)
all_points (b ∷ bs) es p c h = by (Contains-append_cases (body_alternatives b) (flat_map body_alternatives bs) es c) (λ d. all_points bs es p d h)
  where
    by : Contains (body_alternatives b) es ⊎ Contains (flat_map body_alternatives bs) es → (Contains (flat_map body_alternatives bs) es → Contains (flat_map body_points bs) p) → Contains (body_points b ++ flat_map body_points bs) p
    by (inl d) f = Contains-append_left (body_points b) (flat_map body_points bs) p (one_body b es p d h)
    by (inr d) f = Contains-append_right (body_points b) (flat_map body_points bs) p (f d)

module _ (xs : List Definition) (root : Text) (r : Ref) where
  pub types_reached : (x : Term) → Reaches xs root r → Contains (type_choices xs r) x → AreReached xs root (points x)
  types_reached x reaches c = λ p h. onward reaches (type_points (bodies xs r) x p c h) refl

  pub alternatives_reached : (es : Entries) → Reaches xs root r → Contains (group_choices xs r) es → AreReached xs root (entries_points es)
  alternatives_reached es reaches c = λ p h. onward reaches (all_points (bodies xs r) es p c h) refl

  pub group_reached : (g : Group) → Reaches xs root r → alternatives g ≡ group_choices xs r → AreReached xs root (group_points g)
  group_reached g reaches e = λ p h. let q = in_alternative g p h in alternatives_reached q.0 reaches (subst (λ (l : List Entries). Contains l q.0) e q.1) p q.2
