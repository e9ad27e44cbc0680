-- What stands at the sites of a tree outside of arguments.
use Rattle.std.specs.Prelude.{◌≡◌, ℕ, zero, suc, ◌<◌, Bool, true, false, List, [], ◌∷◌, ◌++◌, Contains, Some, None, slice_get, unwrap_or}
use Rattle.std.proofs.Common.{refl, sym, ap, ◌∙◌, subst, arith}
use Rattle.std.proofs.lemmas.List.Elements.{Contains-append_left, Contains-append_right}
use Rattle.lists.proofs.Lemmas.{on_both}
use Rattle.tree_nodes.specs.Syntax.Syntax as S
use Rattle.cddl_language.specs.Terms.{Text, Term, named, unwrapped}
use Rattle.cddl_language.specs.Reading.{ref_of, term_of, term_of1, term_of2, group_of, entries_of, entry_of, key_of}
use Rattle.cddl_language.specs.Substitution.{fill, fill_ref, fill_group, fill_entries, fill_entry, fill_key}
use Rattle.cddl_language.specs.Reach.{Point, at_choice, points, group_points, entries_points, entry_points, key_points}
use Rattle.cddl_language.specs.Sites.{Site, a_name, an_unwrapping, a_choice_of, a_choice_of_name, a_hash, an_operation, an_entry, a_map, arguments, argument_list, in_types, in_type1, in_type2, in_ref, in_arguments, in_group, in_entries, in_entry, in_key, ref_at_site}

beyond_zero : (k : ℕ) → k < 0 → ⊥
beyond_zero k h = omega arith

pub none_in : {X C : Type 0} {x : X} → Contains [] x → C
none_in c = absurd (beyond_zero c.0 c.1)

pub at_head : {X : Type 0} (x : X) (xs : List X) → Contains (x ∷ xs) x
at_head x xs = (zero, omega arith, refl)

pub behind : {X : Type 0} (x : X) (xs : List X) {y : X} → Contains xs y → Contains (x ∷ xs) y
behind x xs (k, h, e) = (suc k, omega arith, e)

pub on_cons : {X C : Type 0} (x : X) (xs : List X) (y : X) → Contains (x ∷ xs) y → (x ≡ y → C) → (Contains xs y → C) → C
on_cons x xs y (zero, h, e) f g = f e
on_cons x xs y (suc k, h, e) f g = g (k, omega arith, e)

pub some_is_none : {X C : Type 0} {x : X} → None ≡ Some x → C
some_is_none e = absurd (subst (λ o. elim o as (λ p. Type 0) [ None ↦ Unit {0} | Some y ↦ ⊥ ]) e tt)

pub same_some : {X : Type 0} {x y : X} → Some x ≡ Some y → x ≡ y
same_some {x = x} e = ap (λ o. unwrap_or o x) e

-- the points of what is put at a site
abbrev pub site_points : List Text → List Term → Site → List Point
site_points ps xs (a_name b r) = points (fill ps xs (named (ref_of r)))
site_points ps xs (an_unwrapping b u r) = points (fill ps xs (unwrapped (ref_of r)))
site_points ps xs (a_choice_of_name a r) = at_choice (fill_ref ps xs (ref_of r)) ∷ []
site_points ps xs (a_choice_of a g) = group_points (fill_group ps xs (group_of g))
site_points ps xs (an_operation x o y) = points (fill ps xs (term_of2 x)) ++ points (fill ps xs (term_of2 y))
site_points ps xs (a_map a g) = group_points (fill_group ps xs (group_of g))
site_points ps xs _ = []

no_outer : (r : S.Ref) {C : Type 0} (q : Site) → Contains (in_ref false r) q → C
no_outer (S.name t) q c = none_in c
no_outer (S.applied o a z) q c = none_in c

pub slice_contains : {X : Type 0} (xs : List X) (k : ℕ) (x : X) → slice_get xs k ≡ Some x → Contains xs x
slice_contains [] k x e = some_is_none e
slice_contains (y ∷ ys) zero x e = subst (λ z. Contains (y ∷ ys) z) (same_some e) (at_head y ys)
slice_contains (y ∷ ys) (suc k) x e = behind y ys (slice_contains ys k x e)

-- a site in an argument of a reference
in_argument_list : (a : S.GenericArg) (k : ℕ) (x : S.Type1) {p : Site} → slice_get (argument_list a) k ≡ Some x → Contains (in_type1 true true x) p → Contains (in_arguments true a) p
in_argument_list a k x {p = p} w i = listed a (slice_contains (argument_list a) k x w) i
  where
    listed : (a : S.GenericArg) → Contains (argument_list a) x → Contains (in_type1 true true x) p → Contains (in_arguments true a) p
    listed (S.argument r) c i = on_cons r [] x c (λ e. subst (λ z. Contains (in_type1 true true z) p) (sym e) i) (λ d. none_in d)
    listed (S.arguments a z r) c i = on_both (argument_list a) (r ∷ []) x c (λ d. Contains-append_left (in_arguments true a) (in_type1 true true r) p (listed a d i)) (λ d. Contains-append_right (in_arguments true a) (in_type1 true true r) p (on_cons r [] x d (λ e. subst (λ z. Contains (in_type1 true true z) p) (sym e) i) (λ d. none_in d)))

of_ref : (r : S.Ref) (k : ℕ) (x : S.Type1) {p : Site} → slice_get (arguments r) k ≡ Some x → Contains (in_type1 true true x) p → Contains (in_ref true r) p
of_ref (S.name t) k x w i = some_is_none w
of_ref (S.applied o a z) k x w i = in_argument_list a k x w i

-- points of what is put at an outer site stand in the tree
module _ (ps : List Text) (xs : List Term) (q : Site) (p : Point) (h : Contains (site_points ps xs q) p) where
  mutual
    pub points_types : (b : Bool) (t : S.Types) → Contains (in_types false b t) q → Contains (points (fill ps xs (term_of t))) p
    points_types b (S.only r) c = points_type1 b r c
    points_types b (S.or t s r) c = on_both (in_types false true t) (in_type1 false true r) q c (λ d. Contains-append_left (points (fill ps xs (term_of t))) (points (fill ps xs (term_of1 r))) p (points_types true t d)) (λ d. Contains-append_right (points (fill ps xs (term_of t))) (points (fill ps xs (term_of1 r))) p (points_type1 true r d))

    pub points_type1 : (b : Bool) (t : S.Type1) → Contains (in_type1 false b t) q → Contains (points (fill ps xs (term_of1 t))) p
    points_type1 b (S.one x) c = points_type2 b x c
    points_type1 b (S.operation x (S.range o) y) c = on_cons (an_operation x (S.range o) y) (in_type2 false true x ++ in_type2 false true y) q c (λ e. subst (λ m. Contains (site_points ps xs m) p) (sym e) h) (λ d. on_both (in_type2 false true x) (in_type2 false true y) q d (λ d. Contains-append_left (points (fill ps xs (term_of2 x))) (points (fill ps xs (term_of2 y))) p (points_type2 true x d)) (λ d. Contains-append_right (points (fill ps xs (term_of2 x))) (points (fill ps xs (term_of2 y))) p (points_type2 true y d)))
    points_type1 b (S.operation x (S.range_below o) y) c = on_cons (an_operation x (S.range_below o) y) (in_type2 false true x ++ in_type2 false true y) q c (λ e. subst (λ m. Contains (site_points ps xs m) p) (sym e) h) (λ d. on_both (in_type2 false true x) (in_type2 false true y) q d (λ d. Contains-append_left (points (fill ps xs (term_of2 x))) (points (fill ps xs (term_of2 y))) p (points_type2 true x d)) (λ d. Contains-append_right (points (fill ps xs (term_of2 x))) (points (fill ps xs (term_of2 y))) p (points_type2 true y d)))
    points_type1 b (S.operation x (S.control o) y) c = on_cons (an_operation x (S.control o) y) (in_type2 false true x ++ in_type2 false true y) q c (λ e. subst (λ m. Contains (site_points ps xs m) p) (sym e) h) (λ d. on_both (in_type2 false true x) (in_type2 false true y) q d (λ d. Contains-append_left (points (fill ps xs (term_of2 x))) (points (fill ps xs (term_of2 y))) p (points_type2 true x d)) (λ d. Contains-append_right (points (fill ps xs (term_of2 x))) (points (fill ps xs (term_of2 y))) p (points_type2 true y d)))

    pub points_type2 : (b : Bool) (t : S.Type2) → Contains (in_type2 false b t) q → Contains (points (fill ps xs (term_of2 t))) p
    points_type2 b (S.literal v) c = none_in c
    points_type2 b (S.typename r) c = on_cons (a_name b r) (in_ref false r) q c (λ e. subst (λ m. Contains (site_points ps xs m) p) (sym e) h) (λ d. no_outer r q d)
    points_type2 b (S.parens o t z) c = points_types b t c
    points_type2 b (S.map_of o g z) c = on_cons (a_map o g) (in_group false g) q c (λ e. subst (λ m. Contains (site_points ps xs m) p) (sym e) h) (λ d. points_group g d)
    points_type2 b (S.array_of o g z) c = points_group g c
    points_type2 b (S.unwrapped u r) c = on_cons (an_unwrapping b u r) (in_ref false r) q c (λ e. subst (λ m. Contains (site_points ps xs m) p) (sym e) h) (λ d. no_outer r q d)
    points_type2 b (S.choice_of a o g z) c = on_cons (a_choice_of a g) (in_group false g) q c (λ e. subst (λ m. Contains (site_points ps xs m) p) (sym e) h) (λ d. points_group g d)
    points_type2 b (S.choice_of_name a r) c = on_cons (a_choice_of_name a r) (in_ref false r) q c (λ e. subst (λ m. Contains (site_points ps xs m) p) (sym e) h) (λ d. no_outer r q d)
    points_type2 b (S.tagged o t z) c = points_types true t c
    points_type2 b (S.tagged_by o t a l u z) c = on_both (in_types false true t) (in_types false true u) q c (λ d. Contains-append_left (points (fill ps xs (term_of t))) (points (fill ps xs (term_of u))) p (points_types true t d)) (λ d. Contains-append_right (points (fill ps xs (term_of t))) (points (fill ps xs (term_of u))) p (points_types true u d))
    points_type2 b (S.simple_by o t z) c = points_types true t c
    points_type2 b (S.hash t) c = on_cons (a_hash t) [] q c (λ e. none_in (subst (λ m. Contains (site_points ps xs m) p) (sym e) h)) (λ d. none_in d)

    pub points_group : (t : S.Group) → Contains (in_group false t) q → Contains (group_points (fill_group ps xs (group_of t))) p
    points_group (S.sole es) c = points_entries es c
    points_group (S.orelse g s es) c = on_both (in_group false g) (in_entries false es) q c (λ d. Contains-append_left (group_points (fill_group ps xs (group_of g))) (entries_points (fill_entries ps xs (entries_of es))) p (points_group g d)) (λ d. Contains-append_right (group_points (fill_group ps xs (group_of g))) (entries_points (fill_entries ps xs (entries_of es))) p (points_entries es d))

    pub points_entries : (t : S.GrpChoice) → Contains (in_entries false t) q → Contains (entries_points (fill_entries ps xs (entries_of t))) p
    points_entries S.no_entries c = none_in c
    points_entries (S.entries es e z) c = on_both (in_entries false es) (in_entry false e) q c (λ d. Contains-append_left (entries_points (fill_entries ps xs (entries_of es))) (entry_points (fill_entry ps xs (entry_of e))) p (points_entries es d)) (λ d. Contains-append_right (entries_points (fill_entries ps xs (entries_of es))) (entry_points (fill_entry ps xs (entry_of e))) p (points_entry e d))

    pub points_entry : (t : S.GrpEnt) → Contains (in_entry false t) q → Contains (entry_points (fill_entry ps xs (entry_of t))) p
    points_entry (S.typed o t) c = on_cons (an_entry (S.typed o t)) (in_types false false t) q c (λ e. none_in (subst (λ m. Contains (site_points ps xs m) p) (sym e) h)) (λ d. points_types false t d)
    points_entry (S.keyed o k t) c = on_cons (an_entry (S.keyed o k t)) (in_key false k ++ in_types false true t) q c (λ e. none_in (subst (λ m. Contains (site_points ps xs m) p) (sym e) h)) (λ d. on_both (in_key false k) (in_types false true t) q d (λ d. Contains-append_left (key_points (fill_key ps xs (key_of k))) (points (fill ps xs (term_of t))) p (points_key k d)) (λ d. Contains-append_right (key_points (fill_key ps xs (key_of k))) (points (fill ps xs (term_of t))) p (points_types true t d)))
    points_entry (S.grouped o a g z) c = on_cons (an_entry (S.grouped o a g z)) (in_group false g) q c (λ e. none_in (subst (λ m. Contains (site_points ps xs m) p) (sym e) h)) (λ d. points_group g d)

    pub points_key : (t : S.MemberKey) → Contains (in_key false t) q → Contains (key_points (fill_key ps xs (key_of t))) p
    points_key (S.type_key r u a) c = points_type1 true r c
    points_key (S.bareword n z) c = none_in c
    points_key (S.value_key v z) c = none_in c

-- a site outside of arguments is one of all
module _ (q : Site) where
  mutual
    pub kept_types : (b : Bool) (t : S.Types) → Contains (in_types false b t) q → Contains (in_types true b t) q
    kept_types b (S.only r) c = kept_type1 b r c
    kept_types b (S.or t s r) c = on_both (in_types false true t) (in_type1 false true r) q c (λ d. Contains-append_left (in_types true true t) (in_type1 true true r) q (kept_types true t d)) (λ d. Contains-append_right (in_types true true t) (in_type1 true true r) q (kept_type1 true r d))

    pub kept_type1 : (b : Bool) (t : S.Type1) → Contains (in_type1 false b t) q → Contains (in_type1 true b t) q
    kept_type1 b (S.one x) c = kept_type2 b x c
    kept_type1 b (S.operation x o y) c = on_cons (an_operation x o y) (in_type2 false true x ++ in_type2 false true y) q c (λ e. subst (λ m. Contains ((an_operation x o y) ∷ (in_type2 true true x ++ in_type2 true true y)) m) e (at_head (an_operation x o y) (in_type2 true true x ++ in_type2 true true y))) (λ d. behind (an_operation x o y) (in_type2 true true x ++ in_type2 true true y) (on_both (in_type2 false true x) (in_type2 false true y) q d (λ d. Contains-append_left (in_type2 true true x) (in_type2 true true y) q (kept_type2 true x d)) (λ d. Contains-append_right (in_type2 true true x) (in_type2 true true y) q (kept_type2 true y d))))

    pub kept_type2 : (b : Bool) (t : S.Type2) → Contains (in_type2 false b t) q → Contains (in_type2 true b t) q
    kept_type2 b (S.literal v) c = none_in c
    kept_type2 b (S.typename r) c = on_cons (a_name b r) (in_ref false r) q c (λ e. subst (λ m. Contains ((a_name b r) ∷ in_ref true r) m) e (at_head (a_name b r) (in_ref true r))) (λ d. no_outer r q d)
    kept_type2 b (S.parens o t z) c = kept_types b t c
    kept_type2 b (S.map_of o g z) c = on_cons (a_map o g) (in_group false g) q c (λ e. subst (λ m. Contains ((a_map o g) ∷ (in_group true g)) m) e (at_head (a_map o g) (in_group true g))) (λ d. behind (a_map o g) (in_group true g) (kept_group g d))
    kept_type2 b (S.array_of o g z) c = kept_group g c
    kept_type2 b (S.unwrapped u r) c = on_cons (an_unwrapping b u r) (in_ref false r) q c (λ e. subst (λ m. Contains ((an_unwrapping b u r) ∷ in_ref true r) m) e (at_head (an_unwrapping b u r) (in_ref true r))) (λ d. no_outer r q d)
    kept_type2 b (S.choice_of a o g z) c = on_cons (a_choice_of a g) (in_group false g) q c (λ e. subst (λ m. Contains ((a_choice_of a g) ∷ (in_group true g)) m) e (at_head (a_choice_of a g) (in_group true g))) (λ d. behind (a_choice_of a g) (in_group true g) (kept_group g d))
    kept_type2 b (S.choice_of_name a r) c = on_cons (a_choice_of_name a r) (in_ref false r) q c (λ e. subst (λ m. Contains ((a_choice_of_name a r) ∷ in_ref true r) m) e (at_head (a_choice_of_name a r) (in_ref true r))) (λ d. no_outer r q d)
    kept_type2 b (S.tagged o t z) c = kept_types true t c
    kept_type2 b (S.tagged_by o t a l u z) c = on_both (in_types false true t) (in_types false true u) q c (λ d. Contains-append_left (in_types true true t) (in_types true true u) q (kept_types true t d)) (λ d. Contains-append_right (in_types true true t) (in_types true true u) q (kept_types true u d))
    kept_type2 b (S.simple_by o t z) c = kept_types true t c
    kept_type2 b (S.hash t) c = c

    pub kept_group : (t : S.Group) → Contains (in_group false t) q → Contains (in_group true t) q
    kept_group (S.sole es) c = kept_entries es c
    kept_group (S.orelse g s es) c = on_both (in_group false g) (in_entries false es) q c (λ d. Contains-append_left (in_group true g) (in_entries true es) q (kept_group g d)) (λ d. Contains-append_right (in_group true g) (in_entries true es) q (kept_entries es d))

    pub kept_entries : (t : S.GrpChoice) → Contains (in_entries false t) q → Contains (in_entries true t) q
    kept_entries S.no_entries c = none_in c
    kept_entries (S.entries es e z) c = on_both (in_entries false es) (in_entry false e) q c (λ d. Contains-append_left (in_entries true es) (in_entry true e) q (kept_entries es d)) (λ d. Contains-append_right (in_entries true es) (in_entry true e) q (kept_entry e d))

    pub kept_entry : (t : S.GrpEnt) → Contains (in_entry false t) q → Contains (in_entry true t) q
    kept_entry (S.typed o t) c = on_cons (an_entry (S.typed o t)) (in_types false false t) q c (λ e. subst (λ m. Contains ((an_entry (S.typed o t)) ∷ (in_types true false t)) m) e (at_head (an_entry (S.typed o t)) (in_types true false t))) (λ d. behind (an_entry (S.typed o t)) (in_types true false t) (kept_types false t d))
    kept_entry (S.keyed o k t) c = on_cons (an_entry (S.keyed o k t)) (in_key false k ++ in_types false true t) q c (λ e. subst (λ m. Contains ((an_entry (S.keyed o k t)) ∷ (in_key true k ++ in_types true true t)) m) e (at_head (an_entry (S.keyed o k t)) (in_key true k ++ in_types true true t))) (λ d. behind (an_entry (S.keyed o k t)) (in_key true k ++ in_types true true t) (on_both (in_key false k) (in_types false true t) q d (λ d. Contains-append_left (in_key true k) (in_types true true t) q (kept_key k d)) (λ d. Contains-append_right (in_key true k) (in_types true true t) q (kept_types true t d))))
    kept_entry (S.grouped o a g z) c = on_cons (an_entry (S.grouped o a g z)) (in_group false g) q c (λ e. subst (λ m. Contains ((an_entry (S.grouped o a g z)) ∷ (in_group true g)) m) e (at_head (an_entry (S.grouped o a g z)) (in_group true g))) (λ d. behind (an_entry (S.grouped o a g z)) (in_group true g) (kept_group g d))

    pub kept_key : (t : S.MemberKey) → Contains (in_key false t) q → Contains (in_key true t) q
    kept_key (S.type_key r u a) c = kept_type1 true r c
    kept_key (S.bareword n z) c = none_in c
    kept_key (S.value_key v z) c = none_in c

-- a site in an argument is one of all
module _ (q p : Site) (f : S.Ref) (x : S.Type1) (k : ℕ) (h : ref_at_site q ≡ Some f) (w : slice_get (arguments f) k ≡ Some x) (i : Contains (in_type1 true true x) p) where
  mutual
    pub within_types : (b : Bool) (t : S.Types) → Contains (in_types true b t) q → Contains (in_types true b t) p
    within_types b (S.only r) c = within_type1 b r c
    within_types b (S.or t s r) c = on_both (in_types true true t) (in_type1 true true r) q c (λ d. Contains-append_left (in_types true true t) (in_type1 true true r) p (within_types true t d)) (λ d. Contains-append_right (in_types true true t) (in_type1 true true r) p (within_type1 true r d))

    pub within_type1 : (b : Bool) (t : S.Type1) → Contains (in_type1 true b t) q → Contains (in_type1 true b t) p
    within_type1 b (S.one x) c = within_type2 b x c
    within_type1 b (S.operation x o y) c = on_cons (an_operation x o y) (in_type2 true true x ++ in_type2 true true y) q c (λ e. some_is_none (ap ref_at_site e ∙ h)) (λ d. behind (an_operation x o y) (in_type2 true true x ++ in_type2 true true y) (on_both (in_type2 true true x) (in_type2 true true y) q d (λ d. Contains-append_left (in_type2 true true x) (in_type2 true true y) p (within_type2 true x d)) (λ d. Contains-append_right (in_type2 true true x) (in_type2 true true y) p (within_type2 true y d))))

    pub within_type2 : (b : Bool) (t : S.Type2) → Contains (in_type2 true b t) q → Contains (in_type2 true b t) p
    within_type2 b (S.literal v) c = none_in c
    within_type2 b (S.typename r) c = on_cons (a_name b r) (in_ref true r) q c (λ e. behind (a_name b r) (in_ref true r) (of_ref r k x (subst (λ g. slice_get (arguments g) k ≡ Some x) (same_some (sym h ∙ sym (ap ref_at_site e))) w) i)) (λ d. behind (a_name b r) (in_ref true r) (within_ref r d))
    within_type2 b (S.parens o t z) c = within_types b t c
    within_type2 b (S.map_of o g z) c = on_cons (a_map o g) (in_group true g) q c (λ e. some_is_none (ap ref_at_site e ∙ h)) (λ d. behind (a_map o g) (in_group true g) (within_group g d))
    within_type2 b (S.array_of o g z) c = within_group g c
    within_type2 b (S.unwrapped u r) c = on_cons (an_unwrapping b u r) (in_ref true r) q c (λ e. behind (an_unwrapping b u r) (in_ref true r) (of_ref r k x (subst (λ g. slice_get (arguments g) k ≡ Some x) (same_some (sym h ∙ sym (ap ref_at_site e))) w) i)) (λ d. behind (an_unwrapping b u r) (in_ref true r) (within_ref r d))
    within_type2 b (S.choice_of a o g z) c = on_cons (a_choice_of a g) (in_group true g) q c (λ e. some_is_none (ap ref_at_site e ∙ h)) (λ d. behind (a_choice_of a g) (in_group true g) (within_group g d))
    within_type2 b (S.choice_of_name a r) c = on_cons (a_choice_of_name a r) (in_ref true r) q c (λ e. behind (a_choice_of_name a r) (in_ref true r) (of_ref r k x (subst (λ g. slice_get (arguments g) k ≡ Some x) (same_some (sym h ∙ sym (ap ref_at_site e))) w) i)) (λ d. behind (a_choice_of_name a r) (in_ref true r) (within_ref r d))
    within_type2 b (S.tagged o t z) c = within_types true t c
    within_type2 b (S.tagged_by o t a l u z) c = on_both (in_types true true t) (in_types true true u) q c (λ d. Contains-append_left (in_types true true t) (in_types true true u) p (within_types true t d)) (λ d. Contains-append_right (in_types true true t) (in_types true true u) p (within_types true u d))
    within_type2 b (S.simple_by o t z) c = within_types true t c
    within_type2 b (S.hash t) c = on_cons (a_hash t) [] q c (λ e. some_is_none (ap ref_at_site e ∙ h)) (λ d. none_in d)

    pub within_ref : (r : S.Ref) → Contains (in_ref true r) q → Contains (in_ref true r) p
    within_ref (S.name t) c = none_in c
    within_ref (S.applied o a z) c = within_arguments a c

    pub within_arguments : (a : S.GenericArg) → Contains (in_arguments true a) q → Contains (in_arguments true a) p
    within_arguments (S.argument r) c = within_type1 true r c
    within_arguments (S.arguments a z r) c = on_both (in_arguments true a) (in_type1 true true r) q c (λ d. Contains-append_left (in_arguments true a) (in_type1 true true r) p (within_arguments a d)) (λ d. Contains-append_right (in_arguments true a) (in_type1 true true r) p (within_type1 true r d))

    pub within_group : (t : S.Group) → Contains (in_group true t) q → Contains (in_group true t) p
    within_group (S.sole es) c = within_entries es c
    within_group (S.orelse g s es) c = on_both (in_group true g) (in_entries true es) q c (λ d. Contains-append_left (in_group true g) (in_entries true es) p (within_group g d)) (λ d. Contains-append_right (in_group true g) (in_entries true es) p (within_entries es d))

    pub within_entries : (t : S.GrpChoice) → Contains (in_entries true t) q → Contains (in_entries true t) p
    within_entries S.no_entries c = none_in c
    within_entries (S.entries es e z) c = on_both (in_entries true es) (in_entry true e) q c (λ d. Contains-append_left (in_entries true es) (in_entry true e) p (within_entries es d)) (λ d. Contains-append_right (in_entries true es) (in_entry true e) p (within_entry e d))

    pub within_entry : (t : S.GrpEnt) → Contains (in_entry true t) q → Contains (in_entry true t) p
    within_entry (S.typed o t) c = on_cons (an_entry (S.typed o t)) (in_types true false t) q c (λ e. some_is_none (ap ref_at_site e ∙ h)) (λ d. behind (an_entry (S.typed o t)) (in_types true false t) (within_types false t d))
    within_entry (S.keyed o k t) c = on_cons (an_entry (S.keyed o k t)) (in_key true k ++ in_types true true t) q c (λ e. some_is_none (ap ref_at_site e ∙ h)) (λ d. behind (an_entry (S.keyed o k t)) (in_key true k ++ in_types true true t) (on_both (in_key true k) (in_types true true t) q d (λ d. Contains-append_left (in_key true k) (in_types true true t) p (within_key k d)) (λ d. Contains-append_right (in_key true k) (in_types true true t) p (within_types true t d))))
    within_entry (S.grouped o a g z) c = on_cons (an_entry (S.grouped o a g z)) (in_group true g) q c (λ e. some_is_none (ap ref_at_site e ∙ h)) (λ d. behind (an_entry (S.grouped o a g z)) (in_group true g) (within_group g d))

    pub within_key : (t : S.MemberKey) → Contains (in_key true t) q → Contains (in_key true t) p
    within_key (S.type_key r u a) c = within_type1 true r c
    within_key (S.bareword n z) c = none_in c
    within_key (S.value_key v z) c = none_in c
