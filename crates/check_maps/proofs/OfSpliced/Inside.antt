-- What stands in an entry stands in the group round it; and lists.
use Rattle.std.proofs.Common.{◌≡◌, ℕ, zero, suc, List, [], ◌∷◌, Some, None, sym, ap, subst, arith, slice_get}
use Rattle.std.specs.Prelude.{Contains}
use Rattle.std.proofs.lemmas.List.Elements.{Contains-append_left, Contains-append_right}
use Rattle.lists.proofs.Lemmas.{beyond_zero, on_both}
use Rattle.tree_nodes.specs.Syntax.Syntax as S
use Rattle.cddl_language.specs.Reach.{Point, body_points, entries_points, entry_points, group_points, points}
use Rattle.cddl_language.specs.Reading.{body_of, entries_of, entry_of, group_of, term_of}
use Rattle.cddl_language.specs.Substitution.{fill, fill_body, fill_entries, fill_entry, fill_group}
use Rattle.cddl_language.specs.Terms.{Term, Text}
use Rattle.check_sites.specs.Entries.Entries.{bare_types, choice_inside, entry_inside, group_inside, rule_inside}

pub none_in : {X C : Type 0} {x : X} → Contains [] x → C
none_in c = absurd (beyond_zero c.0 c.1)

pub behind : {X : Type 0} (x : X) (xs : List X) {y : X} → Contains xs y → Contains (x ∷ xs) y
behind x xs (k, h, e) = (suc k, omega arith, e)

pub on_cons : {X C : Type 0} (x : X) (xs : List X) (y : X) → Contains (x ∷ xs) y → (x ≡ y → C) → (Contains xs y → C) → C
on_cons x xs y (zero, h, e) f g = f e
on_cons x xs y (suc k, h, e) f g = g (k, omega arith, e)

pub only_one : {X C : Type 0} (x y : X) → Contains (x ∷ []) y → (x ≡ y → C) → C
only_one x y c f = on_cons x [] y c f (λ d. none_in d)

pub place_in : {A : Type 0} (xs : List A) (x : A) → Contains xs x → (k : ℕ) × (slice_get xs k ≡ Some x)
place_in [] x c = none_in c
place_in (y ∷ ys) x c = on_cons y ys x c (λ e. (zero, ap Some e)) (λ d. let w = place_in ys x d in (suc w.0, w.1))

module _ (ps : List Text) (xs : List Term) (e : S.GrpEnt) (p : Point) (h : Contains (entry_points (fill_entry ps xs (entry_of e))) p) where
  here : (d : S.GrpEnt) → d ≡ e → Contains (entry_points (fill_entry ps xs (entry_of d))) p
  here d same = subst (λ z. Contains (entry_points (fill_entry ps xs (entry_of z))) p) (sym same) h

  mutual
    pub points_group : (g : S.Group) → Contains (group_inside g) e → Contains (group_points (fill_group ps xs (group_of g))) p
    points_group (S.sole es) c = points_choice es c
    points_group (S.orelse g s es) c = on_both (group_inside g) (choice_inside es) e c (λ d. Contains-append_left (group_points (fill_group ps xs (group_of g))) (entries_points (fill_entries ps xs (entries_of es))) p (points_group g d)) (λ d. Contains-append_right (group_points (fill_group ps xs (group_of g))) (entries_points (fill_entries ps xs (entries_of es))) p (points_choice es d))

    pub points_choice : (es : S.GrpChoice) → Contains (choice_inside es) e → Contains (entries_points (fill_entries ps xs (entries_of es))) p
    points_choice S.no_entries c = none_in c
    points_choice (S.entries es d z) c = on_both (choice_inside es) (entry_inside d) e c (λ k. Contains-append_left (entries_points (fill_entries ps xs (entries_of es))) (entry_points (fill_entry ps xs (entry_of d))) p (points_choice es k)) (λ k. Contains-append_right (entries_points (fill_entries ps xs (entries_of es))) (entry_points (fill_entry ps xs (entry_of d))) p (points_entry d k))

    pub points_entry : (d : S.GrpEnt) → Contains (entry_inside d) e → Contains (entry_points (fill_entry ps xs (entry_of d))) p
    points_entry (S.typed o t) c = only_one (S.typed o t) e c (here (S.typed o t))
    points_entry (S.keyed o k t) c = only_one (S.keyed o k t) e c (here (S.keyed o k t))
    points_entry (S.grouped o a g z) c = on_cons (S.grouped o a g z) (group_inside g) e c (here (S.grouped o a g z)) (λ d. points_group g d)

  pub points_rule : (r : S.Rule) → Contains (rule_inside r) e → Contains (body_points (fill_body ps xs (body_of r))) p
  points_rule (S.type_rule n a t) c = only_one (S.typed None t) e c (here (S.typed None t))
  points_rule (S.group_rule n a (S.grouped None q g z)) c = points_group g c
  points_rule (S.group_rule n a (S.grouped (Some o) q g z)) c = points_entry (S.grouped (Some o) q g z) c
  points_rule (S.group_rule n a (S.typed o t)) c = points_entry (S.typed o t) c
  points_rule (S.group_rule n a (S.keyed o k t)) c = points_entry (S.keyed o k t) c

-- what stands in the group of a map or an array stands in the type that it is
pub points_bare : (ps : List Text) (xs : List Term) (p : Point) (g : S.Group) (t : S.Types) → bare_types t ≡ Some g → Contains (group_points (fill_group ps xs (group_of g))) p → Contains (points (fill ps xs (term_of t))) p
points_bare ps xs p g (S.or t s x) e c = cc
points_bare ps xs p g (S.only (S.operation x o y)) e c = cc
points_bare ps xs p g (S.only (S.one (S.parens o t z))) e c = points_bare ps xs p g t e c
points_bare ps xs p g (S.only (S.one (S.map_of o h z))) e c = subst (λ k. Contains (group_points (fill_group ps xs (group_of k))) p) same c
  where
    same : g ≡ h
    same = cc
points_bare ps xs p g (S.only (S.one (S.array_of o h z))) e c = subst (λ k. Contains (group_points (fill_group ps xs (group_of k))) p) same c
  where
    same : g ≡ h
    same = cc
points_bare ps xs p g (S.only (S.one (S.literal v))) e c = cc
points_bare ps xs p g (S.only (S.one (S.typename r))) e c = cc
points_bare ps xs p g (S.only (S.one (S.unwrapped u r))) e c = cc
points_bare ps xs p g (S.only (S.one (S.choice_of a o h z))) e c = cc
points_bare ps xs p g (S.only (S.one (S.choice_of_name a r))) e c = cc
points_bare ps xs p g (S.only (S.one (S.tagged o t z))) e c = cc
points_bare ps xs p g (S.only (S.one (S.tagged_by o h a q t z))) e c = cc
points_bare ps xs p g (S.only (S.one (S.simple_by o h z))) e c = cc
points_bare ps xs p g (S.only (S.one (S.hash t))) e c = cc
