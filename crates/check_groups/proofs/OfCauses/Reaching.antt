-- What stands in the alternatives of an instance is reached.
use Rattle.std.proofs.Common.{◌⊎◌, inl, inr, List, [], ◌∷◌, ◌++◌, Some, None, refl, subst}
use Rattle.std.specs.Prelude.{Contains}
use Rattle.lists.proofs.Lemmas.{IsIn, from_contains, from_flat, in_cases, in_left, in_right, to_contains, to_flat}
use Rattle.cddl_language.specs.Terms.{Text, Ref, Group, sole, orelse, Entries, typed, keyed, grouped, Body, of_types, of_entry, Definition, alternatives}
use Rattle.cddl_language.specs.Substitution.{bodies, body_alternatives, group_choices}
use Rattle.cddl_language.specs.Reach.{Point, Reaches, onward, ref_at, group_points, entries_points, body_points, points_in}
use Rattle.check_instances.specs.Closed.Closed.{AreReached}

-- points of an alternative are those of the group
pub in_group : (g : Group) (es : Entries) (p : Point) → IsIn es (alternatives g) → IsIn p (entries_points es) → IsIn p (group_points g)
in_group (sole fs) es p (inl e) h = subst (λ x. IsIn p (entries_points x)) e h
in_group (sole fs) es p (inr k) h = absurd k
in_group (orelse g fs) es p i h = by (in_cases (alternatives g) (fs ∷ []) es i) (λ k. in_group g es p k h)
  where
    by : IsIn es (alternatives g) ⊎ IsIn es (fs ∷ []) → (IsIn es (alternatives g) → IsIn p (group_points g)) → IsIn p (group_points g ++ entries_points fs)
    by (inl k) r = in_left (group_points g) (entries_points fs) p (r k)
    by (inr (inl e)) r = in_right (group_points g) (entries_points fs) p (subst (λ x. IsIn p (entries_points x)) e h)
    by (inr (inr k)) r = absurd k

in_body : (b : Body) (es : Entries) (p : Point) → IsIn es (body_alternatives b) → IsIn p (entries_points es) → IsIn p (body_points b)
in_body (of_types t) es p (inl e) h = subst (λ x. IsIn p (entries_points x)) e h
in_body (of_types t) es p (inr k) h = absurd k
in_body (of_entry (grouped None g)) es p i h = in_group g es p i h
in_body (of_entry (grouped (Some o) g)) es p (inl e) h = subst (λ x. IsIn p (entries_points x)) e h
in_body (of_entry (grouped (Some o) g)) es p (inr k) h = absurd k
in_body (of_entry (typed o t)) es p (inl e) h = subst (λ x. IsIn p (entries_points x)) e h
in_body (of_entry (typed o t)) es p (inr k) h = absurd k
in_body (of_entry (keyed o q t)) es p (inl e) h = subst (λ x. IsIn p (entries_points x)) e h
in_body (of_entry (keyed o q t)) es p (inr k) h = absurd k

module _ (xs : List Definition) (root : Text) where
  pub choices_reached : (r : Ref) → Reaches xs root r → (es : Entries) → IsIn es (group_choices xs r) → AreReached xs root (entries_points es)
  choices_reached r h es i p c =
      let b = from_flat body_alternatives (bodies xs r) es i in
      let k = in_body b.0 es p b.2 (from_contains (entries_points es) p c) in
      onward h (to_contains (points_in xs r) p (to_flat body_points (bodies xs r) b.0 p b.1 k)) refl

  -- Where each alternative of a group is reached, the group is.
  pub group_reached : (g : Group) → ((es : Entries) → IsIn es (alternatives g) → AreReached xs root (entries_points es)) → AreReached xs root (group_points g)
  group_reached (sole es) f p c = f es (inl refl) p c
  group_reached (orelse g es) f p c = by (in_cases (group_points g) (entries_points es) p (from_contains (group_points g ++ entries_points es) p c)) (λ d. group_reached g (λ fs i. f fs (in_left (alternatives g) (es ∷ []) fs i)) p d)
    where
      by : IsIn p (group_points g) ⊎ IsIn p (entries_points es) → (Contains (group_points g) p → Reaches xs root (ref_at p)) → Reaches xs root (ref_at p)
      by (inl k) r = r (to_contains (group_points g) p k)
      by (inr k) r = f es (in_right (alternatives g) (es ∷ []) es (inl refl)) p (to_contains (entries_points es) p k)

  -- The parts of what is reached.

  pub left_reached : (ps qs : List Point) → AreReached xs root (ps ++ qs) → AreReached xs root ps
  left_reached ps qs h p c = h p (to_contains (ps ++ qs) p (in_left ps qs p (from_contains ps p c)))

  pub right_reached : (ps qs : List Point) → AreReached xs root (ps ++ qs) → AreReached xs root qs
  right_reached ps qs h p c = h p (to_contains (ps ++ qs) p (in_right ps qs p (from_contains qs p c)))
