-- What holds of all points of a term holds of those of its parts.
use Rattle.std.proofs.Common.{List, [], ◌∷◌, ◌++◌, inl, inr, refl}
use Rattle.std.specs.Prelude.{Contains}
use Rattle.lists.proofs.Lemmas.{from_contains, in_cases, in_left, in_right, to_contains}
use Rattle.cddl_language.specs.Reach.{Point, entries_points, group_points}
use Rattle.cddl_language.specs.Terms.{Entries, Group, sole, orelse, alternatives}

-- the points of all these alternatives
abbrev pub all_points : List Entries → List Point
all_points [] = []
all_points (es ∷ ess) = entries_points es ++ all_points ess

module _ (H : Point → Type 0) where
  abbrev pub AllStand : List Point → Type 0
  AllStand ps = (p : Point) → Contains ps p → H p

  pub one_stands : (p : Point) → AllStand (p ∷ []) → H p
  one_stands p h = h p (to_contains (p ∷ []) p (inl refl))

  pub left_stand : (ps qs : List Point) → AllStand (ps ++ qs) → AllStand ps
  left_stand ps qs h p c = h p (to_contains (ps ++ qs) p (in_left ps qs p (from_contains ps p c)))

  pub right_stand : (ps qs : List Point) → AllStand (ps ++ qs) → AllStand qs
  right_stand ps qs h p c = h p (to_contains (ps ++ qs) p (in_right ps qs p (from_contains qs p c)))

  both_stand : (ps qs : List Point) → AllStand ps → AllStand qs → AllStand (ps ++ qs)
  both_stand ps qs h k p c = elim (in_cases ps qs p (from_contains (ps ++ qs) p c)) [ inl i ↦ h p (to_contains ps p i) | inr i ↦ k p (to_contains qs p i) ]

  pub none_stand : AllStand []
  none_stand p c = absurd (from_contains [] p c)

  both_groups : (xs ys : List Entries) → AllStand (all_points xs) → AllStand (all_points ys) → AllStand (all_points (xs ++ ys))
  both_groups [] ys h k = k
  both_groups (x ∷ xs) ys h k = both_stand (entries_points x) (all_points (xs ++ ys)) (left_stand (entries_points x) (all_points xs) h) (both_groups xs ys (right_stand (entries_points x) (all_points xs) h) k)

  -- of the alternatives of a group
  pub group_stand : (g : Group) → AllStand (group_points g) → AllStand (all_points (alternatives g))
  group_stand (sole es) h = both_stand (entries_points es) [] h none_stand
  group_stand (orelse g es) h = both_groups (alternatives g) (es ∷ []) (group_stand g (left_stand (group_points g) (entries_points es) h)) (both_stand (entries_points es) [] (right_stand (group_points g) (entries_points es) h) none_stand)

  -- of each of these alternatives
  pub all_stand : (ess : List Entries) → ((es : Entries) → Contains ess es → AllStand (entries_points es)) → AllStand (all_points ess)
  all_stand [] h = none_stand
  all_stand (es ∷ ess) h = both_stand (entries_points es) (all_points ess) (h es (to_contains (es ∷ ess) es (inl refl))) (all_stand ess (λ fs c. h fs (to_contains (es ∷ ess) fs (inr (from_contains ess fs c)))))
