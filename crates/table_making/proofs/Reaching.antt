-- Points that are all reached.
use Rattle.std.proofs.Common.{◌≡◌, ℕ, List, [], ◌∷◌, ◌++◌, Some, inl, inr, slice_get}
use Rattle.std.specs.Prelude.{Contains}
use Rattle.std.proofs.lemmas.List.Elements.{Contains-append_left, Contains-append_right, Contains-append_cases}
use Rattle.lists.proofs.Lemmas.{at_head as head_in, contains_at, later as tail_in, none_in}
use Rattle.cddl_language.specs.Terms.{Ref, Group, sole, orelse, Entries, alternatives}
use Rattle.cddl_language.specs.Reach.{Point, Reaches, ref_at, group_points, entries_points}
use Rattle.table_making.specs.Basis.{Sense}
use Rattle.table_making.specs.Origins.{IsReached, all_points}

module _ (s : Sense) where
  pub reached_none : IsReached s []
  reached_none p h = absurd (none_in p h)

  pub reached_left : (ps qs : List Point) → IsReached s (ps ++ qs) → IsReached s ps
  reached_left ps qs f p h = f p (Contains-append_left ps qs p h)

  pub reached_right : (ps qs : List Point) → IsReached s (ps ++ qs) → IsReached s qs
  reached_right ps qs f p h = f p (Contains-append_right ps qs p h)

  pub reached_both : (ps qs : List Point) → IsReached s ps → IsReached s qs → IsReached s (ps ++ qs)
  reached_both ps qs f g p h = elim (Contains-append_cases ps qs p h) [ inl l ↦ f p l | inr r ↦ g p r ]

  -- a lone reference
  pub reached_one : (p : Point) → IsReached s (p ∷ []) → Reaches s.definitions s.root (ref_at p)
  reached_one p f = f p (head_in p [])

  pub all_reached : (ess : List Entries) → ((es : Entries) → Contains ess es → IsReached s (entries_points es)) → IsReached s (all_points ess)
  all_reached [] f = reached_none
  all_reached (es ∷ ess) f = reached_both (entries_points es) (all_points ess) (f es (head_in es ess)) (all_reached ess (λ us h. f us (tail_in es ess us h)))

  all_appended : (ess uss : List Entries) → IsReached s (all_points ess) → IsReached s (all_points uss) → IsReached s (all_points (ess ++ uss))
  all_appended [] uss f g = g
  all_appended (es ∷ ess) uss f g = reached_both (entries_points es) (all_points (ess ++ uss)) (reached_left (entries_points es) (all_points ess) f) (all_appended ess uss (reached_right (entries_points es) (all_points ess) f) g)

  -- those of a group are those of its alternatives
  pub group_reached : (g : Group) → IsReached s (group_points g) → IsReached s (all_points (alternatives g))
  group_reached (sole es) f = reached_both (entries_points es) [] f reached_none
  group_reached (orelse g es) f = all_appended (alternatives g) (es ∷ []) (group_reached g (reached_left (group_points g) (entries_points es) f)) (reached_both (entries_points es) [] (reached_right (group_points g) (entries_points es) f) reached_none)

pub instance_reached : (s : Sense) → ((r : Ref) → Contains s.refs r → Reaches s.definitions s.root r) → (k : ℕ) (r : Ref) → slice_get s.refs k ≡ Some r → Reaches s.definitions s.root r
instance_reached s only k r e = only r (contains_at s.refs k r e)
