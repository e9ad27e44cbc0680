-- What is asked of a specification from an instance on has instances alone in it.
use Rattle.std.proofs.Common.{◌≡◌, inl, inr, List, [], ◌∷◌, ◌++◌, Some, refl, subst}
use Rattle.std.specs.Prelude.{Contains}
use Rattle.cddl_language.specs.Terms.{Text, Term, Ref, Group, Definition, alternatives}
use Rattle.cddl_language.specs.Substitution.{group_choices, type_choices}
use Rattle.cddl_language.specs.Kinds.{opens_group, opens_type, opened, names_group, opens, part_of}
use Rattle.cddl_language.specs.Reach.{Point, Reaches, at_choice, at_chosen_name, at_name, at_opened_choice, at_unwrapping, entries_points, entry_points, group_points, key_points, points, ref_at}
use Rattle.check_instances.specs.Closed.Closed.{AreReached}
use Rattle.check_recursion.specs.Asking as A
use Rattle.check_recursion.specs.Asking.{Asked, Asks, IsReached}
use Rattle.check_recursion.proofs.Freely.{In, in_list, contained, in_front, in_back}

module _ (ds : List Definition) (root : Text) where
  -- the references in what an instance means or opens, and in what an entry names or opens
  pub record AreInstancesOn : Type 0 where
    pub types : (r : Ref) (t : Term) → Reaches ds root r → Contains (type_choices ds r) t → AreReached ds root (points t)
    pub group : (r : Ref) (g : Group) → Reaches ds root r → alternatives g ≡ group_choices ds r → AreReached ds root (group_points g)
    pub opened_group : (r : Ref) (g : Group) → Reaches ds root r → opened ds r ≡ Some (opens_group g) → AreReached ds root (group_points g)
    pub content : (r : Ref) (t : Term) → Reaches ds root r → opened ds r ≡ Some (opens_type t) → AreReached ds root (points t)
    pub named : (t : Term) (r : Ref) → AreReached ds root (points t) → part_of ds t ≡ names_group r → Reaches ds root r
    pub opening : (t : Term) (r : Ref) (g : Group) → AreReached ds root (points t) → part_of ds t ≡ opens r g → Reaches ds root r

  pub lone : (p : Point) → Reaches ds root (ref_at p) → AreReached ds root (p ∷ [])
  lone p h q c = by (in_list (p ∷ []) q c)
    where
      by : In (p ∷ []) q → Reaches ds root (ref_at q)
      by (inl e) = subst (λ x. Reaches ds root (ref_at x)) e h
      by (inr i) = absurd i

  pub first : (p : Point) → AreReached ds root (p ∷ []) → Reaches ds root (ref_at p)
  first p h = h p (contained (p ∷ []) p (inl refl))

  pub front : (ps qs : List Point) → AreReached ds root (ps ++ qs) → AreReached ds root ps
  front ps qs h p c = h p (contained (ps ++ qs) p (in_front ps qs p (in_list ps p c)))

  back : (ps qs : List Point) → AreReached ds root (ps ++ qs) → AreReached ds root qs
  back ps qs h p c = h p (contained (ps ++ qs) p (in_back ps qs p (in_list qs p c)))

  pub reached : AreInstancesOn → (a b : Asked) → Asks ds a b → IsReached ds root a → IsReached ds root b
  reached on a b A.by_name h = h
  reached on a b A.by_unwrapping h = h
  reached on a b A.by_choice h = h
  reached on a b A.in_parens h = h
  reached on a b (A.in_first {t = t} {u = u}) h = front (points t) (points u) h
  reached on a b (A.in_second {t = t} {u = u}) h = back (points t) (points u) h
  reached on a b A.in_array h = h
  reached on a b A.in_choice h = h
  reached on a b A.in_head h = h
  reached on a b (A.in_left {a = x} {b = y}) h = front (points x) (points y) h
  reached on a b (A.in_controller {a = x} {b = y} n) h = back (points x) (points y) h
  reached on a b A.sole_entries h = h
  reached on a b (A.other_alternatives {g = g} {es = es}) h = front (group_points g) (entries_points es) h
  reached on a b (A.last_alternative {g = g} {es = es}) h = back (group_points g) (entries_points es) h
  reached on a b (A.earlier_entries {es = es} {e = x}) h = front (entries_points es) (entry_points x) h
  reached on a b (A.last_entry {es = es} {e = x} m) h = back (entries_points es) (entry_points x) h
  reached on a b (A.group_name {t = t} {r = r} e) h = lone (at_name r) (on.named t r h e)
  reached on a b (A.group_opened {t = t} {r = r} {g = g} e) h = lone (at_unwrapping r) (on.opening t r g h e)
  reached on a b A.in_group h = h
  reached on a b A.chosen_sole h = h
  reached on a b (A.chosen_others {g = g} {es = es}) h = front (group_points g) (entries_points es) h
  reached on a b (A.chosen_alternative {g = g} {es = es}) h = back (group_points g) (entries_points es) h
  reached on a b (A.chosen_earlier {es = es} {e = x}) h = front (entries_points es) (entry_points x) h
  reached on a b (A.chosen_last {es = es} {e = x}) h = back (entries_points es) (entry_points x) h
  reached on a b (A.chosen_type e) h = h
  reached on a b (A.chosen_name {t = t} {r = r} e) h = lone (at_chosen_name r) (on.named t r h e)
  reached on a b (A.chosen_opened {t = t} {r = r} {g = g} e) h = lone (at_opened_choice r) (on.opening t r g h e)
  reached on a b (A.chosen_keyed {k = k} {t = t}) h = back (key_points k) (points t) h
  reached on a b A.chosen_inner h = h
  reached on a b (A.means_type {r = r} {t = t} e c) h = on.types r t (first (at_name r) h) c
  reached on a b (A.means_group {r = r} {g = g} e f) h = on.group r g (first (at_name r) h) f
  reached on a b (A.opens_a_group {r = r} {g = g} e) h = on.opened_group r g (first (at_unwrapping r) h) e
  reached on a b (A.opens_content {r = r} {t = t} e) h = on.content r t (first (at_unwrapping r) h) e
  reached on a b (A.chooses_by_name {r = r}) h = lone (at_chosen_name r) (first (at_choice r) h)
  reached on a b (A.chooses {r = r} {g = g} f c) h = on.group r g (first (at_chosen_name r) h) f
  reached on a b (A.chooses_opened {r = r} {g = g} e c) h = on.opened_group r g (first (at_opened_choice r) h) e
