-- What is free in what an instance means is an instance, too.
use Rattle.std.proofs.Common.{◌≡◌, inl, inr, List, [], ◌∷◌, ◌++◌, Some, sym, subst}
use Rattle.std.specs.Prelude.{Contains}
use Rattle.lists.proofs.Lemmas.{IsIn}
use Rattle.cddl_language.specs.Terms.{Text, Term, Ref, Group, Entries, Entry, Definition, alternatives}
use Rattle.cddl_language.specs.Substitution.{group_choices, type_choices}
use Rattle.cddl_language.specs.Kinds.{opens_group, opens_type, opened, names_group, opens, part_of}
use Rattle.cddl_language.specs.Reach.{Point, Reaches, at_choice, at_chosen_name, at_name, at_opened_choice, at_unwrapping, entries_points, entry_points, group_points, key_points, points, ref_at}
use Rattle.cddl_language.specs.Free as F
use Rattle.cddl_language.specs.Free.{IsFree, IsFreeInSome, IsFreeInEach, IsFreeInEntry, IsFreeInChoice, IsFreeInChosen, IsFreeInChosenEntry, IsFreeInMeaning}
use Rattle.check_instances.specs.Closed.Closed.{AreReached}
use Rattle.cddl_decided.proofs.Points.{all_points, all_stand, group_stand, left_stand, none_stand, one_stands, right_stand}

-- the references in what an instance means or opens, and in what an entry names or opens
pub record AreInstancesOn (ds : List Definition) (root : Text) : Type 0 where
  pub types : (r : Ref) (t : Term) → Reaches ds root r → Contains (type_choices ds r) t → AreReached ds root (points t)
  pub group : (r : Ref) (es : Entries) → Reaches ds root r → Contains (group_choices ds r) es → AreReached ds root (entries_points es)
  pub opened_group : (r : Ref) (g : Group) → Reaches ds root r → opened ds r ≡ Some (opens_group g) → AreReached ds root (group_points g)
  pub content : (r : Ref) (t : Term) → Reaches ds root r → opened ds r ≡ Some (opens_type t) → AreReached ds root (points t)
  pub named : (t : Term) (r : Ref) → AreReached ds root (points t) → part_of ds t ≡ names_group r → Reaches ds root r
  pub opening : (t : Term) (r : Ref) (g : Group) → AreReached ds root (points t) → part_of ds t ≡ opens r g → Reaches ds root r
  pub opened : (t : Term) (r : Ref) (g : Group) → AreReached ds root (points t) → part_of ds t ≡ opens r g → AreReached ds root (group_points g)

-- as the laws of instances have them
pub instances_on : ((ds : List Definition) (root : Text) (r : Ref) (t : Term) → Reaches ds root r → Contains (type_choices ds r) t → AreReached ds root (points t)) → ((ds : List Definition) (root : Text) (r : Ref) (es : Entries) → Reaches ds root r → Contains (group_choices ds r) es → AreReached ds root (entries_points es)) → ((ds : List Definition) (root : Text) (r : Ref) (g : Group) → Reaches ds root r → opened ds r ≡ Some (opens_group g) → AreReached ds root (group_points g)) → ((ds : List Definition) (root : Text) (r : Ref) (t : Term) → Reaches ds root r → opened ds r ≡ Some (opens_type t) → AreReached ds root (points t)) → ((ds : List Definition) (root : Text) (t : Term) (r : Ref) → AreReached ds root (points t) → part_of ds t ≡ names_group r → Reaches ds root r) → ((ds : List Definition) (root : Text) (t : Term) (r : Ref) (g : Group) → AreReached ds root (points t) → part_of ds t ≡ opens r g → Reaches ds root r) → ((ds : List Definition) (root : Text) (t : Term) (r : Ref) (g : Group) → AreReached ds root (points t) → part_of ds t ≡ opens r g → AreReached ds root (group_points g)) → (ds : List Definition) (root : Text) → AreInstancesOn ds root
instances_on types group opened_group content named opening opened ds root = record { types = types ds root; group = group ds root; opened_group = opened_group ds root; content = content ds root; named = named ds root; opening = opening ds root; opened = opened ds root }

module _ (ds : List Definition) (root : Text) where
  abbrev Reached : List Point → Type 0
  Reached ps = AreReached ds root ps

  pub one : (p : Point) → Reached (p ∷ []) → Reaches ds root (ref_at p)
  one p h = one_stands (λ q. Reaches ds root (ref_at q)) p h

  pub left : (ps qs : List Point) → Reached (ps ++ qs) → Reached ps
  left ps qs h = left_stand (λ q. Reaches ds root (ref_at q)) ps qs h

  pub right : (ps qs : List Point) → Reached (ps ++ qs) → Reached qs
  right ps qs h = right_stand (λ q. Reaches ds root (ref_at q)) ps qs h

  pub nothing : Reached []
  nothing = none_stand (λ q. Reaches ds root (ref_at q))

  -- of the alternatives of a group
  pub of_group : (g : Group) → Reached (group_points g) → Reached (all_points (alternatives g))
  of_group g h = group_stand (λ q. Reaches ds root (ref_at q)) g h

  -- of what a name means as a group
  pub of_all : (ess : List Entries) → ((es : Entries) → Contains ess es → Reached (entries_points es)) → Reached (all_points ess)
  of_all ess h = all_stand (λ q. Reaches ds root (ref_at q)) ess h

  -- of one of these alternatives
  pub in_all : (ess : List Entries) (es : Entries) → IsIn es ess → Reached (all_points ess) → Reached (entries_points es)
  in_all [] es i h = absurd i
  in_all (fs ∷ ess) es (inl e) h = subst (λ x. Reached (entries_points x)) (sym e) (left (entries_points fs) (all_points ess) h)
  in_all (fs ∷ ess) es (inr i) h = in_all ess es i (right (entries_points fs) (all_points ess) h)

  module _ (on : AreInstancesOn ds root) where
    moved : (p q : Point) → p ≡ q → Reaches ds root (ref_at q) → Reaches ds root (ref_at p)
    moved p q e h = subst (λ z. Reaches ds root (ref_at z)) (sym e) h

    mutual
      pub free : (p : Point) (t : Term) → IsFree ds p t → Reached (points t) → Reaches ds root (ref_at p)
      free p t (F.name {r = r} e) h = moved p (at_name r) e (one (at_name r) h)
      free p t (F.unwrapping {r = r} e) h = moved p (at_unwrapping r) e (one (at_unwrapping r) h)
      free p t (F.choice_by_name {r = r} e) h = moved p (at_choice r) e (one (at_choice r) h)
      free p t (F.in_parens {t = u} k) h = free p u k h
      free p t (F.in_first {t = u} {u = v} k) h = free p u k (left (points u) (points v) h)
      free p t (F.in_second {t = u} {u = v} k) h = free p v k (right (points u) (points v) h)
      free p t (F.in_array {g = g} k) h = some p (alternatives g) k (of_group g h)
      free p t (F.in_choice {g = g} k) h = choice p (alternatives g) k (of_group g h)
      free p t (F.in_head {h = u} k) h = free p u k h
      free p t (F.in_left {a = a} {b = b} k) h = free p a k (left (points a) (points b) h)
      free p t (F.in_controller {a = a} {b = b} n k) h = free p b k (right (points a) (points b) h)

      pub some : (p : Point) (ess : List Entries) → IsFreeInSome ds p ess → Reached (all_points ess) → Reaches ds root (ref_at p)
      some p ess (F.in_this {es = es} {ess = fss} k) h = each p es k (left (entries_points es) (all_points fss) h)
      some p ess (F.in_later {es = es} {ess = fss} k) h = some p fss k (right (entries_points es) (all_points fss) h)

      pub each : (p : Point) (es : Entries) → IsFreeInEach ds p es → Reached (entries_points es) → Reaches ds root (ref_at p)
      each p es (F.in_last {es = fs} {e = x} m k) h = entry p x k (right (entries_points fs) (entry_points x) h)
      each p es (F.in_earlier {es = fs} {e = x} k) h = each p fs k (left (entries_points fs) (entry_points x) h)

      pub entry : (p : Point) (x : Entry) → IsFreeInEntry ds p x → Reached (entry_points x) → Reaches ds root (ref_at p)
      entry p x (F.group_name {t = t} {r = r} e k) h = moved p (at_name r) k (on.named t r h e)
      entry p x (F.group_opened {t = t} {r = r} {g = g} e k) h = moved p (at_unwrapping r) k (on.opening t r g h e)
      entry p x (F.in_group {g = g} k) h = some p (alternatives g) k (of_group g h)

      pub choice : (p : Point) (ess : List Entries) → IsFreeInChoice ds p ess → Reached (all_points ess) → Reaches ds root (ref_at p)
      choice p ess (F.of_this {es = es} {ess = fss} k) h = chosen p es k (left (entries_points es) (all_points fss) h)
      choice p ess (F.of_later {es = es} {ess = fss} k) h = choice p fss k (right (entries_points es) (all_points fss) h)

      chosen : (p : Point) (es : Entries) → IsFreeInChosen ds p es → Reached (entries_points es) → Reaches ds root (ref_at p)
      chosen p es (F.of_last {es = fs} {e = x} k) h = chosen_entry p x k (right (entries_points fs) (entry_points x) h)
      chosen p es (F.of_earlier {es = fs} {e = x} k) h = chosen p fs k (left (entries_points fs) (entry_points x) h)

      chosen_entry : (p : Point) (x : Entry) → IsFreeInChosenEntry ds p x → Reached (entry_points x) → Reaches ds root (ref_at p)
      chosen_entry p x (F.of_type {t = t} e k) h = free p t k h
      chosen_entry p x (F.of_name {t = t} {r = r} e k) h = moved p (at_chosen_name r) k (on.named t r h e)
      chosen_entry p x (F.of_opened {t = t} {r = r} {g = g} e k) h = moved p (at_opened_choice r) k (on.opening t r g h e)
      chosen_entry p x (F.of_keyed {k = key} {t = t} k) h = free p t k (right (key_points key) (points t) h)
      chosen_entry p x (F.of_group {g = g} k) h = choice p (alternatives g) k (of_group g h)

    pub goes_on : (p q : Point) → IsFreeInMeaning ds q p → Reaches ds root (ref_at p) → Reaches ds root (ref_at q)
    goes_on p q (F.by_type {r = r} {t = t} e c k) h = free q t k (on.types r t h c)
    goes_on p q (F.by_group {r = r} e k) h = some q (group_choices ds r) k (of_all (group_choices ds r) (λ es c. on.group r es h c))
    goes_on p q (F.by_opened_group {r = r} {g = g} e k) h = some q (alternatives g) k (of_group g (on.opened_group r g h e))
    goes_on p q (F.by_content {r = r} {t = t} e k) h = free q t k (on.content r t h e)
    goes_on p q (F.by_choice {r = r} e) h = moved q (at_chosen_name r) e h
    goes_on p q (F.by_chosen_name {r = r} c k) h = choice q (group_choices ds r) k (of_all (group_choices ds r) (λ es c. on.group r es h c))
    goes_on p q (F.by_opened_choice {r = r} {g = g} e c k) h = choice q (alternatives g) k (of_group g (on.opened_group r g h e))
