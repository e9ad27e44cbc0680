-- The members of a controller are found within as many names as there may be instances.
use Rattle.std.proofs.Common.{◌≡◌, ℕ, zero, suc, ◌<◌, ◌≤◌, Bool, true, false, if◌then◌else◌, List, [], ◌∷◌, Option, Some, None, is_some, refl, sym, ap, subst, ◌∙◌, inl, inr, ◌⊎◌}
use Rattle.std.specs.Prelude.{Contains}
use Rattle.std.proofs.lemmas.Bool.{false≢true}
use Rattle.lists.proofs.Lemmas.{IsIn, either, to_contains}
use Rattle.cddl_language.specs.Controls.{Membership}
use Rattle.cddl_language.specs.Faults.{HasTooManyInstances, Specification, definitions}
use Rattle.cddl_language.specs.Kinds.{Opened, opens_group, opens_type, Part, asks_type, names_group, opens, is_group, is_opened_group, opened, part_of}
use Rattle.cddl_language.specs.Literals.{Values, literal_of}
use Rattle.cddl_language.specs.Numbers.{occurs_once}
use Rattle.cddl_language.specs.Reach.{Point, Reaches, at_choice, at_name, entries_points, entry_points, group_points, key_points, most_instances, points, ref_at}
use Rattle.cddl_language.specs.Sizes.{Behind, a_type, a_group, Sizes, all_sizes, behind_sizes, both_sizes, chosen_sizes, each_sizes, entries_sizes, entry_sizes, group_sizes, members_in, one_size, opens_choices, part_sizes, range_sizes, term_sizes}
use Rattle.cddl_language.specs.Substitution.{group_choices, type_choices}
use Rattle.cddl_language.specs.Terms.{Definition, Entries, no_entries, entries, Entry, typed, keyed, grouped, Group, sole, orelse, Ref, Term, literal, named, parens, choice_of, choice_of_name, range, control, or, Text, name_of}
use Rattle.check_instances.specs.Closed.Closed.{AreReached}
use Rattle.cddl_decided.proofs.Parts.{opened_group}
use Rattle.cddl_decided.proofs.Points.{AllStand, all_points, all_stand, group_stand, left_stand, none_stand, one_stands, right_stand}
use Rattle.cddl_decided.proofs.Reached.{AreInstancesOn}
use Rattle.cddl_decided.proofs.OfBounds.Few.{IsPlaced, Place, few_places, group_of, opened_of, place_by, place_of, type_of}
use Rattle.cddl_decided.proofs.OfBounds.Heights.{IsFirst, finds_more, first_if, first_of_both, is_found, is_low, is_told, not_both}
use Rattle.cddl_decided.proofs.OfBounds.Places.{AreTypes, named_place, opened_alternatives, opened_place}
use Rattle.cddl_decided.proofs.OfBounds.Unsized.{opened_unsized, sizes_before}

one_of_both : (o q p s : Option Sizes) → IsFirst (both_sizes o q) (both_sizes p s) → IsFirst o p ⊎ IsFirst q s
one_of_both o q p s h = first_of_both both_sizes (λ a b. refl) (λ x. refl) (λ a. refl) o q p s h

-- What holds of each point that stands in an instance: it refers to an instance, and where `&` counts, `&name` names a group.
pub record AreStanding (m : Membership) (ds : List Definition) (root : Text) (H : Point → Type 0) : Type 0 where
  pub reached : (p : Point) → H p → Reaches ds root (ref_at p)
  pub chosen : opens_choices m ≡ true → (r : Ref) → H (at_choice r) → is_group ds (name_of r) ≡ true
  pub types : (r : Ref) (t : Term) → Reaches ds root r → Contains (type_choices ds r) t → AllStand H (points t)
  pub group : (r : Ref) (es : Entries) → Reaches ds root r → Contains (group_choices ds r) es → AllStand H (entries_points es)
  pub opened_group : (r : Ref) (g : Group) → Reaches ds root r → opened ds r ≡ Some (opens_group g) → AllStand H (group_points g)

-- those of what is asked for
abbrev sizes_at : List Definition → (Behind → Option Sizes) → Place → Option Sizes
sizes_at ds next (type_of r) = all_sizes next (type_choices ds r)
sizes_at ds next (group_of r) = group_sizes next (group_choices ds r)
sizes_at ds next (opened_of r) = group_sizes next (opened_alternatives (opened ds r))

abbrev StandsBehind : (Point → Type 0) → Behind → Type 0
StandsBehind H (a_type t) = AllStand H (points t)
StandsBehind H (a_group ess) = AllStand H (all_points ess)

module _ (m : Membership) (worth : Values) (ds : List Definition) (root : Text) (H : Point → Type 0) (on : AreInstancesOn ds root) (types : AreTypes ds) (are : AreStanding m ds root H) (p q : Behind → Option Sizes) (unsized : (r : Ref) (g : Group) → opened ds r ≡ Some (opens_group g) → is_some (all_sizes q (type_choices ds r)) ≡ false) where
  abbrev IsBehind : Type 0
  IsBehind = (x : Place) × IsPlaced ds root x × IsFirst (sizes_at ds p x) (sizes_at ds q x)

  all_reached : (ps : List Point) → AllStand H ps → AreReached ds root ps
  all_reached ps h a c = are.reached a (h a c)

  at_type : (r : Ref) → H (at_name r) → (b : Bool) → is_group ds (name_of r) ≡ b → IsFirst (if b then None else all_sizes p (type_choices ds r)) (if b then None else all_sizes q (type_choices ds r)) → IsBehind
  at_type r here true e h = absurd (false≢true h.1)
  at_type r here false e h = (type_of r, (are.reached (at_name r) here, placed), h)
    where
      no_group : (o : Option Opened) → opened ds r ≡ o → is_opened_group o ≡ false
      no_group (Some (opens_group g)) i = absurd (false≢true (sym (unsized r g i) ∙ h.1))
      no_group (Some (opens_type t)) i = refl
      no_group None i = refl

      placed : type_of r ≡ place_of ds r
      placed = sym (ap (λ b. place_by b (is_opened_group (opened ds r)) r) e ∙ ap (λ b. place_by false b r) (no_group (opened ds r) refl))

  at_choice_of : (r : Ref) → H (at_choice r) → (b : Bool) → opens_choices m ≡ b → IsFirst (if b then group_sizes p (group_choices ds r) else None) (if b then group_sizes q (group_choices ds r) else None) → IsBehind
  at_choice_of r here false e h = absurd (false≢true h.1)
  at_choice_of r here true e h = (group_of r, (are.reached (at_choice r) here, sym (ap (λ b. place_by b (is_opened_group (opened ds r)) r) (are.chosen e r here))), h)

  at_part : (t : Term) → AllStand H (points t) → (a : Part) → part_of ds t ≡ a → (IsFirst (term_sizes m worth ds p t) (term_sizes m worth ds q t) → IsBehind) → IsFirst (part_sizes m worth ds p a (term_sizes m worth ds p t)) (part_sizes m worth ds q a (term_sizes m worth ds q t)) → IsBehind
  at_part t here asks_type e by_term h = by_term h
  at_part t here (names_group r) e by_term h = (group_of r, named_place ds root on types t r (all_reached (points t) here) e, h)
  at_part t here (opens r g) e by_term h = (opened_of r, opened_place ds root on types t r g (all_reached (points t) here) e, subst (λ o. IsFirst (group_sizes p (opened_alternatives o)) (group_sizes q (opened_alternatives o))) (sym (opened_group ds t r g e)) h)

  mutual
    at_term : (t : Term) → AllStand H (points t) → IsFirst (term_sizes m worth ds p t) (term_sizes m worth ds q t) → IsBehind
    at_term (literal v) here h = absurd (not_both (one_size (Some (worth v))) h)
    at_term (range a c b) here h = absurd (not_both (range_sizes c (literal_of worth ds a) (literal_of worth ds b)) h)
    at_term (control a n b) here h = absurd (not_both (one_size (literal_of worth ds (control a n b))) h)
    at_term (named r) here h = at_type r (one_stands H (at_name r) here) (is_group ds (name_of r)) refl h
    at_term (parens t) here h = at_term t here h
    at_term (or t u) here h = either (one_of_both (term_sizes m worth ds p t) (term_sizes m worth ds p u) (term_sizes m worth ds q t) (term_sizes m worth ds q u) h) (at_term t (left_stand H (points t) (points u) here)) (at_term u (right_stand H (points t) (points u) here))
    at_term (choice_of g) here h = at_chosen g here (first_if (opens_choices m) (chosen_sizes m worth ds p g) (chosen_sizes m worth ds q g) h)
    at_term (choice_of_name r) here h = at_choice_of r (one_stands H (at_choice r) here) (opens_choices m) refl h
    at_term _ here h = absurd (false≢true h.1)

    at_chosen : (g : Group) → AllStand H (group_points g) → IsFirst (chosen_sizes m worth ds p g) (chosen_sizes m worth ds q g) → IsBehind
    at_chosen (sole es) here h = at_entries es here h
    at_chosen (orelse g es) here h = either (one_of_both (chosen_sizes m worth ds p g) (entries_sizes m worth ds p es) (chosen_sizes m worth ds q g) (entries_sizes m worth ds q es) h) (at_chosen g (left_stand H (group_points g) (entries_points es) here)) (at_entries es (right_stand H (group_points g) (entries_points es) here))

    at_entries : (es : Entries) → AllStand H (entries_points es) → IsFirst (entries_sizes m worth ds p es) (entries_sizes m worth ds q es) → IsBehind
    at_entries no_entries here h = absurd (false≢true (sym h.0))
    at_entries (entries es e c) here h = either (one_of_both (entries_sizes m worth ds p es) (entry_sizes m worth ds p e) (entries_sizes m worth ds q es) (entry_sizes m worth ds q e) h) (at_entries es (left_stand H (entries_points es) (entry_points e) here)) (at_entry e (right_stand H (entries_points es) (entry_points e) here))

    at_entry : (e : Entry) → AllStand H (entry_points e) → IsFirst (entry_sizes m worth ds p e) (entry_sizes m worth ds q e) → IsBehind
    at_entry (typed o t) here h = at_part t here (part_of ds t) refl (at_term t here) (first_if (occurs_once o) (part_sizes m worth ds p (part_of ds t) (term_sizes m worth ds p t)) (part_sizes m worth ds q (part_of ds t) (term_sizes m worth ds q t)) h)
    at_entry (keyed o k t) here h = at_term t (right_stand H (key_points k) (points t) here) (first_if (occurs_once o) (term_sizes m worth ds p t) (term_sizes m worth ds q t) h)
    at_entry (grouped o g) here h = at_chosen g here (first_if (occurs_once o) (chosen_sizes m worth ds p g) (chosen_sizes m worth ds q g) h)

  at_each : (ess : List Entries) → AllStand H (all_points ess) → IsFirst (each_sizes m worth ds p ess) (each_sizes m worth ds q ess) → IsBehind
  at_each [] here h = absurd (false≢true (sym h.0))
  at_each (es ∷ ess) here h = either (one_of_both (entries_sizes m worth ds p es) (each_sizes m worth ds p ess) (entries_sizes m worth ds q es) (each_sizes m worth ds q ess) h) (at_entries es (left_stand H (entries_points es) (all_points ess) here)) (at_each ess (right_stand H (entries_points es) (all_points ess) here))

  at_behind : (b : Behind) → StandsBehind H b → IsFirst (behind_sizes m worth ds p b) (behind_sizes m worth ds q b) → IsBehind
  at_behind (a_type t) here h = at_term t here h
  at_behind (a_group ess) here h = at_each ess here h

-- Of what stands behind a name, one is found late.

one_of_all : (p q : Behind → Option Sizes) (ts : List Term) → IsFirst (all_sizes p ts) (all_sizes q ts) → (t : Term) × IsIn t ts × IsFirst (p (a_type t)) (q (a_type t))
one_of_all p q [] h = absurd (false≢true (sym h.0))
one_of_all p q (t ∷ ts) h = by (one_of_both (p (a_type t)) (all_sizes p ts) (q (a_type t)) (all_sizes q ts) h) (one_of_all p q ts)
  where
    by : IsFirst (p (a_type t)) (q (a_type t)) ⊎ IsFirst (all_sizes p ts) (all_sizes q ts) → (IsFirst (all_sizes p ts) (all_sizes q ts) → (u : Term) × IsIn u ts × IsFirst (p (a_type u)) (q (a_type u))) → (u : Term) × IsIn u (t ∷ ts) × IsFirst (p (a_type u)) (q (a_type u))
    by (inl i) again = (t, inl refl, i)
    by (inr i) again = let r = again i in (r.0, inr r.1, r.2)

of_group : (p q : Behind → Option Sizes) (ess : List Entries) → IsFirst (group_sizes p ess) (group_sizes q ess) → IsFirst (p (a_group ess)) (q (a_group ess))
of_group p q [] h = absurd (false≢true (sym h.0))
of_group p q (es ∷ ess) h = h

-- What is found stays found.

module _ (p q : Behind → Option Sizes) (stays : (b : Behind) → is_some (p b) ≡ true → is_some (q b) ≡ true) where
  both_stay : (o r u v : Option Sizes) → (is_some o ≡ true → is_some u ≡ true) → (is_some r ≡ true → is_some v ≡ true) → is_some (both_sizes o r) ≡ true → is_some (both_sizes u v) ≡ true
  both_stay (Some a) (Some b) u v f g h = by u v (f refl) (g refl)
    where
      by : (u v : Option Sizes) → is_some u ≡ true → is_some v ≡ true → is_some (both_sizes u v) ≡ true
      by (Some c) (Some d) i j = refl
      by (Some c) None i j = absurd (false≢true j)
      by None v i j = absurd (false≢true i)
  both_stay (Some a) None u v f g h = absurd (false≢true h)
  both_stay None r u v f g h = absurd (false≢true h)

  all_stay : (ts : List Term) → is_some (all_sizes p ts) ≡ true → is_some (all_sizes q ts) ≡ true
  all_stay [] h = refl
  all_stay (t ∷ ts) h = both_stay (p (a_type t)) (all_sizes p ts) (q (a_type t)) (all_sizes q ts) (stays (a_type t)) (all_stay ts) h

  group_stays : (ess : List Entries) → is_some (group_sizes p ess) ≡ true → is_some (group_sizes q ess) ≡ true
  group_stays [] h = refl
  group_stays (es ∷ ess) h = stays (a_group (es ∷ ess)) h

  place_stays : (ds : List Definition) (x : Place) → is_some (sizes_at ds p x) ≡ true → is_some (sizes_at ds q x) ≡ true
  place_stays ds (type_of r) h = all_stay (type_choices ds r) h
  place_stays ds (group_of r) h = group_stays (group_choices ds r) h
  place_stays ds (opened_of r) h = group_stays (opened_alternatives (opened ds r)) h

by_before : (m : Membership) (worth : Values) (ds : List Definition) (k : ℕ) (b : Behind) → members_in m worth ds k b ≡ behind_sizes m worth ds (λ c. sizes_before m worth ds k c) b
by_before m worth ds zero b = refl
by_before m worth ds (suc k) b = refl

abbrev pub MoreMembers : Membership → Values → List Definition → Type 0
MoreMembers m worth ds = (k n : ℕ) → k ≤ n → (b : Behind) (rs : Sizes) → members_in m worth ds k b ≡ Some rs → members_in m worth ds n b ≡ Some rs

module _ (m : Membership) (worth : Values) (s : Specification) (root : Text) (H : Point → Type 0) (on : AreInstancesOn (definitions s) root) (types : AreTypes (definitions s)) (are : AreStanding m (definitions s) root H) (no_more : HasTooManyInstances s root 0 → ⊥) (more : MoreMembers m worth (definitions s)) where
  abbrev found : ℕ → Place → Bool
  found k x = is_some (sizes_at (definitions s) (λ b. sizes_before m worth (definitions s) k b) x)

  stays : (k : ℕ) (b : Behind) → is_some (sizes_before m worth (definitions s) k b) ≡ true → is_some (sizes_before m worth (definitions s) (suc k) b) ≡ true
  stays zero b h = absurd (false≢true h)
  stays (suc k) b h = finds_more (members_in m worth (definitions s)) more k b h

  found_on : (k : ℕ) (x : Place) → found k x ≡ true → found (suc k) x ≡ true
  found_on k x h = place_stays (λ b. sizes_before m worth (definitions s) k b) (λ b. sizes_before m worth (definitions s) (suc k) b) (stays k) (definitions s) x h

  abbrev IsNewPlace : ℕ → Place → Type 0
  IsNewPlace k x = (found k x ≡ false) × (found (suc k) x ≡ true)

  behind : (k : ℕ) (b : Behind) → StandsBehind H b → IsFirst (members_in m worth (definitions s) k b) (members_in m worth (definitions s) (suc k) b) → (x : Place) × IsPlaced (definitions s) root x × IsNewPlace k x
  behind k b here h = at_behind m worth (definitions s) root H on types are (λ c. sizes_before m worth (definitions s) k c) (λ c. sizes_before m worth (definitions s) (suc k) c) (λ r g e. opened_unsized m worth (definitions s) r g e (suc k)) b here (sym (ap is_some (by_before m worth (definitions s) k b)) ∙ h.0, sym (ap is_some (by_before m worth (definitions s) (suc k) b)) ∙ h.1)

  opened_stands : (r : Ref) → Reaches (definitions s) root r → (o : Option Opened) → opened (definitions s) r ≡ o → AllStand H (all_points (opened_alternatives o))
  opened_stands r here (Some (opens_group g)) e = group_stand H g (are.opened_group r g here e)
  opened_stands r here (Some (opens_type t)) e = none_stand H
  opened_stands r here None e = none_stand H

  step : (k : ℕ) (x : Place) → IsPlaced (definitions s) root x → IsNewPlace (suc k) x → (y : Place) × IsPlaced (definitions s) root y × IsNewPlace k y
  step k (type_of r) p h = let t = one_of_all (λ b. sizes_before m worth (definitions s) (suc k) b) (λ b. sizes_before m worth (definitions s) (suc (suc k)) b) (type_choices (definitions s) r) h in behind k (a_type t.0) (are.types r t.0 p.0 (to_contains (type_choices (definitions s) r) t.0 t.1)) t.2
  step k (group_of r) p h = behind k (a_group (group_choices (definitions s) r)) (all_stand H (group_choices (definitions s) r) (λ es c. are.group r es p.0 c)) (of_group (λ b. sizes_before m worth (definitions s) (suc k) b) (λ b. sizes_before m worth (definitions s) (suc (suc k)) b) (group_choices (definitions s) r) h)
  step k (opened_of r) p h = behind k (a_group (opened_alternatives (opened (definitions s) r))) (opened_stands r p.0 (opened (definitions s) r) refl) (of_group (λ b. sizes_before m worth (definitions s) (suc k) b) (λ b. sizes_before m worth (definitions s) (suc (suc k)) b) (opened_alternatives (opened (definitions s) r)) h)

  low : (k : ℕ) (b : Behind) → StandsBehind H b → IsFirst (members_in m worth (definitions s) k b) (members_in m worth (definitions s) (suc k) b) → k < most_instances
  low k b here h = let x = behind k b here h in is_low found found_on (λ y. IsPlaced (definitions s) root y) most_instances (few_places s root no_more) step k x.0 x.1 x.2

  pub members_enough : (b : Behind) → StandsBehind H b → (n : ℕ) (rs : Sizes) → members_in m worth (definitions s) n b ≡ Some rs → members_in m worth (definitions s) most_instances b ≡ Some rs
  members_enough b here n rs e = is_told (members_in m worth (definitions s)) more n most_instances b rs e (is_found (λ k c. is_some (members_in m worth (definitions s) k c)) (finds_more (members_in m worth (definitions s)) more) most_instances b (λ k h. low k b here h) n (ap is_some e))
