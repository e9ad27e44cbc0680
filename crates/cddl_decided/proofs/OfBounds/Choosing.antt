-- What `&` chooses from a group is found within as many names as there may be instances.
use Rattle.std.proofs.Common.{◌≡◌, ℕ, zero, suc, ◌≤◌, if◌then◌else◌, List, [], ◌∷◌, Option, Some, None, is_some, refl, sym, ap, subst, ◌∙◌, ◌⊎◌}
use Rattle.std.proofs.lemmas.Bool.{false≢true}
use Rattle.lists.proofs.Lemmas.{either}
use Rattle.cddl_language.specs.Choices.{chosen_each, chosen_entries, chosen_entry, chosen_group, chosen_in, chosen_part, types_of_both}
use Rattle.cddl_language.specs.Faults.{HasTooManyInstances, Specification, definitions}
use Rattle.cddl_language.specs.Kinds.{Part, asks_type, names_group, opens, part_of}
use Rattle.cddl_language.specs.Numbers.{occurs_once}
use Rattle.cddl_language.specs.Reach.{entries_points, entry_points, group_points, most_instances, points}
use Rattle.cddl_language.specs.Terms.{Definition, Entries, no_entries, entries, Entry, typed, keyed, grouped, Group, sole, orelse, Term, Text}
use Rattle.check_instances.specs.Closed.Closed.{AreReached}
use Rattle.cddl_decided.proofs.Parts.{opened_group}
use Rattle.cddl_decided.proofs.Points.{all_points}
use Rattle.cddl_decided.proofs.Reached.{AreInstancesOn, left, right}
use Rattle.cddl_decided.proofs.OfBounds.Few.{IsPlaced, Place, group_of, opened_of}
use Rattle.cddl_decided.proofs.OfBounds.Heights.{IsFirst, first_if, first_of_both, not_both}
use Rattle.cddl_decided.proofs.OfBounds.Places.{AreTypes, before, group_at, group_told, named_place, opened_alternatives, opened_place}

one_of_both : (o q p s : Option (List Term)) → IsFirst (types_of_both o q) (types_of_both p s) → IsFirst o p ⊎ IsFirst q s
one_of_both o q p s h = first_of_both types_of_both (λ a b. refl) (λ x. refl) (λ a. refl) o q p s h

module _ (ds : List Definition) (root : Text) (on : AreInstancesOn ds root) (types : AreTypes ds) (p q : List Entries → Option (List Term)) where
  abbrev IsBehind : Type 0
  IsBehind = (x : Place) × IsPlaced ds root x × IsFirst (p (group_at ds x)) (q (group_at ds x))

  in_part : (t : Term) → AreReached ds root (points t) → (a : Part) → part_of ds t ≡ a → IsFirst (chosen_part ds p t a) (chosen_part ds q t a) → IsBehind
  in_part t here asks_type e h = absurd (false≢true (sym h.0))
  in_part t here (names_group r) e h = (group_of r, named_place ds root on types t r here e, h)
  in_part t here (opens r g) e h = (opened_of r, opened_place ds root on types t r g here e, subst (λ o. IsFirst (p (opened_alternatives o)) (q (opened_alternatives o))) (sym (opened_group ds t r g e)) h)

  mutual
    in_group : (g : Group) → AreReached ds root (group_points g) → IsFirst (chosen_group ds p g) (chosen_group ds q g) → IsBehind
    in_group (sole es) here h = in_entries es here h
    in_group (orelse g es) here h = either (one_of_both (chosen_group ds p g) (chosen_entries ds p es) (chosen_group ds q g) (chosen_entries ds q es) h) (in_group g (left ds root (group_points g) (entries_points es) here)) (in_entries es (right ds root (group_points g) (entries_points es) here))

    in_entries : (es : Entries) → AreReached ds root (entries_points es) → IsFirst (chosen_entries ds p es) (chosen_entries ds q es) → IsBehind
    in_entries no_entries here h = absurd (false≢true (sym h.0))
    in_entries (entries es e c) here h = either (one_of_both (chosen_entries ds p es) (chosen_entry ds p e) (chosen_entries ds q es) (chosen_entry ds q e) h) (in_entries es (left ds root (entries_points es) (entry_points e) here)) (in_entry e (right ds root (entries_points es) (entry_points e) here))

    in_entry : (e : Entry) → AreReached ds root (entry_points e) → IsFirst (chosen_entry ds p e) (chosen_entry ds q e) → IsBehind
    in_entry (typed o t) here h = in_part t here (part_of ds t) refl (first_if (occurs_once o) (chosen_part ds p t (part_of ds t)) (chosen_part ds q t (part_of ds t)) h)
    in_entry (keyed o k t) here h = absurd (not_both (if occurs_once o then Some (t ∷ []) else None) h)
    in_entry (grouped o g) here h = in_group g here (first_if (occurs_once o) (chosen_group ds p g) (chosen_group ds q g) h)

  in_each : (ess : List Entries) → AreReached ds root (all_points ess) → IsFirst (chosen_each ds p ess) (chosen_each ds q ess) → IsBehind
  in_each [] here h = absurd (false≢true (sym h.0))
  in_each (es ∷ ess) here h = either (one_of_both (chosen_entries ds p es) (chosen_each ds p ess) (chosen_entries ds q es) (chosen_each ds q ess) h) (in_entries es (left ds root (entries_points es) (all_points ess) here)) (in_each ess (right ds root (entries_points es) (all_points ess) here))

-- by what is chosen through one name less
by_before : (ds : List Definition) (k : ℕ) (ess : List Entries) → chosen_in ds k ess ≡ chosen_each ds (λ us. before (chosen_in ds) k us) ess
by_before ds zero ess = refl
by_before ds (suc k) ess = refl

abbrev pub MoreChosen : List Definition → Type 0
MoreChosen ds = (k n : ℕ) → k ≤ n → (ess : List Entries) (ts : List Term) → chosen_in ds k ess ≡ Some ts → chosen_in ds n ess ≡ Some ts

pub chosen_enough : (s : Specification) (root : Text) → AreInstancesOn (definitions s) root → AreTypes (definitions s) → (HasTooManyInstances s root 0 → ⊥) → MoreChosen (definitions s) → (ess : List Entries) → AreReached (definitions s) root (all_points ess) → (n : ℕ) (ts : List Term) → chosen_in (definitions s) n ess ≡ Some ts → chosen_in (definitions s) most_instances ess ≡ Some ts
chosen_enough s root on types no_more more ess here n ts e = group_told s root on types no_more (chosen_in (definitions s)) more behind ess here n ts e
  where
    behind : (k : ℕ) (us : List Entries) → AreReached (definitions s) root (all_points us) → IsFirst (chosen_in (definitions s) k us) (chosen_in (definitions s) (suc k) us) → (x : Place) × IsPlaced (definitions s) root x × IsFirst (before (chosen_in (definitions s)) k (group_at (definitions s) x)) (before (chosen_in (definitions s)) (suc k) (group_at (definitions s) x))
    behind k us reached h = in_each (definitions s) root on types (λ vs. before (chosen_in (definitions s)) k vs) (λ vs. before (chosen_in (definitions s)) (suc k) vs) us reached (sym (ap is_some (by_before (definitions s) k us)) ∙ h.0, sym (ap is_some (by_before (definitions s) (suc k) us)) ∙ h.1)
