-- The alternatives of a group in a map are found within as many names as there may be instances.
use Rattle.std.proofs.Common.{◌≡◌, ℕ, zero, suc, ◌≤◌, List, [], ◌∷◌, Option, Some, None, is_some, refl, sym, ap, subst, ◌∙◌, ◌⊎◌, arith}
use Rattle.std.proofs.lemmas.Bool.{false≢true}
use Rattle.lists.proofs.Lemmas.{either, no_some}
use Rattle.cddl_language.specs.Faults.{HasTooManyInstances, Specification, definitions}
use Rattle.cddl_language.specs.Kinds.{Part, asks_type, names_group, opens, part_of}
use Rattle.cddl_language.specs.Maps.{Alternatives, alternatives_in, alternatives_of_both, combined, in_each, in_entries, in_entry, in_group, in_part, occurring_so}
use Rattle.cddl_language.specs.Reach.{entries_points, entry_points, group_points, most_instances, points}
use Rattle.cddl_language.specs.Substitution.{group_choices}
use Rattle.cddl_language.specs.Terms.{Definition, Entries, no_entries, entries, Entry, typed, keyed, grouped, Group, sole, orelse, Term, Text, alternatives}
use Rattle.check_instances.specs.Closed.Closed.{AreReached}
use Rattle.cddl_decided.proofs.Parts.{opened_group}
use Rattle.cddl_decided.proofs.Points.{all_points}
use Rattle.cddl_decided.proofs.Reached.{AreInstancesOn, left, right}
use Rattle.cddl_decided.proofs.OfBounds.Few.{IsPlaced, Place, group_of, opened_of}
use Rattle.cddl_decided.proofs.OfBounds.Heights.{IsFirst, first_of_both}
use Rattle.cddl_decided.proofs.OfBounds.Places.{AreTypes, before, group_at, group_told, named_place, opened_alternatives, opened_place}

-- what the one option has, the other has too
abbrev Follows : Option Alternatives → Option Alternatives → Type 0
Follows o q = (mss : Alternatives) → o ≡ Some mss → q ≡ Some mss

joined_follows : (join : Option Alternatives → Option Alternatives → Option Alternatives) → ((q : Option Alternatives) (mss : Alternatives) → join None q ≡ Some mss → ⊥) → ((o : Option Alternatives) (mss : Alternatives) → join o None ≡ Some mss → ⊥) → (o q p s : Option Alternatives) → Follows o p → Follows q s → Follows (join o q) (join p s)
joined_follows join left right (Some a) (Some b) p s f g mss e = ap (λ x. join x s) (f a refl) ∙ ap (λ y. join (Some a) y) (g b refl) ∙ e
joined_follows join left right (Some a) None p s f g mss e = absurd (right (Some a) mss e)
joined_follows join left right None q p s f g mss e = absurd (left q mss e)

no_right : (o : Option Alternatives) (mss : Alternatives) → alternatives_of_both o None ≡ Some mss → ⊥
no_right (Some a) mss e = no_some e
no_right None mss e = no_some e

none_combined : (o : Option Alternatives) (mss : Alternatives) → combined o None ≡ Some mss → ⊥
none_combined (Some a) mss e = no_some e
none_combined None mss e = no_some e

occurring_follows : (n : Option Text) (o q : Option Alternatives) → Follows o q → Follows (occurring_so n o) (occurring_so n q)
occurring_follows n (Some a) q f mss e = ap (occurring_so n) (f a refl) ∙ e
occurring_follows n None q f mss e = absurd (no_some e)

first_occurring : (n : Option Text) (o q : Option Alternatives) → Follows o q → IsFirst (occurring_so n o) (occurring_so n q) → IsFirst o q
first_occurring n None (Some a) f h = (refl, refl)
first_occurring n None None f h = absurd (false≢true h.1)
first_occurring n (Some a) q f h = absurd (false≢true (sym h.0 ∙ sym (ap (λ x. is_some (occurring_so n x)) (f a refl)) ∙ h.1))

one_of_both : (o q p s : Option Alternatives) → IsFirst (alternatives_of_both o q) (alternatives_of_both p s) → IsFirst o p ⊎ IsFirst q s
one_of_both o q p s h = first_of_both alternatives_of_both (λ a b. refl) (λ x. refl) (λ a. refl) o q p s h

one_combined : (o q p s : Option Alternatives) → IsFirst (combined o q) (combined p s) → IsFirst o p ⊎ IsFirst q s
one_combined o q p s h = first_of_both combined (λ a b. refl) (λ x. refl) (λ a. refl) o q p s h

module _ (ds : List Definition) (p q : List Entries → Option Alternatives) (follows : (ess : List Entries) → Follows (p ess) (q ess)) where
  part_follows : (a : Part) → Follows (in_part ds p a) (in_part ds q a)
  part_follows asks_type mss e = e
  part_follows (names_group r) mss e = follows (group_choices ds r) mss e
  part_follows (opens r g) mss e = follows (alternatives g) mss e

  mutual
    group_follows : (g : Group) → Follows (in_group ds p g) (in_group ds q g)
    group_follows (sole es) mss e = entries_follow es mss e
    group_follows (orelse g es) mss e = joined_follows alternatives_of_both (λ o ns i. no_some i) no_right (in_group ds p g) (in_entries ds p es) (in_group ds q g) (in_entries ds q es) (group_follows g) (entries_follow es) mss e

    entries_follow : (es : Entries) → Follows (in_entries ds p es) (in_entries ds q es)
    entries_follow no_entries mss e = e
    entries_follow (entries es x c) mss e = joined_follows combined (λ o ns i. no_some i) none_combined (in_entries ds p es) (in_entry ds p x) (in_entries ds q es) (in_entry ds q x) (entries_follow es) (entry_follows x) mss e

    entry_follows : (x : Entry) → Follows (in_entry ds p x) (in_entry ds q x)
    entry_follows (typed o t) mss e = occurring_follows o (in_part ds p (part_of ds t)) (in_part ds q (part_of ds t)) (part_follows (part_of ds t)) mss e
    entry_follows (keyed o k t) mss e = e
    entry_follows (grouped o g) mss e = occurring_follows o (in_group ds p g) (in_group ds q g) (group_follows g) mss e

  module _ (root : Text) (on : AreInstancesOn ds root) (types : AreTypes ds) where
    abbrev IsBehind : Type 0
    IsBehind = (x : Place) × IsPlaced ds root x × IsFirst (p (group_at ds x)) (q (group_at ds x))

    at_part : (t : Term) → AreReached ds root (points t) → (a : Part) → part_of ds t ≡ a → IsFirst (in_part ds p a) (in_part ds q a) → IsBehind
    at_part t here asks_type e h = absurd (false≢true h.1)
    at_part t here (names_group r) e h = (group_of r, named_place ds root on types t r here e, h)
    at_part t here (opens r g) e h = (opened_of r, opened_place ds root on types t r g here e, subst (λ o. IsFirst (p (opened_alternatives o)) (q (opened_alternatives o))) (sym (opened_group ds t r g e)) h)

    mutual
      at_group : (g : Group) → AreReached ds root (group_points g) → IsFirst (in_group ds p g) (in_group ds q g) → IsBehind
      at_group (sole es) here h = at_entries es here h
      at_group (orelse g es) here h = either (one_of_both (in_group ds p g) (in_entries ds p es) (in_group ds q g) (in_entries ds q es) h) (at_group g (left ds root (group_points g) (entries_points es) here)) (at_entries es (right ds root (group_points g) (entries_points es) here))

      at_entries : (es : Entries) → AreReached ds root (entries_points es) → IsFirst (in_entries ds p es) (in_entries ds q es) → IsBehind
      at_entries no_entries here h = absurd (false≢true (sym h.0))
      at_entries (entries es x c) here h = either (one_combined (in_entries ds p es) (in_entry ds p x) (in_entries ds q es) (in_entry ds q x) h) (at_entries es (left ds root (entries_points es) (entry_points x) here)) (at_entry x (right ds root (entries_points es) (entry_points x) here))

      at_entry : (x : Entry) → AreReached ds root (entry_points x) → IsFirst (in_entry ds p x) (in_entry ds q x) → IsBehind
      at_entry (typed o t) here h = at_part t here (part_of ds t) refl (first_occurring o (in_part ds p (part_of ds t)) (in_part ds q (part_of ds t)) (part_follows (part_of ds t)) h)
      at_entry (keyed o k t) here h = absurd (false≢true (sym h.0))
      at_entry (grouped o g) here h = at_group g here (first_occurring o (in_group ds p g) (in_group ds q g) (group_follows g) h)

    at_each : (ess : List Entries) → AreReached ds root (all_points ess) → IsFirst (in_each ds p ess) (in_each ds q ess) → IsBehind
    at_each [] here h = absurd (false≢true (sym h.0))
    at_each (es ∷ ess) here h = either (one_of_both (in_entries ds p es) (in_each ds p ess) (in_entries ds q es) (in_each ds q ess) h) (at_entries es (left ds root (entries_points es) (all_points ess) here)) (at_each ess (right ds root (entries_points es) (all_points ess) here))

-- by what there is through one name less
by_before : (ds : List Definition) (k : ℕ) (ess : List Entries) → alternatives_in ds k ess ≡ in_each ds (λ us. before (alternatives_in ds) k us) ess
by_before ds zero ess = refl
by_before ds (suc k) ess = refl

abbrev pub MoreAlternatives : List Definition → Type 0
MoreAlternatives ds = (k n : ℕ) → k ≤ n → (ess : List Entries) (mss : Alternatives) → alternatives_in ds k ess ≡ Some mss → alternatives_in ds n ess ≡ Some mss

before_follows : (ds : List Definition) → MoreAlternatives ds → (k : ℕ) (ess : List Entries) → Follows (before (alternatives_in ds) k ess) (before (alternatives_in ds) (suc k) ess)
before_follows ds more zero ess mss e = absurd (no_some e)
before_follows ds more (suc k) ess mss e = more k (suc k) (omega arith) ess mss e

pub alternatives_enough : (s : Specification) (root : Text) → AreInstancesOn (definitions s) root → AreTypes (definitions s) → (HasTooManyInstances s root 0 → ⊥) → MoreAlternatives (definitions s) → (ess : List Entries) → AreReached (definitions s) root (all_points ess) → (n : ℕ) (mss : Alternatives) → alternatives_in (definitions s) n ess ≡ Some mss → alternatives_in (definitions s) most_instances ess ≡ Some mss
alternatives_enough s root on types no_more more ess here n mss e = group_told s root on types no_more (alternatives_in (definitions s)) more behind ess here n mss e
  where
    behind : (k : ℕ) (us : List Entries) → AreReached (definitions s) root (all_points us) → IsFirst (alternatives_in (definitions s) k us) (alternatives_in (definitions s) (suc k) us) → (x : Place) × IsPlaced (definitions s) root x × IsFirst (before (alternatives_in (definitions s)) k (group_at (definitions s) x)) (before (alternatives_in (definitions s)) (suc k) (group_at (definitions s) x))
    behind k us reached h = at_each (definitions s) (λ vs. before (alternatives_in (definitions s)) k vs) (λ vs. before (alternatives_in (definitions s)) (suc k) vs) (before_follows (definitions s) more k) root on types us reached (sym (ap is_some (by_before (definitions s) k us)) ∙ h.0, sym (ap is_some (by_before (definitions s) (suc k) us)) ∙ h.1)
