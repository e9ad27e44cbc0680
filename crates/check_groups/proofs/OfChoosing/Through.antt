-- What is chosen from through so many names: it stays the same after as many as there are instances.
use Rattle.std.proofs.Common.{◌≡◌, ℕ, zero, suc, ◌≤◌, Bool, true, false, if◌then◌else◌, List, [], ◌∷◌, length, Option, Some, None, is_some, inl, inr, refl, sym, ap, subst, ◌∙◌, slice_get}
use Rattle.lists.proofs.Lemmas.{IsIn, beyond_all, from_contains, from_get, to_contains, to_get}
use Rattle.cddl_language.specs.Terms.{Text, Term, literal, named, parens, map_of, array_of, unwrapped, choice_of, choice_of_name, tagged, tagged_by, simple_by, hash, range, control, or, Ref, Group, sole, orelse, Entries, no_entries, entries, Entry, typed, keyed, grouped, Definition, alternatives, name_of}
use Rattle.cddl_language.specs.Numbers.{occurs_once}
use Rattle.cddl_language.specs.Substitution.{group_choices}
use Rattle.cddl_language.specs.Kinds.{Opened, opens_group, opens_type, opened, is_group, Part, asks_type, names_group, opens, opened_part, part_of}
use Rattle.cddl_language.specs.Reach.{at_name, at_unwrapping, Reaches, points, group_points, entries_points, entry_points}
use Rattle.cddl_language.specs.StandsFor.{AreInstances}
use Rattle.cddl_language.specs.Choices.{chosen_each, chosen_entries, chosen_entry, chosen_group, chosen_in, chosen_part}
use Rattle.check_instances.specs.Closed.Closed.{AreReached}
use Rattle.check_groups.specs.Choosing.Signs.{HaveEntries}
use Rattle.check_groups.proofs.OfChoosing.Joining.{IsThere, both_there, first_there, second_there}
use Rattle.check_groups.proofs.OfCauses.Reaching.{choices_reached, in_group, left_reached, right_reached}
use Rattle.check_groups.proofs.OfChoosing.Settling as S
use Rattle.check_groups.proofs.OfChoosing.Signed.{opened_is_no_group}

module _ (ds : List Definition) (root : Text) where
  -- what the type of an entry names or opens is an instance

  abbrev IsNamed : Ref → Type 0
  IsNamed r = Reaches ds root r × (is_group ds (name_of r) ≡ true)

  abbrev IsOpenedTo : Ref → Group → Type 0
  IsOpenedTo r h = Reaches ds root r × (opened ds r ≡ Some (opens_group h))

  name_there : (q r : Ref) → Reaches ds root q → (b : Bool) → b ≡ is_group ds (name_of q) → (if b then names_group q else asks_type) ≡ names_group r → IsNamed r
  name_there q r h true i e = subst IsNamed same (h, sym i)
    where
      same : q ≡ r
      same = cc
  name_there q r h false i e = cc

  no_opening : (q r : Ref) (g : Group) (b : Bool) → (if b then names_group q else asks_type) ≡ opens r g → ⊥
  no_opening q r g true e = cc
  no_opening q r g false e = cc

  no_name : (q r : Ref) (o : Option Opened) → opened_part q o ≡ names_group r → ⊥
  no_name q r None e = cc
  no_name q r (Some (opens_group g)) e = cc
  no_name q r (Some (opens_type t)) e = cc

  opening_there : (q r : Ref) (g : Group) → Reaches ds root q → (o : Option Opened) → o ≡ opened ds q → opened_part q o ≡ opens r g → IsOpenedTo r g
  opening_there q r g h None i e = cc
  opening_there q r g h (Some (opens_type t)) i e = cc
  opening_there q r g h (Some (opens_group f)) i e = subst (λ s. IsOpenedTo s g) same (h, sym i ∙ ap (λ x. Some (opens_group x)) alike)
    where
      same : q ≡ r
      same = cc

      alike : f ≡ g
      alike = cc

  pub named_part : (x : Term) (r : Ref) → AreReached ds root (points x) → part_of ds x ≡ names_group r → IsNamed r
  named_part (parens x) r h e = named_part x r h e
  named_part (named q) r h e = name_there q r (h (at_name q) (to_contains (at_name q ∷ []) (at_name q) (inl refl))) (is_group ds (name_of q)) refl e
  named_part (unwrapped q) r h e = absurd (no_name q r (opened ds q) e)
  named_part (literal v) r h e = cc
  named_part (map_of g) r h e = cc
  named_part (array_of g) r h e = cc
  named_part (choice_of g) r h e = cc
  named_part (choice_of_name q) r h e = cc
  named_part (tagged n x) r h e = cc
  named_part (tagged_by y x) r h e = cc
  named_part (simple_by x) r h e = cc
  named_part (hash n) r h e = cc
  named_part (range a c b) r h e = cc
  named_part (control a n b) r h e = cc
  named_part (or a b) r h e = cc

  pub opened_by_part : (x : Term) (r : Ref) (g : Group) → AreReached ds root (points x) → part_of ds x ≡ opens r g → IsOpenedTo r g
  opened_by_part (parens x) r g h e = opened_by_part x r g h e
  opened_by_part (named q) r g h e = absurd (no_opening q r g (is_group ds (name_of q)) e)
  opened_by_part (unwrapped q) r g h e = opening_there q r g (h (at_unwrapping q) (to_contains (at_unwrapping q ∷ []) (at_unwrapping q) (inl refl))) (opened ds q) refl e
  opened_by_part (literal v) r g h e = cc
  opened_by_part (map_of f) r g h e = cc
  opened_by_part (array_of f) r g h e = cc
  opened_by_part (choice_of f) r g h e = cc
  opened_by_part (choice_of_name q) r g h e = cc
  opened_by_part (tagged n x) r g h e = cc
  opened_by_part (tagged_by y x) r g h e = cc
  opened_by_part (simple_by x) r g h e = cc
  opened_by_part (hash n) r g h e = cc
  opened_by_part (range a c b) r g h e = cc
  opened_by_part (control a n b) r g h e = cc
  opened_by_part (or a b) r g h e = cc

  -- what can be chosen from by the one way, of instances, can be by the other
  pub record Carries (f g : List Entries → Option (List Term)) : Type 0 where
    pub of_name : (r : Ref) → Reaches ds root r → is_group ds (name_of r) ≡ true → IsThere (f (group_choices ds r)) → IsThere (g (group_choices ds r))
    pub of_opened : (r : Ref) (h : Group) → Reaches ds root r → opened ds r ≡ Some (opens_group h) → IsThere (f (alternatives h)) → IsThere (g (alternatives h))

  module _ (f g : List Entries → Option (List Term)) (c : Carries f g) where
    carried_part : (x t : Term) (p : Part) → part_of ds x ≡ p → AreReached ds root (points x) → IsThere (chosen_part ds f t p) → IsThere (chosen_part ds g t p)
    carried_part x t asks_type i h e = refl
    carried_part x t (names_group r) i h e = let k = named_part x r h i in c.of_name r k.0 k.1 e
    carried_part x t (opens r q) i h e = let k = opened_by_part x r q h i in c.of_opened r q k.0 k.1 e

    if_once : (b : Bool) (o q : Option (List Term)) → (IsThere o → IsThere q) → IsThere (if b then o else None) → IsThere (if b then q else None)
    if_once true o q h e = h e
    if_once false o q h e = e

    mutual
      pub carried_group : (h : Group) → AreReached ds root (group_points h) → IsThere (chosen_group ds f h) → IsThere (chosen_group ds g h)
      carried_group (sole es) r e = carried_entries es r e
      carried_group (orelse h es) r e = both_there (chosen_group ds g h) (chosen_entries ds g es) (carried_group h (left_reached ds root (group_points h) (entries_points es) r) (first_there (chosen_group ds f h) (chosen_entries ds f es) e)) (carried_entries es (right_reached ds root (group_points h) (entries_points es) r) (second_there (chosen_group ds f h) (chosen_entries ds f es) e))

      carried_entries : (es : Entries) → AreReached ds root (entries_points es) → IsThere (chosen_entries ds f es) → IsThere (chosen_entries ds g es)
      carried_entries no_entries r e = refl
      carried_entries (entries es x b) r e = both_there (chosen_entries ds g es) (chosen_entry ds g x) (carried_entries es (left_reached ds root (entries_points es) (entry_points x) r) (first_there (chosen_entries ds f es) (chosen_entry ds f x) e)) (carried_entry x (right_reached ds root (entries_points es) (entry_points x) r) (second_there (chosen_entries ds f es) (chosen_entry ds f x) e))

      carried_entry : (x : Entry) → AreReached ds root (entry_points x) → IsThere (chosen_entry ds f x) → IsThere (chosen_entry ds g x)
      carried_entry (typed o t) r e = if_once (occurs_once o) (chosen_part ds f t (part_of ds t)) (chosen_part ds g t (part_of ds t)) (carried_part t t (part_of ds t) refl r) e
      carried_entry (keyed o k t) r e = e
      carried_entry (grouped o h) r e = if_once (occurs_once o) (chosen_group ds f h) (chosen_group ds g h) (carried_group h r) e

    pub carried_each : (ess : List Entries) → ((es : Entries) → IsIn es ess → AreReached ds root (entries_points es)) → IsThere (chosen_each ds f ess) → IsThere (chosen_each ds g ess)
    carried_each [] r e = refl
    carried_each (es ∷ ess) r e = both_there (chosen_entries ds g es) (chosen_each ds g ess) (carried_entries es (r es (inl refl)) (first_there (chosen_entries ds f es) (chosen_each ds f ess) e)) (carried_each ess (λ fs i. r fs (inr i)) (second_there (chosen_entries ds f es) (chosen_each ds f ess) e))

  -- what names are chosen from where so many are gone through
  abbrev pub names_in : ℕ → List Entries → Option (List Term)
  names_in zero = λ us. None
  names_in (suc k) = λ us. chosen_in ds k us

  pub in_is : (k : ℕ) (ess : List Entries) → chosen_in ds k ess ≡ chosen_each ds (names_in k) ess
  in_is zero ess = refl
  in_is (suc k) ess = refl

  module _ (have : HaveEntries ds) (refs : List Ref) (instances : AreInstances ds root refs) (opened_reached : (r : Ref) (g : Group) → Reaches ds root r → opened ds r ≡ Some (opens_group g) → AreReached ds root (group_points g)) where
    each_reached : (g : Group) → AreReached ds root (group_points g) → (es : Entries) → IsIn es (alternatives g) → AreReached ds root (entries_points es)
    each_reached g h es i p c = h p (to_contains (group_points g) p (in_group g es p i (from_contains (entries_points es) p c)))

    one_further : (j k : ℕ) → Carries (names_in j) (names_in k) → Carries (names_in (suc j)) (names_in (suc k))
    one_further j k c = record {
      of_name = λ r h i e. step (group_choices ds r) (choices_reached ds root r h) e;
      of_opened = λ r g h i e. step (alternatives g) (each_reached g (opened_reached r g h i)) e;
    }
      where
        step : (ess : List Entries) → ((es : Entries) → IsIn es ess → AreReached ds root (entries_points es)) → IsThere (chosen_in ds j ess) → IsThere (chosen_in ds k ess)
        step ess r e = ap is_some (in_is k ess) ∙ carried_each (names_in j) (names_in k) c ess r (sym (ap is_some (in_is j ess)) ∙ e)

    further : (j : ℕ) → Carries (names_in j) (names_in (suc j))
    further zero = record {
      of_name = λ r h i e. absurd (nothing e);
      of_opened = λ r g h i e. absurd (nothing e);
    }
      where
        nothing : false ≡ true → ⊥
        nothing e = cc
    further (suc j) = one_further j (suc j) (further j)

    -- of each instance, as a group by its name or by what it opens
    abbrev way : ℕ → Ref → Bool → Option Opened → Bool
    way j r true o = is_some (names_in j (group_choices ds r))
    way j r false (Some (opens_group g)) = is_some (names_in j (alternatives g))
    way j r false (Some (opens_type t)) = false
    way j r false None = false

    abbrev way_of : ℕ → Option Ref → Bool
    way_of j None = false
    way_of j (Some r) = way j r (is_group ds (name_of r)) (opened ds r)

    abbrev family : ℕ → ℕ → Bool
    family j i = way_of j (slice_get refs i)

    beyond : (j i : ℕ) → length refs ≤ i → family j i ≡ true → ⊥
    beyond j i h e = nothing (sym (ap (way_of j) (beyond_all refs i h)) ∙ e)
      where
        nothing : false ≡ true → ⊥
        nothing e = cc

    to_family : (j k : ℕ) → Carries (names_in j) (names_in k) → (i : ℕ) → family j i ≡ true → family k i ≡ true
    to_family j k c i e = at (slice_get refs i) refl e
      where
        by : (r : Ref) → Reaches ds root r → (b : Bool) → b ≡ is_group ds (name_of r) → (o : Option Opened) → o ≡ opened ds r → way j r b o ≡ true → way k r b o ≡ true
        by r h true i o l e = c.of_name r h (sym i) e
        by r h false i (Some (opens_group g)) l e = c.of_opened r g h (sym l) e
        by r h false i (Some (opens_type t)) l e = e
        by r h false i None l e = e

        at : (o : Option Ref) → o ≡ slice_get refs i → way_of j o ≡ true → way_of k o ≡ true
        at None s e = e
        at (Some r) s e = by r (instances.only r (to_contains refs r (from_get refs i r (sym s)))) (is_group ds (name_of r)) refl (opened ds r) refl e

    from_family : (j k : ℕ) → ((i : ℕ) → family j i ≡ true → family k i ≡ true) → Carries (names_in j) (names_in k)
    from_family j k f = record {
      of_name = λ r h g e. let at = place r h in sym (named k r g at.0 at.1) ∙ f at.0 (named j r g at.0 at.1 ∙ e);
      of_opened = λ r q h o e. let at = place r h in sym (unwrapping k r q o at.0 at.1) ∙ f at.0 (unwrapping j r q o at.0 at.1 ∙ e);
    }
      where
        place : (r : Ref) → Reaches ds root r → (i : ℕ) × (slice_get refs i ≡ Some r)
        place r h = to_get refs r (from_contains refs r (instances.all r h))

        named : (j : ℕ) (r : Ref) → is_group ds (name_of r) ≡ true → (i : ℕ) → slice_get refs i ≡ Some r → family j i ≡ is_some (names_in j (group_choices ds r))
        named j r g i s = ap (way_of j) s ∙ ap (λ b. way j r b (opened ds r)) g

        unwrapping : (j : ℕ) (r : Ref) (q : Group) → opened ds r ≡ Some (opens_group q) → (i : ℕ) → slice_get refs i ≡ Some r → family j i ≡ is_some (names_in j (alternatives q))
        unwrapping j r q o i s = ap (way_of j) s ∙ ap (λ b. way j r b (opened ds r)) (opened_is_no_group ds have r (opens_group q) o) ∙ ap (way j r false) o

    -- After as many names as there are instances nothing new comes.
    pub enough : (m : ℕ) → length refs ≤ m → (j : ℕ) → Carries (names_in j) (names_in m)
    enough m h j = from_family j m (λ i e. S.settled family (length refs) beyond (λ k i e. to_family k (suc k) (further k) i e) (λ k s i e. to_family (suc (suc k)) (suc k) (one_further (suc k) k (from_family (suc k) k s)) i e) m h j i e)
