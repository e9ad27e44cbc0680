-- From the groups in a group from which `&` can choose, it can choose.
use Rattle.std.proofs.Common.{◌≡◌, ℕ, zero, suc, ◌+◌, ◌-◌, ◌≤◌, Bool, true, false, if◌then◌else◌, List, [], ◌∷◌, Option, None, refl, subst, arith}
use Rattle.cddl_language.specs.Numbers.{occurs_once}
use Rattle.cddl_language.specs.Terms.{Term, Group, sole, orelse, Entries, no_entries, entries, Entry, typed, keyed, grouped, Definition, alternatives}
use Rattle.cddl_language.specs.Substitution.{group_choices}
use Rattle.cddl_language.specs.Kinds.{Part, asks_type, names_group, opens, part_of}
use Rattle.cddl_language.specs.Reach.{most_instances}
use Rattle.cddl_language.specs.Choices.{can_choose, chosen_each, chosen_entries, chosen_entry, chosen_group, chosen_in, chosen_part}
use Rattle.check_groups.specs.Choosing.Nesting.{AreChosenEntries, IsChosenEach, IsChosenEntry, IsChosenPart}
use Rattle.check_groups.proofs.OfChoosing.Joining.{IsThere, both_there, first_there, second_there, to_each}

if_once : (b : Bool) (o q : Option (List Term)) → (IsThere o → IsThere q) → IsThere (if b then o else None) → IsThere (if b then q else None)
if_once true o q h e = h e
if_once false o q h e = e

if_there : (b : Bool) (o : Option (List Term)) → IsThere (if b then o else None) → IsThere o
if_there true o e = e
if_there false o e = cc

not_there : IsThere None → ⊥
not_there e = cc

module _ (ds : List Definition) where
  -- What can be chosen from stays so with more names.
  module _ (f g : List Entries → Option (List Term)) (more : (us : List Entries) → IsThere (f us) → IsThere (g us)) where
    part_more : (t : Term) (p : Part) → IsThere (chosen_part ds f t p) → IsThere (chosen_part ds g t p)
    part_more t asks_type e = refl
    part_more t (names_group r) e = more (group_choices ds r) e
    part_more t (opens r q) e = more (alternatives q) e

    mutual
      group_more : (q : Group) → IsThere (chosen_group ds f q) → IsThere (chosen_group ds g q)
      group_more (sole es) e = entries_more es e
      group_more (orelse q es) e = both_there (chosen_group ds g q) (chosen_entries ds g es) (group_more q (first_there (chosen_group ds f q) (chosen_entries ds f es) e)) (entries_more es (second_there (chosen_group ds f q) (chosen_entries ds f es) e))

      entries_more : (es : Entries) → IsThere (chosen_entries ds f es) → IsThere (chosen_entries ds g es)
      entries_more no_entries e = refl
      entries_more (entries es x c) e = both_there (chosen_entries ds g es) (chosen_entry ds g x) (entries_more es (first_there (chosen_entries ds f es) (chosen_entry ds f x) e)) (entry_more x (second_there (chosen_entries ds f es) (chosen_entry ds f x) e))

      entry_more : (x : Entry) → IsThere (chosen_entry ds f x) → IsThere (chosen_entry ds g x)
      entry_more (typed o t) e = if_once (occurs_once o) (chosen_part ds f t (part_of ds t)) (chosen_part ds g t (part_of ds t)) (part_more t (part_of ds t)) e
      entry_more (keyed o k t) e = e
      entry_more (grouped o q) e = if_once (occurs_once o) (chosen_group ds f q) (chosen_group ds g q) (group_more q) e

    each_more : (ess : List Entries) → IsThere (chosen_each ds f ess) → IsThere (chosen_each ds g ess)
    each_more [] e = refl
    each_more (es ∷ ess) e = both_there (chosen_entries ds g es) (chosen_each ds g ess) (entries_more es (first_there (chosen_entries ds f es) (chosen_each ds f ess) e)) (each_more ess (second_there (chosen_entries ds f es) (chosen_each ds f ess) e))

  one_more : (k : ℕ) (ess : List Entries) → IsThere (chosen_in ds k ess) → IsThere (chosen_in ds (suc k) ess)
  one_more zero ess e = each_more (λ us. None) (λ us. chosen_in ds zero us) (λ us e. cc) ess e
  one_more (suc k) ess e = each_more (λ us. chosen_in ds k us) (λ us. chosen_in ds (suc k) us) (one_more k) ess e

  some_more : (n k : ℕ) (ess : List Entries) → IsThere (chosen_in ds k ess) → IsThere (chosen_in ds (n + k) ess)
  some_more zero k ess e = subst (λ m. IsThere (chosen_in ds m ess)) none e
    where
      none : k ≡ zero + k
      none = omega arith
  some_more (suc n) k ess e = subst (λ m. IsThere (chosen_in ds m ess)) more (one_more (n + k) ess (some_more n k ess e))
    where
      more : suc (n + k) ≡ suc n + k
      more = omega arith

  at_most : (k : ℕ) → k ≤ most_instances → (ess : List Entries) → IsThere (chosen_in ds k ess) → can_choose ds ess ≡ true
  at_most k h ess e = subst (λ m. IsThere (chosen_in ds m ess)) all (some_more (most_instances - k) k ess e)
    where
      all : (most_instances - k) + k ≡ most_instances
      all = omega (arith, h)

  -- The parts of what can be chosen from through some names, where `next` is for what is after a name.
  module _ (next : List Entries → Option (List Term)) (can : (us : List Entries) → IsThere (next us) → can_choose ds us ≡ true) (inner : (g : Group) → IsThere (chosen_group ds next g) → can_choose ds (alternatives g) ≡ true) where
    part_nests : (t : Term) (p : Part) → IsThere (chosen_part ds next t p) → IsChosenPart ds p
    part_nests t asks_type e = tt
    part_nests t (names_group r) e = can (group_choices ds r) e
    part_nests t (opens r g) e = can (alternatives g) e

    entry_nests : (x : Entry) → IsThere (chosen_entry ds next x) → IsChosenEntry ds x
    entry_nests (typed o t) e = part_nests t (part_of ds t) (if_there (occurs_once o) (chosen_part ds next t (part_of ds t)) e)
    entry_nests (keyed o k t) e = tt
    entry_nests (grouped o g) e = inner g (if_there (occurs_once o) (chosen_group ds next g) e)

    entries_nest : (es : Entries) → IsThere (chosen_entries ds next es) → AreChosenEntries ds es
    entries_nest no_entries e = tt
    entries_nest (entries es x c) e = (entries_nest es (first_there (chosen_entries ds next es) (chosen_entry ds next x) e), entry_nests x (second_there (chosen_entries ds next es) (chosen_entry ds next x) e))

    each_nests : (ess : List Entries) → IsThere (chosen_each ds next ess) → IsChosenEach ds ess
    each_nests [] e = tt
    each_nests (es ∷ ess) e = (entries_nest es (first_there (chosen_entries ds next es) (chosen_each ds next ess) e), each_nests ess (second_there (chosen_entries ds next es) (chosen_each ds next ess) e))

  nest_in : (k : ℕ) → k ≤ most_instances → (ess : List Entries) → IsThere (chosen_in ds k ess) → IsChosenEach ds ess
  nest_in zero h ess e = each_nests (λ us. None) (λ us f. absurd (not_there f)) (λ g f. at_most zero h (alternatives g) (to_each ds (λ us. None) g f)) ess e
  nest_in (suc k) h ess e = each_nests (λ us. chosen_in ds k us) (at_most k low) (λ g f. at_most (suc k) h (alternatives g) (to_each ds (λ us. chosen_in ds k us) g f)) ess e
    where
      low : k ≤ most_instances
      low = omega (arith, h)

  pub choices_nest : (ess : List Entries) → can_choose ds ess ≡ true → IsChosenEach ds ess
  choices_nest ess e = nest_in most_instances (omega arith) ess e
