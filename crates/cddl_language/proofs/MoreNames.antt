-- What `&` chooses, literals and members: what is found through so many names is found through more.
use Rattle.std.proofs.Common.{◌≡◌, ℕ, zero, suc, ◌≤◌, Bool, true, false, if◌then◌else◌, List, [], ◌∷◌, Option, Some, None, refl, sym, subst, arith}
use Rattle.lists.proofs.Lemmas.{no_some as none_is_some}
use Rattle.cddl_literal.specs.Numbers.{Meaning}
use Rattle.cddl_language.specs.Numbers.{occurs_once}
use Rattle.cddl_language.specs.Terms.{choice_of, choice_of_name, or, Term, named, parens, control, or, Group, sole, orelse, Entries, no_entries, entries, Entry, typed, keyed, grouped, Definition, alternatives, name_of}
use Rattle.cddl_language.specs.Substitution.{group_choices, type_choices}
use Rattle.cddl_language.specs.Kinds.{Part, asks_type, names_group, opens, is_group, part_of}
use Rattle.cddl_language.specs.Controls.{Computation, Control, left_alone, left_and_right, held_item, held_sequence, compared, Membership, member, computed, control_of}
use Rattle.cddl_language.specs.Choices.{chosen_each, chosen_entries, chosen_entry, chosen_group, chosen_in, chosen_part, types_of_both}
use Rattle.cddl_language.specs.Literals.{Values, computed_literal, controlled_literal, literal_by, literal_in, only_choice}
use Rattle.cddl_language.specs.Sizes.{Behind, a_type, a_group, Sizes, all_sizes, behind_sizes, both_sizes, chosen_sizes, each_sizes, entries_sizes, entry_sizes, group_sizes, members_in, opens_choices, part_sizes, term_sizes}

-- what the one option has, the other has too
abbrev Follows : {A : Type 0} → Option A → Option A → Type 0
Follows {A = A} o q = (a : A) → o ≡ Some a → q ≡ Some a

if_once : {A : Type 0} (b : Bool) (o q : Option A) → Follows o q → Follows (if b then o else None) (if b then q else None)
if_once true o q h = h
if_once false o q h = λ a e. e

if_type : {A : Type 0} (b : Bool) (o q : Option A) → Follows o q → Follows (if b then None else o) (if b then None else q)
if_type true o q h = λ a e. e
if_type false o q h = h

-- what `&` chooses

joined_follows : (o q p s : Option (List Term)) → Follows o p → Follows q s → Follows (types_of_both o q) (types_of_both p s)
joined_follows (Some ts) (Some us) p s h k vs e = subst (λ x. types_of_both x s ≡ Some vs) (sym (h ts refl)) (subst (λ y. types_of_both (Some ts) y ≡ Some vs) (sym (k us refl)) e)
joined_follows (Some ts) None p s h k vs e = absurd (none_is_some e)
joined_follows None q p s h k vs e = absurd (none_is_some e)

module _ (ds : List Definition) where
  module _ (f g : List Entries → Option (List Term)) (follows : (ess : List Entries) → Follows (f ess) (g ess)) where
    part_follows : (t : Term) (p : Part) → Follows (chosen_part ds f t p) (chosen_part ds g t p)
    part_follows t asks_type ts e = e
    part_follows t (names_group r) ts e = follows (group_choices ds r) ts e
    part_follows t (opens r h) ts e = follows (alternatives h) ts e

    mutual
      group_follows : (h : Group) → Follows (chosen_group ds f h) (chosen_group ds g h)
      group_follows (sole es) ts e = entries_follow es ts e
      group_follows (orelse h es) ts e = joined_follows (chosen_group ds f h) (chosen_entries ds f es) (chosen_group ds g h) (chosen_entries ds g es) (group_follows h) (entries_follow es) ts e

      entries_follow : (es : Entries) → Follows (chosen_entries ds f es) (chosen_entries ds g es)
      entries_follow no_entries ts e = e
      entries_follow (entries es d c) ts e = joined_follows (chosen_entries ds f es) (chosen_entry ds f d) (chosen_entries ds g es) (chosen_entry ds g d) (entries_follow es) (entry_follows d) ts e

      entry_follows : (d : Entry) → Follows (chosen_entry ds f d) (chosen_entry ds g d)
      entry_follows (typed o t) ts e = if_once (occurs_once o) (chosen_part ds f t (part_of ds t)) (chosen_part ds g t (part_of ds t)) (part_follows t (part_of ds t)) ts e
      entry_follows (keyed o k t) ts e = e
      entry_follows (grouped o h) ts e = if_once (occurs_once o) (chosen_group ds f h) (chosen_group ds g h) (group_follows h) ts e

    each_follows : (ess : List Entries) → Follows (chosen_each ds f ess) (chosen_each ds g ess)
    each_follows [] ts e = e
    each_follows (es ∷ ess) ts e = joined_follows (chosen_entries ds f es) (chosen_each ds f ess) (chosen_entries ds g es) (chosen_each ds g ess) (entries_follow es) (each_follows ess) ts e

  pub more_choices : (k n : ℕ) → k ≤ n → (ess : List Entries) → Follows (chosen_in ds k ess) (chosen_in ds n ess)
  more_choices zero zero h ess ts e = e
  more_choices zero (suc n) h ess ts e = each_follows (λ us. None) (λ us. chosen_in ds n us) (λ us vs i. absurd (none_is_some i)) ess ts e
  more_choices (suc k) zero h ess ts e = absurd (omega (arith, h))
  more_choices (suc k) (suc n) h ess ts e = each_follows (λ us. chosen_in ds k us) (λ us. chosen_in ds n us) (more_choices k n (omega (arith, h))) ess ts e

-- literals

computed_follows : (c : Computation) (o q p s : Option Meaning) → Follows o p → Follows q s → Follows (computed_literal c o q) (computed_literal c p s)
computed_follows c (Some a) (Some b) p s h k m e = subst (λ x. computed_literal c x s ≡ Some m) (sym (h a refl)) (subst (λ y. computed_literal c (Some a) y ≡ Some m) (sym (k b refl)) e)
computed_follows c (Some a) None p s h k m e = absurd (none_is_some e)
computed_follows c None q p s h k m e = absurd (none_is_some e)

control_follows : (x : Option Control) (o q p s : Option Meaning) → Follows o p → Follows q s → Follows (controlled_literal x o q) (controlled_literal x p s)
control_follows (Some (computed c)) o q p s h k m e = computed_follows c o q p s h k m e
control_follows (Some left_alone) o q p s h k m e = absurd (none_is_some e)
control_follows (Some left_and_right) o q p s h k m e = absurd (none_is_some e)
control_follows (Some held_item) o q p s h k m e = absurd (none_is_some e)
control_follows (Some held_sequence) o q p s h k m e = absurd (none_is_some e)
control_follows (Some (compared c)) o q p s h k m e = absurd (none_is_some e)
control_follows (Some (member r)) o q p s h k m e = absurd (none_is_some e)
control_follows None o q p s h k m e = absurd (none_is_some e)

both_follow : (o q p s : Option Sizes) → Follows o p → Follows q s → Follows (both_sizes o q) (both_sizes p s)
both_follow (Some rs) (Some ss) p s h k m e = subst (λ x. both_sizes x s ≡ Some m) (sym (h rs refl)) (subst (λ y. both_sizes (Some rs) y ≡ Some m) (sym (k ss refl)) e)
both_follow (Some rs) None p s h k m e = absurd (none_is_some e)
both_follow None q p s h k m e = absurd (none_is_some e)

module _ (worth : Values) (ds : List Definition) where
  module _ (f g : Term → Option Meaning) (follows : (t : Term) → Follows (f t) (g t)) where
    only_follows : (ts : List Term) → Follows (only_choice worth ds f ts) (only_choice worth ds g ts)
    only_follows [] m e = e
    only_follows (t ∷ []) m e = follows t m e
    only_follows (t ∷ u ∷ ts) m e = e

    literal_follows : (t : Term) → Follows (literal_by worth ds f t) (literal_by worth ds g t)
    literal_follows (named r) m e = if_type (is_group ds (name_of r)) (only_choice worth ds f (type_choices ds r)) (only_choice worth ds g (type_choices ds r)) (only_follows (type_choices ds r)) m e
    literal_follows (parens t) m e = literal_follows t m e
    literal_follows (control a n b) m e = control_follows (control_of n) (literal_by worth ds f a) (literal_by worth ds f b) (literal_by worth ds g a) (literal_by worth ds g b) (literal_follows a) (literal_follows b) m e
    literal_follows _ m e = e

  pub more_literals : (k n : ℕ) → k ≤ n → (t : Term) → Follows (literal_in worth ds k t) (literal_in worth ds n t)
  more_literals zero zero h t m e = e
  more_literals zero (suc n) h t m e = literal_follows (λ u. None) (λ u. literal_in worth ds n u) (λ u v i. absurd (none_is_some i)) t m e
  more_literals (suc k) zero h t m e = absurd (omega (arith, h))
  more_literals (suc k) (suc n) h t m e = literal_follows (λ u. literal_in worth ds k u) (λ u. literal_in worth ds n u) (more_literals k n (omega (arith, h))) t m e

-- members

module _ (m : Membership) (worth : Values) (ds : List Definition) where
  module _ (f g : Behind → Option Sizes) (follows : (b : Behind) → Follows (f b) (g b)) where
    all_follow : (ts : List Term) → Follows (all_sizes f ts) (all_sizes g ts)
    all_follow [] rs e = e
    all_follow (t ∷ ts) rs e = both_follow (f (a_type t)) (all_sizes f ts) (g (a_type t)) (all_sizes g ts) (follows (a_type t)) (all_follow ts) rs e

    behind_group : (ess : List Entries) → Follows (group_sizes f ess) (group_sizes g ess)
    behind_group [] rs e = e
    behind_group (es ∷ ess) rs e = follows (a_group (es ∷ ess)) rs e

    behind_part : (p : Part) (o q : Option Sizes) → Follows o q → Follows (part_sizes m worth ds f p o) (part_sizes m worth ds g p q)
    behind_part asks_type o q h rs e = h rs e
    behind_part (names_group r) o q h rs e = behind_group (group_choices ds r) rs e
    behind_part (opens r d) o q h rs e = behind_group (alternatives d) rs e

    if_opened : (b : Bool) (o q : Option Sizes) → Follows o q → Follows (if b then o else None) (if b then q else None)
    if_opened true o q h rs e = h rs e
    if_opened false o q h rs e = e

    mutual
      term_follows : (t : Term) → Follows (term_sizes m worth ds f t) (term_sizes m worth ds g t)
      term_follows (named r) rs e = if_type (is_group ds (name_of r)) (all_sizes f (type_choices ds r)) (all_sizes g (type_choices ds r)) (all_follow (type_choices ds r)) rs e
      term_follows (parens t) rs e = term_follows t rs e
      term_follows (or t u) rs e = both_follow (term_sizes m worth ds f t) (term_sizes m worth ds f u) (term_sizes m worth ds g t) (term_sizes m worth ds g u) (term_follows t) (term_follows u) rs e
      term_follows (choice_of d) rs e = if_opened (opens_choices m) (chosen_sizes m worth ds f d) (chosen_sizes m worth ds g d) (chosen_follow d) rs e
      term_follows (choice_of_name r) rs e = if_opened (opens_choices m) (group_sizes f (group_choices ds r)) (group_sizes g (group_choices ds r)) (behind_group (group_choices ds r)) rs e
      term_follows _ rs e = e

      chosen_follow : (d : Group) → Follows (chosen_sizes m worth ds f d) (chosen_sizes m worth ds g d)
      chosen_follow (sole es) rs e = entries_sizes_follow es rs e
      chosen_follow (orelse d es) rs e = both_follow (chosen_sizes m worth ds f d) (entries_sizes m worth ds f es) (chosen_sizes m worth ds g d) (entries_sizes m worth ds g es) (chosen_follow d) (entries_sizes_follow es) rs e

      entries_sizes_follow : (es : Entries) → Follows (entries_sizes m worth ds f es) (entries_sizes m worth ds g es)
      entries_sizes_follow no_entries rs e = e
      entries_sizes_follow (entries es d c) rs e = both_follow (entries_sizes m worth ds f es) (entry_sizes m worth ds f d) (entries_sizes m worth ds g es) (entry_sizes m worth ds g d) (entries_sizes_follow es) (entry_sizes_follow d) rs e

      entry_sizes_follow : (d : Entry) → Follows (entry_sizes m worth ds f d) (entry_sizes m worth ds g d)
      entry_sizes_follow (typed o t) rs e = if_opened (occurs_once o) (part_sizes m worth ds f (part_of ds t) (term_sizes m worth ds f t)) (part_sizes m worth ds g (part_of ds t) (term_sizes m worth ds g t)) (behind_part (part_of ds t) (term_sizes m worth ds f t) (term_sizes m worth ds g t) (term_follows t)) rs e
      entry_sizes_follow (keyed o k t) rs e = if_opened (occurs_once o) (term_sizes m worth ds f t) (term_sizes m worth ds g t) (term_follows t) rs e
      entry_sizes_follow (grouped o d) rs e = if_opened (occurs_once o) (chosen_sizes m worth ds f d) (chosen_sizes m worth ds g d) (chosen_follow d) rs e

    each_sizes_follow : (ess : List Entries) → Follows (each_sizes m worth ds f ess) (each_sizes m worth ds g ess)
    each_sizes_follow [] rs e = e
    each_sizes_follow (es ∷ ess) rs e = both_follow (entries_sizes m worth ds f es) (each_sizes m worth ds f ess) (entries_sizes m worth ds g es) (each_sizes m worth ds g ess) (entries_sizes_follow es) (each_sizes_follow ess) rs e

    behind_follow : (b : Behind) → Follows (behind_sizes m worth ds f b) (behind_sizes m worth ds g b)
    behind_follow (a_type t) = term_follows t
    behind_follow (a_group ess) = each_sizes_follow ess

  pub more_members : (k n : ℕ) → k ≤ n → (b : Behind) → Follows (members_in m worth ds k b) (members_in m worth ds n b)
  more_members zero zero h b rs e = e
  more_members zero (suc n) h b rs e = behind_follow (λ c. None) (λ c. members_in m worth ds n c) (λ c v i. absurd (none_is_some i)) b rs e
  more_members (suc k) zero h b rs e = absurd (omega (arith, h))
  more_members (suc k) (suc n) h b rs e = behind_follow (λ c. members_in m worth ds k c) (λ c. members_in m worth ds n c) (more_members k n (omega (arith, h))) b rs e
