-- Free references: those that are asked before an item is surely taken or gone into. A cycle of them asks the same
-- question again for ever, so it is refused (RFC 8610 does not say what it would mean).
use Rattle.std.specs.Prelude.{◌≡◌, ◌⊎◌, Bool, true, false, List, ◌∷◌, Contains, Option, Some}
use Rattle.cddl_language.specs.Controls.{control_of, is_asked_here}
use Rattle.cddl_language.specs.Numbers.{least_of}
use Rattle.cddl_language.specs.Terms.{Text, Term, named, parens, array_of, unwrapped, choice_of, choice_of_name, simple_by, control, or, Ref, Group, Entries, no_entries, entries, Entry, typed, keyed, grouped, Key, Definition, alternatives, occurrence_of, name_of}
use Rattle.cddl_language.specs.Substitution.{type_choices, group_choices}
use Rattle.cddl_language.specs.Choices.{can_choose}
use Rattle.cddl_language.specs.Kinds.{opened, opens_group, opens_type, is_group, asks_type, names_group, opens, part_of}
use Rattle.cddl_language.specs.Reach.{Point, at_name, at_unwrapping, at_choice, at_chosen_name, at_opened_choice, ref_at, is_reference, Reaches}

-- Groups that may be empty: the least set. An entry may be empty where it may stand no time, or where its group may be
-- empty; a list of entries where each may; alternatives where one may.
mutual
  pub data EntryMayBeEmpty (ds : List Definition) : Entry → Type 0 where
    no_time : {e : Entry} → least_of (occurrence_of e) ≡ 0 → EntryMayBeEmpty ds e
    by_name : {o : Option Text} {t : Term} {r : Ref} → part_of ds t ≡ names_group r → SomeMayBeEmpty ds (group_choices ds r) → EntryMayBeEmpty ds (typed o t)
    by_opening : {o : Option Text} {t : Term} {r : Ref} {g : Group} → part_of ds t ≡ opens r g → SomeMayBeEmpty ds (alternatives g) → EntryMayBeEmpty ds (typed o t)
    by_group : {o : Option Text} {g : Group} → SomeMayBeEmpty ds (alternatives g) → EntryMayBeEmpty ds (grouped o g)

  pub data MayBeEmpty (ds : List Definition) : Entries → Type 0 where
    none_left : MayBeEmpty ds no_entries
    all_may : {es : Entries} {e : Entry} {c : Bool} → MayBeEmpty ds es → EntryMayBeEmpty ds e → MayBeEmpty ds (entries es e c)

  pub data SomeMayBeEmpty (ds : List Definition) : List Entries → Type 0 where
    this_may : {es : Entries} {ess : List Entries} → MayBeEmpty ds es → SomeMayBeEmpty ds (es ∷ ess)
    later_may : {es : Entries} {ess : List Entries} → SomeMayBeEmpty ds ess → SomeMayBeEmpty ds (es ∷ ess)

module _ (ds : List Definition) where
  -- the reference stands free in the type, in a list of alternatives, in one, in an entry
  mutual
    pub data IsFree (p : Point) : Term → Type 0 where
      name : {r : Ref} → p ≡ at_name r → IsFree p (named r)
      unwrapping : {r : Ref} → p ≡ at_unwrapping r → IsFree p (unwrapped r)
      choice_by_name : {r : Ref} → p ≡ at_choice r → IsFree p (choice_of_name r)
      in_parens : {t : Term} → IsFree p t → IsFree p (parens t)
      in_first : {t u : Term} → IsFree p t → IsFree p (or t u)
      in_second : {t u : Term} → IsFree p u → IsFree p (or t u)
      in_array : {g : Group} → IsFreeInSome p (alternatives g) → IsFree p (array_of g)
      in_choice : {g : Group} → IsFreeInChoice p (alternatives g) → IsFree p (choice_of g)
      in_head : {h : Term} → IsFree p h → IsFree p (simple_by h)
      in_left : {a b : Term} {n : Text} → IsFree p a → IsFree p (control a n b)
      in_controller : {a b : Term} {n : Text} → is_asked_here (control_of n) ≡ true → IsFree p b → IsFree p (control a n b)

    pub data IsFreeInSome (p : Point) : List Entries → Type 0 where
      in_this : {es : Entries} {ess : List Entries} → IsFreeInEach p es → IsFreeInSome p (es ∷ ess)
      in_later : {es : Entries} {ess : List Entries} → IsFreeInSome p ess → IsFreeInSome p (es ∷ ess)

    -- in an entry where all before it may be empty
    pub data IsFreeInEach (p : Point) : Entries → Type 0 where
      in_last : {es : Entries} {e : Entry} {c : Bool} → MayBeEmpty ds es → IsFreeInEntry p e → IsFreeInEach p (entries es e c)
      in_earlier : {es : Entries} {e : Entry} {c : Bool} → IsFreeInEach p es → IsFreeInEach p (entries es e c)

    -- an entry of a type goes into an item; so nothing in the type is free
    pub data IsFreeInEntry (p : Point) : Entry → Type 0 where
      group_name : {o : Option Text} {t : Term} {r : Ref} → part_of ds t ≡ names_group r → p ≡ at_name r → IsFreeInEntry p (typed o t)
      group_opened : {o : Option Text} {t : Term} {r : Ref} {g : Group} → part_of ds t ≡ opens r g → p ≡ at_unwrapping r → IsFreeInEntry p (typed o t)
      in_group : {o : Option Text} {g : Group} → IsFreeInSome p (alternatives g) → IsFreeInEntry p (grouped o g)

    -- In what `&` chooses from: in the types of all entries. Through the name of a group, and through what `~` unwraps, it goes to
    -- the types of the entries there.
    pub data IsFreeInChoice (p : Point) : List Entries → Type 0 where
      of_this : {es : Entries} {ess : List Entries} → IsFreeInChosen p es → IsFreeInChoice p (es ∷ ess)
      of_later : {es : Entries} {ess : List Entries} → IsFreeInChoice p ess → IsFreeInChoice p (es ∷ ess)

    pub data IsFreeInChosen (p : Point) : Entries → Type 0 where
      of_last : {es : Entries} {e : Entry} {c : Bool} → IsFreeInChosenEntry p e → IsFreeInChosen p (entries es e c)
      of_earlier : {es : Entries} {e : Entry} {c : Bool} → IsFreeInChosen p es → IsFreeInChosen p (entries es e c)

    pub data IsFreeInChosenEntry (p : Point) : Entry → Type 0 where
      of_type : {o : Option Text} {t : Term} → part_of ds t ≡ asks_type → IsFree p t → IsFreeInChosenEntry p (typed o t)
      of_name : {o : Option Text} {t : Term} {r : Ref} → part_of ds t ≡ names_group r → p ≡ at_chosen_name r → IsFreeInChosenEntry p (typed o t)
      of_opened : {o : Option Text} {t : Term} {r : Ref} {g : Group} → part_of ds t ≡ opens r g → p ≡ at_opened_choice r → IsFreeInChosenEntry p (typed o t)
      of_keyed : {o : Option Text} {k : Key} {t : Term} → IsFree p t → IsFreeInChosenEntry p (keyed o k t)
      of_group : {o : Option Text} {g : Group} → IsFreeInChoice p (alternatives g) → IsFreeInChosenEntry p (grouped o g)

  -- p is free in what q means. The choice from a group means something only where `&` can choose from it: a group that comes
  -- back to itself is no choice, and where nothing chooses from it that is no fault.
  pub data IsFreeInMeaning (p : Point) : Point → Type 0 where
    by_type : {r : Ref} {t : Term} → is_group ds (name_of r) ≡ false → Contains (type_choices ds r) t → IsFree p t → IsFreeInMeaning p (at_name r)
    by_group : {r : Ref} → is_group ds (name_of r) ≡ true → IsFreeInSome p (group_choices ds r) → IsFreeInMeaning p (at_name r)
    by_opened_group : {r : Ref} {g : Group} → opened ds r ≡ Some (opens_group g) → IsFreeInSome p (alternatives g) → IsFreeInMeaning p (at_unwrapping r)
    by_content : {r : Ref} {t : Term} → opened ds r ≡ Some (opens_type t) → IsFree p t → IsFreeInMeaning p (at_unwrapping r)
    by_choice : {r : Ref} → p ≡ at_chosen_name r → IsFreeInMeaning p (at_choice r)
    by_chosen_name : {r : Ref} → can_choose ds (group_choices ds r) ≡ true → IsFreeInChoice p (group_choices ds r) → IsFreeInMeaning p (at_chosen_name r)
    by_opened_choice : {r : Ref} {g : Group} → opened ds r ≡ Some (opens_group g) → can_choose ds (alternatives g) ≡ true → IsFreeInChoice p (alternatives g) → IsFreeInMeaning p (at_opened_choice r)

  -- from p over one step or more to q
  pub data LeadsOn : Point → Point → Type 0 where
    at_once : {p q : Point} → IsFreeInMeaning q p → LeadsOn p q
    onwards : {p q s : Point} → IsFreeInMeaning q p → LeadsOn q s → LeadsOn p s

  -- from a point of an instance back to itself
  pub record LeadsBack (root : Text) (p : Point) : Type 0 where
    pub instance : Reaches ds root (ref_at p)
    pub way : LeadsOn p p

  -- A reference that leads back to itself. A choice can also lead back through names of groups alone, as `b = (x: &(b))` does;
  -- where no reference does, these names count.
  pub record IsOnCycle (root : Text) (p : Point) : Type 0 where
    pub back : LeadsBack root p
    pub counts : (is_reference p ≡ true) ⊎ ((q : Point) → is_reference q ≡ true → LeadsBack root q → ⊥)
