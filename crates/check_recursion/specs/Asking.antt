-- What is asked when something else is asked of an item, before the item is taken or gone into.
use Rattle.std.specs.Prelude.{◌≡◌, Bool, true, false, List, [], ◌∷◌, Contains, Option, Some}
use Rattle.cddl_language.specs.Terms.{Text, Term, named, parens, array_of, unwrapped, choice_of, choice_of_name, simple_by, control, or, Ref, Group, sole, orelse, Entries, entries, Entry, typed, keyed, grouped, Key, Definition, alternatives, name_of}
use Rattle.cddl_language.specs.Substitution.{type_choices, group_choices}
use Rattle.cddl_language.specs.Choices.{can_choose}
use Rattle.cddl_language.specs.Kinds.{opened, opens_group, opens_type, is_group, asks_type, names_group, opens, part_of}
use Rattle.cddl_language.specs.Reach.{Point, at_name, at_unwrapping, at_choice, at_chosen_name, at_opened_choice, points, group_points, entries_points, entry_points}
use Rattle.cddl_language.specs.Controls.{control_of, is_asked_here}
use Rattle.cddl_language.specs.Free.{MayBeEmpty}
use Rattle.check_instances.specs.Closed.Closed.{AreReached}

-- a type, a group or a part of one; one from which `&` chooses; a reference by itself, after `~` or after `&`
pub data Asked : Type 0 where
  a_type : Term → Asked
  a_group : Group → Asked
  some_entries : Entries → Asked
  an_entry : Entry → Asked
  chosen_group : Group → Asked
  chosen_entries : Entries → Asked
  chosen_entry : Entry → Asked
  a_point : Point → Asked

abbrev pub asked_points : Asked → List Point
asked_points (a_type t) = points t
asked_points (a_group g) = group_points g
asked_points (some_entries es) = entries_points es
asked_points (an_entry e) = entry_points e
asked_points (chosen_group g) = group_points g
asked_points (chosen_entries es) = entries_points es
asked_points (chosen_entry e) = entry_points e
asked_points (a_point p) = p ∷ []

-- all references in it are instances
abbrev pub IsReached : List Definition → Text → Asked → Type 0
IsReached ds root a = AreReached ds root (asked_points a)

module _ (ds : List Definition) where
  -- The first asks the second. `&` asks the types that it chooses through the entries that have them, and what has a name or
  -- is opened only where it can choose from it.
  pub data Asks : Asked → Asked → Type 0 where
    by_name : {r : Ref} → Asks (a_type (named r)) (a_point (at_name r))
    by_unwrapping : {r : Ref} → Asks (a_type (unwrapped r)) (a_point (at_unwrapping r))
    by_choice : {r : Ref} → Asks (a_type (choice_of_name r)) (a_point (at_choice r))
    in_parens : {t : Term} → Asks (a_type (parens t)) (a_type t)
    in_first : {t u : Term} → Asks (a_type (or t u)) (a_type t)
    in_second : {t u : Term} → Asks (a_type (or t u)) (a_type u)
    in_array : {g : Group} → Asks (a_type (array_of g)) (a_group g)
    in_choice : {g : Group} → Asks (a_type (choice_of g)) (chosen_group g)
    in_head : {h : Term} → Asks (a_type (simple_by h)) (a_type h)
    in_left : {a b : Term} {n : Text} → Asks (a_type (control a n b)) (a_type a)
    in_controller : {a b : Term} {n : Text} → is_asked_here (control_of n) ≡ true → Asks (a_type (control a n b)) (a_type b)
    sole_entries : {es : Entries} → Asks (a_group (sole es)) (some_entries es)
    other_alternatives : {g : Group} {es : Entries} → Asks (a_group (orelse g es)) (a_group g)
    last_alternative : {g : Group} {es : Entries} → Asks (a_group (orelse g es)) (some_entries es)
    earlier_entries : {es : Entries} {e : Entry} {c : Bool} → Asks (some_entries (entries es e c)) (some_entries es)
    last_entry : {es : Entries} {e : Entry} {c : Bool} → MayBeEmpty ds es → Asks (some_entries (entries es e c)) (an_entry e)
    group_name : {o : Option Text} {t : Term} {r : Ref} → part_of ds t ≡ names_group r → Asks (an_entry (typed o t)) (a_point (at_name r))
    group_opened : {o : Option Text} {t : Term} {r : Ref} {g : Group} → part_of ds t ≡ opens r g → Asks (an_entry (typed o t)) (a_point (at_unwrapping r))
    in_group : {o : Option Text} {g : Group} → Asks (an_entry (grouped o g)) (a_group g)
    chosen_sole : {es : Entries} → Asks (chosen_group (sole es)) (chosen_entries es)
    chosen_others : {g : Group} {es : Entries} → Asks (chosen_group (orelse g es)) (chosen_group g)
    chosen_alternative : {g : Group} {es : Entries} → Asks (chosen_group (orelse g es)) (chosen_entries es)
    chosen_earlier : {es : Entries} {e : Entry} {c : Bool} → Asks (chosen_entries (entries es e c)) (chosen_entries es)
    chosen_last : {es : Entries} {e : Entry} {c : Bool} → Asks (chosen_entries (entries es e c)) (chosen_entry e)
    chosen_type : {o : Option Text} {t : Term} → part_of ds t ≡ asks_type → Asks (chosen_entry (typed o t)) (a_type t)
    chosen_name : {o : Option Text} {t : Term} {r : Ref} → part_of ds t ≡ names_group r → Asks (chosen_entry (typed o t)) (a_point (at_chosen_name r))
    chosen_opened : {o : Option Text} {t : Term} {r : Ref} {g : Group} → part_of ds t ≡ opens r g → Asks (chosen_entry (typed o t)) (a_point (at_opened_choice r))
    chosen_keyed : {o : Option Text} {k : Key} {t : Term} → Asks (chosen_entry (keyed o k t)) (a_type t)
    chosen_inner : {o : Option Text} {g : Group} → Asks (chosen_entry (grouped o g)) (chosen_group g)
    means_type : {r : Ref} {t : Term} → is_group ds (name_of r) ≡ false → Contains (type_choices ds r) t → Asks (a_point (at_name r)) (a_type t)
    means_group : {r : Ref} {g : Group} → is_group ds (name_of r) ≡ true → alternatives g ≡ group_choices ds r → Asks (a_point (at_name r)) (a_group g)
    opens_a_group : {r : Ref} {g : Group} → opened ds r ≡ Some (opens_group g) → Asks (a_point (at_unwrapping r)) (a_group g)
    opens_content : {r : Ref} {t : Term} → opened ds r ≡ Some (opens_type t) → Asks (a_point (at_unwrapping r)) (a_type t)
    chooses_by_name : {r : Ref} → Asks (a_point (at_choice r)) (a_point (at_chosen_name r))
    chooses : {r : Ref} {g : Group} → alternatives g ≡ group_choices ds r → can_choose ds (alternatives g) ≡ true → Asks (a_point (at_chosen_name r)) (chosen_group g)
    chooses_opened : {r : Ref} {g : Group} → opened ds r ≡ Some (opens_group g) → can_choose ds (alternatives g) ≡ true → Asks (a_point (at_opened_choice r)) (chosen_group g)

  -- over one step or more
  pub data AsksOn : Asked → Asked → Type 0 where
    at_once : {a b : Asked} → Asks a b → AsksOn a b
    onwards : {a b c : Asked} → Asks a b → AsksOn b c → AsksOn a c
