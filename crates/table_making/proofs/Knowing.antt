-- Parts that are known: all references in them are instances, and each written value in them is taken for what it stands for.
use Rattle.std.proofs.Common.{◌≡◌, true, false, if◌then◌else◌, Bool, List, [], ◌∷◌, ◌++◌, Some, None, Option, refl}
use Rattle.std.specs.Prelude.{Contains}
use Rattle.lists.proofs.Lemmas.{at_head as head_in, later as tail_in}
use Rattle.cddl_language.specs.Terms.{Literal, Term, literal, named, parens, map_of, array_of, unwrapped, choice_of, choice_of_name, tagged, tagged_by, simple_by, hash, range, control, or, Ref, name_of, Group, sole, orelse, Entries, no_entries, entries, Entry, Definition, alternatives, choices, entry_list, stripped}
use Rattle.cddl_language.specs.Kinds as K
use Rattle.cddl_language.specs.Kinds.{Opened, opens_group, opens_type, opened, is_group}
use Rattle.cddl_language.specs.Reach.{points, entries_points, entry_points}
use Rattle.cddl_language.specs.Written.Written.{AllInGroup, AllInEntries, IsMeant}
use Rattle.table_making.specs.Basis.{Sense}
use Rattle.table_making.specs.Origins.{AllInEach, AreKnown, AreKnownEntries, IsKnown, IsKnownEntry, IsKnownGroup, all_points}
use Rattle.table_making.proofs.Reaching.{group_reached, reached_left, reached_right}

-- Written values in alternatives.
module _ (P : Literal → Type 0) where
  each_of_two : (ess uss : List Entries) → AllInEach P ess → AllInEach P uss → AllInEach P (ess ++ uss)
  each_of_two [] uss f g = g
  each_of_two (es ∷ ess) uss f g = (f.0, each_of_two ess uss f.1 g)

  each_left : (ess uss : List Entries) → AllInEach P (ess ++ uss) → AllInEach P ess
  each_left [] uss f = tt
  each_left (es ∷ ess) uss f = (f.0, each_left ess uss f.1)

  each_right : (ess uss : List Entries) → AllInEach P (ess ++ uss) → AllInEach P uss
  each_right [] uss f = f
  each_right (es ∷ ess) uss f = each_right ess uss f.1

  each_in_group : (g : Group) → AllInGroup P g → AllInEach P (alternatives g)
  each_in_group (sole es) f = (f, tt)
  each_in_group (orelse g es) f = each_of_two (alternatives g) (es ∷ []) (each_in_group g f.0) (f.1, tt)

  pub group_by_each : (g : Group) → AllInEach P (alternatives g) → AllInGroup P g
  group_by_each (sole es) f = f.0
  group_by_each (orelse g es) f = (group_by_each g (each_left (alternatives g) (es ∷ []) f), (each_right (alternatives g) (es ∷ []) f).0)

  pub each_contained_in : (ess : List Entries) → ((es : Entries) → Contains ess es → AllInEntries P es) → AllInEach P ess
  each_contained_in [] f = tt
  each_contained_in (es ∷ ess) f = (f es (head_in es ess), each_contained_in ess (λ us h. f us (tail_in es ess us h)))

module _ (s : Sense) where
  pub group_known : (g : Group) → IsKnownGroup s g → AreKnown s (alternatives g)
  group_known g f = (group_reached s g f.0, each_in_group (IsMeant s.worth) g f.1)

  pub first_known : (es : Entries) (ess : List Entries) → AreKnown s (es ∷ ess) → AreKnownEntries s es
  first_known es ess f = (reached_left s (entries_points es) (all_points ess) f.0, f.1.0)

  pub rest_known : (es : Entries) (ess : List Entries) → AreKnown s (es ∷ ess) → AreKnown s ess
  rest_known es ess f = (reached_right s (entries_points es) (all_points ess) f.0, f.1.1)

  -- each entry

  pub data EachEntry : List Entry → Type 0 where
    no_entry : EachEntry []
    and_entry : {e : Entry} {es : List Entry} → IsKnownEntry s e → EachEntry es → EachEntry (e ∷ es)

  entries_joined : (es us : List Entry) → EachEntry es → EachEntry us → EachEntry (es ++ us)
  entries_joined [] us f g = g
  entries_joined (e ∷ es) us (and_entry h f) g = and_entry h (entries_joined es us f g)

  pub each_entry : (es : Entries) → AreKnownEntries s es → EachEntry (entry_list es)
  each_entry no_entries f = no_entry
  each_entry (entries es e c) f = entries_joined (entry_list es) (e ∷ []) (each_entry es (reached_left s (entries_points es) (entry_points e) f.0, f.1.0)) (and_entry (reached_right s (entries_points es) (entry_points e) f.0, f.1.1) no_entry)

  -- each type

  pub data EachType : List Term → Type 0 where
    no_type : EachType []
    and_type : {x : Term} {xs : List Term} → IsKnown s x → EachType xs → EachType (x ∷ xs)

  types_joined : (xs ys : List Term) → EachType xs → EachType ys → EachType (xs ++ ys)
  types_joined [] ys f g = g
  types_joined (x ∷ xs) ys (and_type h f) g = and_type h (types_joined xs ys f g)

  one_type : (x : Term) → IsKnown s x → EachType (x ∷ [])
  one_type x f = and_type f no_type

  pub each_choice : (x : Term) → IsKnown s x → EachType (choices x)
  each_choice (or y z) f = types_joined (choices y) (z ∷ []) (each_choice y (reached_left s (points y) (points z) f.0, f.1.0)) (one_type z (reached_right s (points y) (points z) f.0, f.1.1))
  each_choice (literal v) f = one_type (literal v) f
  each_choice (named r) f = one_type (named r) f
  each_choice (parens y) f = one_type (parens y) f
  each_choice (map_of g) f = one_type (map_of g) f
  each_choice (array_of g) f = one_type (array_of g) f
  each_choice (unwrapped r) f = one_type (unwrapped r) f
  each_choice (choice_of g) f = one_type (choice_of g) f
  each_choice (choice_of_name r) f = one_type (choice_of_name r) f
  each_choice (tagged n y) f = one_type (tagged n y) f
  each_choice (tagged_by y z) f = one_type (tagged_by y z) f
  each_choice (simple_by y) f = one_type (simple_by y) f
  each_choice (hash n) f = one_type (hash n) f
  each_choice (range y c z) f = one_type (range y c z) f
  each_choice (control y n z) f = one_type (control y n z) f

  pub each_contained : (xs : List Term) → ((x : Term) → Contains xs x → IsKnown s x) → EachType xs
  each_contained [] f = no_type
  each_contained (x ∷ xs) f = and_type (f x (head_in x xs)) (each_contained xs (λ y h. f y (tail_in x xs y h)))

-- The group that an entry opens is the one that `~` of the reference opens.
module _ (ds : List Definition) (r : Ref) (g : Group) where
  by_opened : (q : Ref) (o : Option Opened) → opened ds q ≡ o → K.opened_part q o ≡ K.opens r g → opened ds r ≡ Some (opens_group g)
  by_opened q (Some (opens_group h)) e f = same q h e f
    where
      same : (q : Ref) (h : Group) → opened ds q ≡ Some (opens_group h) → K.opens q h ≡ K.opens r g → opened ds r ≡ Some (opens_group g)
      same q h e f = cc
  by_opened q (Some (opens_type t)) e f = cc
  by_opened q None e f = cc

  by_kind : (q : Ref) (b : Bool) → (if b then K.names_group q else K.asks_type) ≡ K.opens r g → ⊥
  by_kind q true e = cc
  by_kind q false e = cc

  by_stripped : (x : Term) → K.stripped_part ds x ≡ K.opens r g → opened ds r ≡ Some (opens_group g)
  by_stripped (named q) e = absurd (by_kind q (is_group ds (name_of q)) e)
  by_stripped (unwrapped q) e = by_opened q (opened ds q) refl e
  by_stripped (literal v) e = cc
  by_stripped (parens y) e = cc
  by_stripped (map_of h) e = cc
  by_stripped (array_of h) e = cc
  by_stripped (choice_of h) e = cc
  by_stripped (choice_of_name q) e = cc
  by_stripped (tagged n y) e = cc
  by_stripped (tagged_by y z) e = cc
  by_stripped (simple_by y) e = cc
  by_stripped (hash n) e = cc
  by_stripped (range y c z) e = cc
  by_stripped (control y n z) e = cc
  by_stripped (or y z) e = cc

  pub part_opened : (x : Term) → K.part_of ds x ≡ K.opens r g → opened ds r ≡ Some (opens_group g)
  part_opened x e = by_stripped (stripped x) e
