-- What is free in a type has a lower rank.
use Rattle.std.proofs.Common.{◌≡◌, ℕ, ◌*◌, ◌<◌, Bool, true, false, if◌then◌else◌, ◌⊎◌, inl, inr, List, [], ◌∷◌, ◌++◌, map, Option, Some, None, is_some, slice_get, refl, sym, ap, subst, ◌∙◌}
use Rattle.lists.proofs.Lemmas.{IsIn, in_cases, in_left, in_right, to_contains}
use Rattle.cbor_data.specs.Value.{Value}
use Rattle.cddl_meaning.specs.Forms as F
use Rattle.cddl_language.specs.Terms.{Text, Term, literal, named, parens, map_of, array_of, unwrapped, choice_of, choice_of_name, tagged, tagged_by, simple_by, hash, range, control, or, Ref, Group, sole, orelse, Entries, no_entries, entries, Entry, typed, keyed, grouped, alternatives, choices, entry_list, Definition, name_of}
use Rattle.cddl_language.specs.Controls.{Comparison, is_ordering, Control, left_alone, left_and_right, held_item, held_sequence, compared, Membership, member, computed, control_of, is_asked_here}
use Rattle.cddl_literal.specs.Numbers.{Meaning}
use Rattle.cddl_language.specs.Literals.{Values, computed_literal, literal_of, whole_of}
use Rattle.cddl_language.specs.Sizes.{Sizes, members_of}
use Rattle.cddl_language.specs.Substitution.{type_choices, group_choices}
use Rattle.cddl_language.specs.Kinds.{Opened, opens_group, opens_type, opened, is_group, Part, asks_type, names_group, opens, part_of}
use Rattle.cddl_language.specs.Choices.{can_choose, chosen, chosen_by_name}
use Rattle.cddl_language.specs.Maps.{Alternatives, map_alternatives}
use Rattle.cddl_language.specs.Language.{TypeName, type, reference, GroupName, nothing, choice, content, between, map_node, comparand, such_as_compares, such_as_member, equal_to, control_node, chosen_part_name, chosen_name, chosen_names, term_node, type_node}
use Rattle.cddl_language.specs.Reach.{Reaches, at_name, at_unwrapping, at_choice, at_chosen_name, at_opened_choice, points, group_points, entries_points, entry_points}
use Rattle.check_terms.specs.Table.{Table}
use Rattle.check_terms.specs.Trees.{IsTerm, IsGroup, IsEntries, IsEntry}
use Rattle.check_instances.specs.Closed.Closed.{AreAlternatives, no_alternatives, alternatives_of, AreReached}
use Rattle.check_recursion.specs.declared.graph.Ranks.{Ranks}
use Rattle.check_recursion.specs.declared.node.Node.TheVariants as N
use Rattle.check_recursion.specs.Asking as A
use Rattle.check_recursion.specs.Asking.{a_type, a_group, chosen_group, chosen_entries, chosen_entry, a_point}
use Rattle.check_recursion.specs.Standing.{type_row, group_row, chosen_group_row, chosen_entries_row, chosen_entry_row, name_place, unwrapping_place, choice_place, chosen_name_place, opened_choice_place}
use Rattle.check_recursion.specs.Order.{rank}
use Rattle.table_making.specs.Basis.{Sense}
use Rattle.table_making.specs.Origins.{all_points, IsTypeOrigin, of_row, of_instance, of_chosen, of_word, IsGroupOrigin}
use Rattle.table_making.specs.declared.origin.GroupOrigin.{GroupOrigin}
use Rattle.table_making.specs.declared.origin.TypeOrigin.{TypeOrigin}
use Rattle.table_making.specs.declared.origin.TypeOrigin.TheVariants as T
use Rattle.cddl_table.specs.Ranks.{type_rank, group_rank}
use Rattle.cddl_table.proofs.Lists.{in_map}
use Rattle.cddl_table.proofs.Rows.{sole_part, other_part, last_part, earlier_part, entry_part, chosen_part, first_choice}
use Rattle.cddl_decided.proofs.Lemmas.{FreeType, FreeItems}
use Rattle.cddl_table.proofs.Parts.{opened_group}
use Rattle.cddl_table.proofs.Down.{Given, through, above_none, lifted, left_reached, right_reached, group_points_reached, one_reached, it_is_reached, step, below_row, below_instance, below_chosen, below_chosen_group, below_group}

-- What is free in forms that are made by cases.

named_free : (b : Bool) (q : Ref) (m : TypeName) → FreeType {G = GroupName} (if b then nothing else F.Ref (reference q)) m → m ≡ reference q
named_free true q m h = absurd h
named_free false q m h = h

named_items : (b : Bool) (q : Ref) (g : GroupName) → FreeItems (if b then nothing else F.Ref (reference q)) g → ⊥
named_items true q g h = h
named_items false q g h = h

content_free : (o : Option Opened) (m : TypeName) → FreeType (content o) m → (x : Term) × (o ≡ Some (opens_type x)) × (m ≡ type x)
content_free None m h = absurd h
content_free (Some (opens_group g)) m h = absurd h
content_free (Some (opens_type x)) m h = (x, refl, h)

content_items : (o : Option Opened) (g : GroupName) → FreeItems (content o) g → ⊥
content_items None g h = h
content_items (Some (opens_group p)) g h = h
content_items (Some (opens_type x)) g h = h

choice_free : (o : Option (List Term)) (ms : List TypeName) (m : TypeName) → FreeType (choice o ms) m → IsIn m ms × (is_some o ≡ true)
choice_free None ms m h = absurd h
choice_free (Some ts) ms m h = (h, refl)

choice_items : (o : Option (List Term)) (ms : List TypeName) (g : GroupName) → FreeItems (choice o ms) g → ⊥
choice_items None ms g h = h
choice_items (Some ts) ms g h = h

between_free : (c : Bool) (a b : Option Value) (m : TypeName) → FreeType (between c a b) m → ⊥
between_free c (Some a) (Some b) m h = h
between_free c (Some a) None m h = h
between_free c None b m h = h

between_items : (c : Bool) (a b : Option Value) (g : GroupName) → FreeItems (between c a b) g → ⊥
between_items c (Some a) (Some b) g h = h
between_items c (Some a) None g h = h
between_items c None b g h = h

map_free : (o : Option Alternatives) (m : TypeName) → FreeType (map_node o) m → ⊥
map_free (Some mss) m h = h
map_free None m h = h

map_items : (o : Option Alternatives) (g : GroupName) → FreeItems (map_node o) g → ⊥
map_items (Some mss) g h = h
map_items None g h = h

compared_free : (c : Comparison) (v : Option Value) (a : Term) (m : TypeName) → FreeType {G = GroupName} (such_as_compares c v a) m → m ≡ type a
compared_free c (Some v) a m h = h
compared_free c None a m h = absurd h

compared_items : (c : Comparison) (v : Option Value) (a : Term) (g : GroupName) → FreeItems {N = TypeName} (such_as_compares c v a) g → ⊥
compared_items c (Some v) a g h = h
compared_items c None a g h = h

member_free : (k : Membership) (o : Option Sizes) (a : Term) (m : TypeName) → FreeType {G = GroupName} (such_as_member k o a) m → m ≡ type a
member_free k (Some rs) a m h = h
member_free k None a m h = absurd h

member_items : (k : Membership) (o : Option Sizes) (a : Term) (g : GroupName) → FreeItems {N = TypeName} (such_as_member k o a) g → ⊥
member_items k (Some rs) a g h = h
member_items k None a g h = h

equal_free : (o : Option Meaning) (m : TypeName) → FreeType {G = GroupName} (equal_to o) m → ⊥
equal_free (Some v) m h = h
equal_free None m h = h

equal_items : (o : Option Meaning) (g : GroupName) → FreeItems {N = TypeName} (equal_to o) g → ⊥
equal_items (Some v) g h = h
equal_items None g h = h

control_free : (worth : Values) (ds : List Definition) (o : Option Control) (a b : Term) (m : TypeName) → FreeType {G = GroupName} (control_node worth ds o a b) m → (m ≡ type a) ⊎ ((m ≡ type b) × (is_asked_here o ≡ true))
control_free worth ds None a b m h = absurd h
control_free worth ds (Some left_alone) a b m h = inl h
control_free worth ds (Some left_and_right) a b m (inl e) = inl e
control_free worth ds (Some left_and_right) a b m (inr e) = inr (e, refl)
control_free worth ds (Some held_item) a b m h = inl h
control_free worth ds (Some held_sequence) a b m (inl e) = inl e
control_free worth ds (Some held_sequence) a b m (inr e) = inr (e, refl)
control_free worth ds (Some (compared c)) a b m h = inl (compared_free c (comparand (is_ordering c) (literal_of worth ds b)) a m h)
control_free worth ds (Some (member k)) a b m h = inl (member_free k (members_of k worth ds b) a m h)
control_free worth ds (Some (computed c)) a b m h = absurd (equal_free (computed_literal c (literal_of worth ds a) (literal_of worth ds b)) m h)

control_items : (worth : Values) (ds : List Definition) (o : Option Control) (a b : Term) (g : GroupName) → FreeItems {N = TypeName} (control_node worth ds o a b) g → ⊥
control_items worth ds None a b g h = h
control_items worth ds (Some left_alone) a b g h = h
control_items worth ds (Some left_and_right) a b g h = h
control_items worth ds (Some held_item) a b g h = h
control_items worth ds (Some held_sequence) a b g h = h
control_items worth ds (Some (compared c)) a b g h = compared_items c (comparand (is_ordering c) (literal_of worth ds b)) a g h
control_items worth ds (Some (member k)) a b g h = member_items k (members_of k worth ds b) a g h
control_items worth ds (Some (computed c)) a b g h = equal_items (computed_literal c (literal_of worth ds a) (literal_of worth ds b)) g h

module _ (s : Sense) (t : Table) (r : Ranks) (given : Given s t r) where
  -- What `&` chooses from has a rank below that of the row that it chooses from.

  part_down : (n : ℕ) (o : Option Text) (x : Term) → IsEntry t n (typed o x) → AreReached s.definitions s.root (points x) → (k : Part) → part_of s.definitions x ≡ k → (m : TypeName) (p : TypeOrigin) → m ≡ chosen_part_name s.worth s.definitions x k → IsTypeOrigin s t m p → type_rank r p < 2 * rank r (N.Chosen n)
  part_down n o x h c asks_type e m p f u = below_row s t r x p (subst (λ (z : TypeName). IsTypeOrigin s t z p) f u) (rank r (N.Chosen n)) (λ j i. step s t r given.ranked (N.Chosen n) (N.Row j) (chosen_entry (typed o x)) (a_type x) (chosen_entry_row h) (type_row i) c (A.chosen_type e))
  part_down n o x h c (names_group q) e m p f u =
      let reaches = given.part_named x q c e in
      let k = given.placed q reaches in
      let first = step s t r given.ranked (N.Chosen n) (N.ChosenName k.0) (chosen_entry (typed o x)) (a_point (at_chosen_name q)) (chosen_entry_row h) (chosen_name_place k.1) c (A.chosen_name e) in
      below_chosen s t r (group_choices s.definitions q) p (subst (λ (z : TypeName). IsTypeOrigin s t z p) f u) (rank r (N.Chosen n)) (above_none (rank r (N.ChosenName k.0)) (rank r (N.Chosen n)) first) (λ j g i a can. through (rank r (N.Chosen j)) (rank r (N.ChosenName k.0)) (rank r (N.Chosen n)) (step s t r given.ranked (N.ChosenName k.0) (N.Chosen j) (a_point (at_chosen_name q)) (chosen_group g) (chosen_name_place k.1) (chosen_group_row i) (one_reached s (at_chosen_name q) reaches) (A.chooses a (subst (λ (us : List Entries). can_choose s.definitions us ≡ true) (sym a) can))) first)
  part_down n o x h c (opens q g) e m p f u =
      let reaches = given.part_opened x q g c e in
      let k = given.placed q reaches in
      let first = step s t r given.ranked (N.Chosen n) (N.OpenedChoice k.0) (chosen_entry (typed o x)) (a_point (at_opened_choice q)) (chosen_entry_row h) (opened_choice_place k.1) c (A.chosen_opened e) in
      below_chosen_group s t r g p (subst (λ (z : TypeName). IsTypeOrigin s t z p) f u) (rank r (N.Chosen n)) (λ j i can. through (rank r (N.Chosen j)) (rank r (N.OpenedChoice k.0)) (rank r (N.Chosen n)) (step s t r given.ranked (N.OpenedChoice k.0) (N.Chosen j) (a_point (at_opened_choice q)) (chosen_group g) (opened_choice_place k.1) (chosen_group_row i) (one_reached s (at_opened_choice q) reaches) (A.chooses_opened (opened_group s.definitions x q g e) can)) first)

  chosen_entry_down : (n : ℕ) (e : Entry) → IsEntry t n e → AreReached s.definitions s.root (entry_points e) → (m : TypeName) (p : TypeOrigin) → m ≡ chosen_name s.worth s.definitions e → IsTypeOrigin s t m p → type_rank r p < 2 * rank r (N.Chosen n)
  chosen_entry_down n (typed o x) h c m p f u = part_down n o x h c (part_of s.definitions x) refl m p f u
  chosen_entry_down n (keyed o k x) h c m p f u = below_row s t r x p (subst (λ (z : TypeName). IsTypeOrigin s t z p) f u) (rank r (N.Chosen n)) (λ j i. step s t r given.ranked (N.Chosen n) (N.Row j) (chosen_entry (keyed o k x)) (a_type x) (chosen_entry_row h) (type_row i) c A.chosen_keyed)
  chosen_entry_down n (grouped o g) h c m p f u = below_chosen_group s t r g p (subst (λ (z : TypeName). IsTypeOrigin s t z p) f u) (rank r (N.Chosen n)) (λ j i can. step s t r given.ranked (N.Chosen n) (N.Chosen j) (chosen_entry (grouped o g)) (chosen_group g) (chosen_entry_row h) (chosen_group_row i) c A.chosen_inner)

  chosen_entries_down : (n : ℕ) (es : Entries) → IsEntries t n es → AreReached s.definitions s.root (entries_points es) → (e : Entry) → IsIn e (entry_list es) → (m : TypeName) (p : TypeOrigin) → m ≡ chosen_name s.worth s.definitions e → IsTypeOrigin s t m p → type_rank r p < 2 * rank r (N.Chosen n)
  chosen_entries_down n no_entries h c e i m p f u = absurd i
  chosen_entries_down n (entries es e d) h c x i m p f u = by (in_cases (entry_list es) (e ∷ []) x i) (λ k. chosen_entries_down before.0 es before.1 (left_reached s (entries_points es) (entry_points e) c) x k m p f u)
    where
      before : (j : ℕ) × IsEntries t j es
      before = earlier_part t n es e d h

      last : (j : ℕ) × IsEntry t j e
      last = entry_part t n es e d h

      by : IsIn x (entry_list es) ⊎ IsIn x (e ∷ []) → (IsIn x (entry_list es) → type_rank r p < 2 * rank r (N.Chosen before.0)) → type_rank r p < 2 * rank r (N.Chosen n)
      by (inl k) go = lifted (type_rank r p) (rank r (N.Chosen before.0)) (rank r (N.Chosen n)) (step s t r given.ranked (N.Chosen n) (N.Chosen before.0) (chosen_entries (entries es e d)) (chosen_entries es) (chosen_entries_row h) (chosen_entries_row before.1) c A.chosen_earlier) (go k)
      by (inr (inl k)) go = lifted (type_rank r p) (rank r (N.Chosen last.0)) (rank r (N.Chosen n)) (step s t r given.ranked (N.Chosen n) (N.Chosen last.0) (chosen_entries (entries es e d)) (chosen_entry e) (chosen_entries_row h) (chosen_entry_row last.1) c A.chosen_last) (chosen_entry_down last.0 e last.1 (right_reached s (entries_points es) (entry_points e) c) m p (f ∙ ap (chosen_name s.worth s.definitions) k) u)
      by (inr (inr k)) go = absurd k

  chosen_alternative_down : (n : ℕ) (es : Entries) → IsEntries t n es → AreReached s.definitions s.root (entries_points es) → (m : TypeName) (p : TypeOrigin) → IsIn m (map (chosen_name s.worth s.definitions) (entry_list es)) → IsTypeOrigin s t m p → type_rank r p < 2 * rank r (N.Chosen n)
  chosen_alternative_down n es h c m p i u = let e = in_map (chosen_name s.worth s.definitions) (entry_list es) m i in chosen_entries_down n es h c e.0 e.1 m p e.2 u

  names_in_both : (m : TypeName) (xs ys : List Entries) → IsIn m (chosen_names s.worth s.definitions (xs ++ ys)) → IsIn m (chosen_names s.worth s.definitions xs) ⊎ IsIn m (chosen_names s.worth s.definitions ys)
  names_in_both m [] ys i = inr i
  names_in_both m (x ∷ xs) ys i = by (in_cases (map (chosen_name s.worth s.definitions) (entry_list x)) (chosen_names s.worth s.definitions (xs ++ ys)) m i) (names_in_both m xs ys)
    where
      by : IsIn m (map (chosen_name s.worth s.definitions) (entry_list x)) ⊎ IsIn m (chosen_names s.worth s.definitions (xs ++ ys)) → (IsIn m (chosen_names s.worth s.definitions (xs ++ ys)) → IsIn m (chosen_names s.worth s.definitions xs) ⊎ IsIn m (chosen_names s.worth s.definitions ys)) → IsIn m (chosen_names s.worth s.definitions (x ∷ xs)) ⊎ IsIn m (chosen_names s.worth s.definitions ys)
      by (inl k) go = inl (in_left (map (chosen_name s.worth s.definitions) (entry_list x)) (chosen_names s.worth s.definitions xs) m k)
      by (inr k) go = after (go k)
        where
          after : IsIn m (chosen_names s.worth s.definitions xs) ⊎ IsIn m (chosen_names s.worth s.definitions ys) → IsIn m (map (chosen_name s.worth s.definitions) (entry_list x) ++ chosen_names s.worth s.definitions xs) ⊎ IsIn m (chosen_names s.worth s.definitions ys)
          after (inl a) = inl (in_right (map (chosen_name s.worth s.definitions) (entry_list x)) (chosen_names s.worth s.definitions xs) m a)
          after (inr a) = inr a

  -- of alternatives that end here
  in_sole : (m : TypeName) (es : Entries) → IsIn m (chosen_names s.worth s.definitions (es ∷ [])) → IsIn m (map (chosen_name s.worth s.definitions) (entry_list es))
  in_sole m es i = by (in_cases (map (chosen_name s.worth s.definitions) (entry_list es)) [] m i)
    where
      by : IsIn m (map (chosen_name s.worth s.definitions) (entry_list es)) ⊎ IsIn m [] → IsIn m (map (chosen_name s.worth s.definitions) (entry_list es))
      by (inl k) = k
      by (inr k) = absurd k

  chosen_group_down : (n : ℕ) (g : Group) → IsGroup t n g → AreReached s.definitions s.root (group_points g) → (m : TypeName) (p : TypeOrigin) → IsIn m (chosen_names s.worth s.definitions (alternatives g)) → IsTypeOrigin s t m p → type_rank r p < 2 * rank r (N.Chosen n)
  chosen_group_down n (sole es) h c m p i u =
      let q = sole_part t n es h in
      lifted (type_rank r p) (rank r (N.Chosen q.0)) (rank r (N.Chosen n)) (step s t r given.ranked (N.Chosen n) (N.Chosen q.0) (chosen_group (sole es)) (chosen_entries es) (chosen_group_row h) (chosen_entries_row q.1) c A.chosen_sole) (chosen_alternative_down q.0 es q.1 c m p (in_sole m es i) u)
  chosen_group_down n (orelse g es) h c m p i u = by (names_in_both m (alternatives g) (es ∷ []) i) (λ k. chosen_group_down others.0 g others.1 (left_reached s (group_points g) (entries_points es) c) m p k u)
    where
      others : (j : ℕ) × IsGroup t j g
      others = other_part t n g es h

      last : (j : ℕ) × IsEntries t j es
      last = last_part t n g es h

      by : IsIn m (chosen_names s.worth s.definitions (alternatives g)) ⊎ IsIn m (chosen_names s.worth s.definitions (es ∷ [])) → (IsIn m (chosen_names s.worth s.definitions (alternatives g)) → type_rank r p < 2 * rank r (N.Chosen others.0)) → type_rank r p < 2 * rank r (N.Chosen n)
      by (inl k) go = lifted (type_rank r p) (rank r (N.Chosen others.0)) (rank r (N.Chosen n)) (step s t r given.ranked (N.Chosen n) (N.Chosen others.0) (chosen_group (orelse g es)) (chosen_group g) (chosen_group_row h) (chosen_group_row others.1) c A.chosen_others) (go k)
      by (inr k) go = lifted (type_rank r p) (rank r (N.Chosen last.0)) (rank r (N.Chosen n)) (step s t r given.ranked (N.Chosen n) (N.Chosen last.0) (chosen_group (orelse g es)) (chosen_entries es) (chosen_group_row h) (chosen_entries_row last.1) c A.chosen_alternative) (chosen_alternative_down last.0 es last.1 (right_reached s (group_points g) (entries_points es) c) m p (in_sole m es k) u)

  -- Members of a choice.

  lone_choice : (n : ℕ) (x y : Term) → IsIn y (x ∷ []) → (y ≡ x) ⊎ ((j : ℕ) → IsTerm t j y → rank r (N.Row j) < rank r (N.Row n))
  lone_choice n x y (inl e) = inl e
  lone_choice n x y (inr e) = absurd e

  -- a member of the choice, where those of its first part are known
  member_down : (n : ℕ) (x z : Term) → IsTerm t n (or x z) → AreReached s.definitions s.root (points (or x z)) → (y : Term) → IsIn y (choices (or x z)) → (m : ℕ) → IsTerm t m x → (IsIn y (choices x) → (y ≡ x) ⊎ ((j : ℕ) → IsTerm t j y → rank r (N.Row j) < rank r (N.Row m))) → (j : ℕ) → IsTerm t j y → rank r (N.Row j) < rank r (N.Row n)
  member_down n x z h c y i m a go j k = by (in_cases (choices x) (z ∷ []) y i)
    where
      first : (j : ℕ) → IsTerm t j x → rank r (N.Row j) < rank r (N.Row n)
      first j k = step s t r given.ranked (N.Row n) (N.Row j) (a_type (or x z)) (a_type x) (type_row h) (type_row k) c A.in_first

      second : (j : ℕ) → IsTerm t j z → rank r (N.Row j) < rank r (N.Row n)
      second j k = step s t r given.ranked (N.Row n) (N.Row j) (a_type (or x z)) (a_type z) (type_row h) (type_row k) c A.in_second

      below : (y ≡ x) ⊎ ((j : ℕ) → IsTerm t j y → rank r (N.Row j) < rank r (N.Row m)) → rank r (N.Row j) < rank r (N.Row n)
      below (inl e) = first j (subst (IsTerm t j) e k)
      below (inr f) = through (rank r (N.Row j)) (rank r (N.Row m)) (rank r (N.Row n)) (f j k) (first m a)

      by : IsIn y (choices x) ⊎ IsIn y (z ∷ []) → rank r (N.Row j) < rank r (N.Row n)
      by (inl d) = below (go d)
      by (inr (inl e)) = second j (subst (IsTerm t j) e k)
      by (inr (inr d)) = absurd d

  -- a member is the type itself, where it is no choice
  choices_down : (n : ℕ) (x : Term) → IsTerm t n x → AreReached s.definitions s.root (points x) → (y : Term) → IsIn y (choices x) → (y ≡ x) ⊎ ((j : ℕ) → IsTerm t j y → rank r (N.Row j) < rank r (N.Row n))
  choices_down n (or x z) h c y i =
      let first = first_choice t n x z h in
      inr (member_down n x z h c y i first.0 first.1 (λ k. choices_down first.0 x first.1 (left_reached s (points x) (points z) c) y k))
  choices_down n (literal v) h c y i = lone_choice n (literal v) y i
  choices_down n (named q) h c y i = lone_choice n (named q) y i
  choices_down n (parens x) h c y i = lone_choice n (parens x) y i
  choices_down n (map_of g) h c y i = lone_choice n (map_of g) y i
  choices_down n (array_of g) h c y i = lone_choice n (array_of g) y i
  choices_down n (unwrapped q) h c y i = lone_choice n (unwrapped q) y i
  choices_down n (choice_of g) h c y i = lone_choice n (choice_of g) y i
  choices_down n (choice_of_name q) h c y i = lone_choice n (choice_of_name q) y i
  choices_down n (tagged a x) h c y i = lone_choice n (tagged a x) y i
  choices_down n (tagged_by a x) h c y i = lone_choice n (tagged_by a x) y i
  choices_down n (simple_by x) h c y i = lone_choice n (simple_by x) y i
  choices_down n (hash a) h c y i = lone_choice n (hash a) y i
  choices_down n (range a b x) h c y i = lone_choice n (range a b x) y i
  choices_down n (control a b x) h c y i = lone_choice n (control a b x) y i

  members_down : (n : ℕ) (x z : Term) → IsTerm t n (or x z) → AreReached s.definitions s.root (points (or x z)) → (m : TypeName) (p : TypeOrigin) → IsIn m (map type (choices (or x z))) → IsTypeOrigin s t m p → type_rank r p < 2 * rank r (N.Row n)
  members_down n x z h c m p i u =
      let y = in_map type (choices (or x z)) m i in
      let first = first_choice t n x z h in
      below_row s t r y.0 p (subst (λ (w : TypeName). IsTypeOrigin s t w p) y.2 u) (rank r (N.Row n)) (member_down n x z h c y.0 y.1 first.0 first.1 (λ k. choices_down first.0 x first.1 (left_reached s (points x) (points z) c) y.0 k))

  -- What is free in a type of a row.

  type_in_row : (n : ℕ) (x : Term) → IsTerm t n x → AreReached s.definitions s.root (points x) → (m : TypeName) (p : TypeOrigin) → FreeType (term_node s.worth s.definitions x) m → IsTypeOrigin s t m p → type_rank r p < 2 * rank r (N.Row n)
  type_in_row n (literal v) h c m p f u = absurd f
  type_in_row n (named q) h c m p f u =
      let e = named_free (is_group s.definitions (name_of q)) q m f in
      below_instance s t r q p (subst (λ (z : TypeName). IsTypeOrigin s t z p) e u) (rank r (N.Row n)) (λ k i g. step s t r given.ranked (N.Row n) (N.Name k) (a_type (named q)) (a_point (at_name q)) (type_row h) (name_place i) c A.by_name)
  type_in_row n (parens x) h c m p f u = below_row s t r x p (subst (λ (z : TypeName). IsTypeOrigin s t z p) f u) (rank r (N.Row n)) (λ j i. step s t r given.ranked (N.Row n) (N.Row j) (a_type (parens x)) (a_type x) (type_row h) (type_row i) c A.in_parens)
  type_in_row n (map_of g) h c m p f u = absurd (map_free (map_alternatives s.definitions g) m f)
  type_in_row n (array_of g) h c m p f u = absurd f
  type_in_row n (unwrapped q) h c m p f u =
      let e = content_free (opened s.definitions q) m f in
      let reaches = it_is_reached s (at_unwrapping q) c in
      let k = given.placed q reaches in
      below_row s t r e.0 p (subst (λ (z : TypeName). IsTypeOrigin s t z p) e.2 u) (rank r (N.Row n)) (λ j i. through (rank r (N.Row j)) (rank r (N.Unwrapping k.0)) (rank r (N.Row n)) (step s t r given.ranked (N.Unwrapping k.0) (N.Row j) (a_point (at_unwrapping q)) (a_type e.0) (unwrapping_place k.1) (type_row i) c (A.opens_content e.1)) (step s t r given.ranked (N.Row n) (N.Unwrapping k.0) (a_type (unwrapped q)) (a_point (at_unwrapping q)) (type_row h) (unwrapping_place k.1) c A.by_unwrapping))
  type_in_row n (choice_of g) h c m p f u =
      let q = chosen_part t n g h in
      lifted (type_rank r p) (rank r (N.Chosen q.0)) (rank r (N.Row n)) (step s t r given.ranked (N.Row n) (N.Chosen q.0) (a_type (choice_of g)) (chosen_group g) (type_row h) (chosen_group_row q.1) c A.in_choice) (chosen_group_down q.0 g q.1 c m p (choice_free (chosen s.definitions g) (chosen_names s.worth s.definitions (alternatives g)) m f).0 u)
  type_in_row n (choice_of_name q) h c m p f u = by (group_choices s.definitions q) refl row.0 row.1 free.0
    where
      reaches : Reaches s.definitions s.root q
      reaches = it_is_reached s (at_choice q) c

      k : (k : ℕ) × (slice_get s.refs k ≡ Some q)
      k = given.placed q reaches

      row : (o : Option ℕ) × AreAlternatives t (group_choices s.definitions q) o
      row = given.group_row q reaches

      free : IsIn m (chosen_names s.worth s.definitions (group_choices s.definitions q)) × (can_choose s.definitions (group_choices s.definitions q) ≡ true)
      free = choice_free (chosen_by_name s.definitions q) (chosen_names s.worth s.definitions (group_choices s.definitions q)) m f

      first : rank r (N.Choice k.0) < rank r (N.Row n)
      first = step s t r given.ranked (N.Row n) (N.Choice k.0) (a_type (choice_of_name q)) (a_point (at_choice q)) (type_row h) (choice_place k.1) c A.by_choice

      second : rank r (N.ChosenName k.0) < rank r (N.Row n)
      second = through (rank r (N.ChosenName k.0)) (rank r (N.Choice k.0)) (rank r (N.Row n)) (step s t r given.ranked (N.Choice k.0) (N.ChosenName k.0) (a_point (at_choice q)) (a_point (at_chosen_name q)) (choice_place k.1) (chosen_name_place k.1) (one_reached s (at_choice q) reaches) A.chooses_by_name) first

      by : (ess : List Entries) → ess ≡ group_choices s.definitions q → (o : Option ℕ) → AreAlternatives t ess o → IsIn m (chosen_names s.worth s.definitions ess) → type_rank r p < 2 * rank r (N.Row n)
      by ess e o no_alternatives i = absurd i
      by ess e o (alternatives_of {n = j} g a) i = lifted (type_rank r p) (rank r (N.Chosen j)) (rank r (N.Row n)) (through (rank r (N.Chosen j)) (rank r (N.ChosenName k.0)) (rank r (N.Row n)) (step s t r given.ranked (N.ChosenName k.0) (N.Chosen j) (a_point (at_chosen_name q)) (chosen_group g) (chosen_name_place k.1) (chosen_group_row a) (one_reached s (at_chosen_name q) reaches) (A.chooses e (subst (λ (us : List Entries). can_choose s.definitions us ≡ true) (sym e) free.1))) second) (chosen_group_down j g a (given.group_reached q g reaches e) m p i u)
  type_in_row n (tagged a x) h c m p f u = absurd f
  type_in_row n (tagged_by a x) h c m p f u = absurd f
  type_in_row n (simple_by x) h c m p f u = below_row s t r x p (subst (λ (z : TypeName). IsTypeOrigin s t z p) f u) (rank r (N.Row n)) (λ j i. step s t r given.ranked (N.Row n) (N.Row j) (a_type (simple_by x)) (a_type x) (type_row h) (type_row i) c A.in_head)
  type_in_row n (hash a) h c m p f u = absurd f
  type_in_row n (range a b x) h c m p f u = absurd (between_free b (whole_of s.worth s.definitions a) (whole_of s.worth s.definitions x) m f)
  type_in_row n (control a b x) h c m p f u = by (control_free s.worth s.definitions (control_of b) a x m f)
    where
      by : (m ≡ type a) ⊎ ((m ≡ type x) × (is_asked_here (control_of b) ≡ true)) → type_rank r p < 2 * rank r (N.Row n)
      by (inl e) = below_row s t r a p (subst (λ (z : TypeName). IsTypeOrigin s t z p) e u) (rank r (N.Row n)) (λ j i. step s t r given.ranked (N.Row n) (N.Row j) (a_type (control a b x)) (a_type a) (type_row h) (type_row i) c A.in_left)
      by (inr e) = below_row s t r x p (subst (λ (z : TypeName). IsTypeOrigin s t z p) e.0 u) (rank r (N.Row n)) (λ j i. step s t r given.ranked (N.Row n) (N.Row j) (a_type (control a b x)) (a_type x) (type_row h) (type_row i) c (A.in_controller e.1))
  type_in_row n (or x z) h c m p f u = members_down n x z h c m p f u

  items_in_row : (n : ℕ) (x : Term) → IsTerm t n x → AreReached s.definitions s.root (points x) → (g : GroupName) (p : GroupOrigin) → FreeItems (term_node s.worth s.definitions x) g → IsGroupOrigin s t g p → group_rank r p < 2 * rank r (N.Row n)
  items_in_row n (literal v) h c g p f u = absurd f
  items_in_row n (named q) h c g p f u = absurd (named_items (is_group s.definitions (name_of q)) q g f)
  items_in_row n (parens x) h c g p f u = absurd f
  items_in_row n (map_of i) h c g p f u = absurd (map_items (map_alternatives s.definitions i) g f)
  items_in_row n (array_of i) h c g p f u = below_group s t r i p (subst (λ (z : GroupName). IsGroupOrigin s t z p) f u) (rank r (N.Row n)) (λ j k. step s t r given.ranked (N.Row n) (N.Row j) (a_type (array_of i)) (a_group i) (type_row h) (group_row k) c A.in_array)
  items_in_row n (unwrapped q) h c g p f u = absurd (content_items (opened s.definitions q) g f)
  items_in_row n (choice_of i) h c g p f u = absurd (choice_items (chosen s.definitions i) (chosen_names s.worth s.definitions (alternatives i)) g f)
  items_in_row n (choice_of_name q) h c g p f u = absurd (choice_items (chosen_by_name s.definitions q) (chosen_names s.worth s.definitions (group_choices s.definitions q)) g f)
  items_in_row n (tagged a x) h c g p f u = absurd f
  items_in_row n (tagged_by a x) h c g p f u = absurd f
  items_in_row n (simple_by x) h c g p f u = absurd f
  items_in_row n (hash a) h c g p f u = absurd f
  items_in_row n (range a b x) h c g p f u = absurd (between_items b (whole_of s.worth s.definitions a) (whole_of s.worth s.definitions x) g f)
  items_in_row n (control a b x) h c g p f u = absurd (control_items s.worth s.definitions (control_of b) a x g f)
  items_in_row n (or x z) h c g p f u = absurd f

  -- of what an instance means
  type_in_meaning : (k : ℕ) (q : Ref) → slice_get s.refs k ≡ Some q → is_group s.definitions (name_of q) ≡ false → Reaches s.definitions s.root q → (m : TypeName) (p : TypeOrigin) → IsIn m (map type (type_choices s.definitions q)) → IsTypeOrigin s t m p → type_rank r p < 2 * rank r (N.Name k)
  type_in_meaning k q e g reaches m p i u =
      let x = in_map type (type_choices s.definitions q) m i in
      below_row s t r x.0 p (subst (λ (z : TypeName). IsTypeOrigin s t z p) x.2 u) (rank r (N.Name k)) (λ j h. step s t r given.ranked (N.Name k) (N.Row j) (a_point (at_name q)) (a_type x.0) (name_place e) (type_row h) (one_reached s (at_name q) reaches) (A.means_type g (to_contains (type_choices s.definitions q) x.0 x.1)))

  -- What is free in a type has a rank below that of the type.

  reached_in : (ess : List Entries) (o : Option ℕ) → AreAlternatives t ess o → AreReached s.definitions s.root (all_points ess) → (m : TypeName) (p : TypeOrigin) → IsIn m (chosen_names s.worth s.definitions ess) → IsTypeOrigin s t m p → type_rank r p < type_rank r (T.Chosen o)
  reached_in ess o no_alternatives c m p i u = absurd i
  reached_in ess o (alternatives_of {n = n} g h) c m p i u = chosen_group_down n g h (group_points_reached s g c) m p i u

  pub types_down : (x : TypeName) (o : TypeOrigin) → IsTypeOrigin s t x o → (m : TypeName) (p : TypeOrigin) → FreeType (type_node s.worth s.definitions x) m → IsTypeOrigin s t m p → type_rank r p < type_rank r o
  types_down x o (of_row {n = n} {x = y} h c w) m p f u = type_in_row n y h c m p f u
  types_down x o (of_instance {k = k} {r = q} e g) m p f u = type_in_meaning k q e g (given.instance k q e) m p f u
  types_down x o (of_chosen {o = i} {ess = ess} a c w can) m p f u = reached_in ess i a c m p f u
  types_down x o (of_word e) m p f u = absurd f

  pub items_down : (x : TypeName) (o : TypeOrigin) → IsTypeOrigin s t x o → (g : GroupName) (p : GroupOrigin) → FreeItems (type_node s.worth s.definitions x) g → IsGroupOrigin s t g p → group_rank r p < type_rank r o
  items_down x o (of_row {n = n} {x = y} h c w) g p f u = items_in_row n y h c g p f u
  items_down x o (of_instance e i) g p f u = absurd f
  items_down x o (of_chosen a c w can) g p f u = absurd f
  items_down x o (of_word e) g p f u = absurd f
