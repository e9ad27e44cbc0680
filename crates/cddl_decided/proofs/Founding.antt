-- What is asked of a name ends, where the ways of the references end that are free in it.
use Rattle.std.proofs.Common.{◌≡◌, ℕ, ltb, Bool, true, false, if◌then◌else◌, List, [], ◌∷◌, ◌++◌, ◌⊎◌, inl, inr, map, Option, Some, None, is_some, refl, sym, ap, subst}
use Rattle.std.specs.Prelude.{Contains}
use Rattle.lists.proofs.Lemmas.{IsIn, from_contains, to_contains}
use Rattle.cbor_data.specs.Value.{Value}
use Rattle.cddl_literal.specs.Numbers.{Meaning}
use Rattle.cddl_meaning.specs.Forms as M
use Rattle.cddl_meaning.specs.Forms.{Most, at_most, any_number_of}
use Rattle.cddl_meaning.specs.Ranks.Ranked as R
use Rattle.cddl_meaning.specs.Ranks.Ranked.{Name, a_type, a_group, IsFree, IsFreeInGroup, IsFreeInType, IsFreePart, in_group, in_type}
use Rattle.cddl_language.specs.Controls as C
use Rattle.cddl_language.specs.Numbers.{least_of, most_of, occurs_once}
use Rattle.cddl_language.specs.Terms.{Text, Term, literal, named, parens, map_of, array_of, unwrapped, choice_of, choice_of_name, tagged, tagged_by, simple_by, hash, range, control, or, Ref, Group, sole, orelse, Entries, no_entries, entries, Entry, typed, keyed, grouped, Definition, alternatives, choices, entry_list, name_of, occurrence_of}
use Rattle.cddl_language.specs.Substitution.{group_choices, type_choices}
use Rattle.cddl_language.specs.Kinds.{Opened, opens_group, opens_type, opened, is_group, Part, asks_type, names_group, opens, part_of}
use Rattle.cddl_language.specs.Reach.{Point, ref_at, at_name, at_unwrapping, at_choice, at_chosen_name, at_opened_choice, Reaches, entries_points, entry_points, group_points, key_points, most_instances, points}
use Rattle.cddl_language.specs.Free as F
use Rattle.cddl_language.specs.Free.{IsFreeInSome, IsFreeInEach, IsFreeInEntry, IsFreeInChoice, IsFreeInChosen, IsFreeInChosenEntry, IsFreeInMeaning}
use Rattle.cddl_language.specs.Literals.{Values, computed_literal, literal_of, whole_of}
use Rattle.cddl_language.specs.Sizes.{Sizes, members_of}
use Rattle.cddl_language.specs.Choices.{can_choose, chosen, chosen_by_name, chosen_in}
use Rattle.cddl_language.specs.Maps.{Alternatives, map_alternatives}
use Rattle.cddl_language.specs.Language as L
use Rattle.cddl_language.specs.Language.{TypeName, type, reference, chosen_of, word, GroupName, first_of, each_of, entry, round, between, choice, chosen_name, chosen_names, comparand, content, control_node, equal_to, group_form, language, map_node, part_form, round_form, rounds_form, such_as_compares, such_as_member, term_node, type_node}
use Rattle.check_instances.specs.Closed.Closed.{AreReached}
use Rattle.cddl_decided.specs.Ways.{WaysEnd, ends}
use Rattle.cddl_meaning.proofs.OfRanks.Lemmas.{AreAll, IsFounded, founded}
use Rattle.cddl_decided.proofs.Emptiness.{empty_entries}
use Rattle.cddl_decided.proofs.Names.{IsGroup, IsType, MoreChoices, OfInstances, all_both, all_mapped, instances_down, names_have}
use Rattle.cddl_decided.proofs.Parts.{named_group, opened_group}
use Rattle.cddl_decided.proofs.Points.{all_points}
use Rattle.cddl_decided.proofs.Reached.{AreInstancesOn, choice as choice_reached, each, entry as entry_reached, free, goes_on, in_all, left, of_all, of_group, right}

at_all : {A : Type 0} (P : A → Type 0) (xs : List A) → AreAll P xs → (x : A) → IsIn x xs → P x
at_all P [] h x i = absurd i
at_all P (y ∷ ys) h x (inl e) = subst P (sym e) h.0
at_all P (y ∷ ys) h x (inr i) = at_all P ys h.1 x i

-- nothing is free in these

no_choice : {N G : Type 0} {b : Name N G} → IsFreeInType (M.Choice []) b → ⊥
no_choice (R.member c) = absurd (from_contains [] _ c)

module _ (worth : Values) (ds : List Definition) (root : Text) (on : AreInstancesOn ds root) (more : MoreChoices ds) where
  abbrev Ending : Name TypeName GroupName → Type 0
  Ending a = IsFounded (language worth ds) a

  abbrev EndingType : TypeName → Type 0
  EndingType n = Ending (a_type n)

  abbrev Reached : List Entries → Type 0
  Reached ess = AreReached ds root (all_points ess)

  -- what a reference stands for ends
  abbrev Result : Point → Type 0
  Result (at_name r) = (is_group ds (name_of r) ≡ false → EndingType (reference r)) × (is_group ds (name_of r) ≡ true → Ending (a_group (first_of (group_choices ds r))))
  Result (at_unwrapping r) = ((t : Term) → opened ds r ≡ Some (opens_type t) → EndingType (type t)) × ((g : Group) → opened ds r ≡ Some (opens_group g) → Ending (a_group (first_of (alternatives g))))
  Result (at_choice r) = can_choose ds (group_choices ds r) ≡ true → AreAll EndingType (chosen_names worth ds (group_choices ds r))
  Result (at_chosen_name r) = can_choose ds (group_choices ds r) ≡ true → AreAll EndingType (chosen_names worth ds (group_choices ds r))
  Result (at_opened_choice r) = (g : Group) → opened ds r ≡ Some (opens_group g) → can_choose ds (alternatives g) ≡ true → AreAll EndingType (chosen_names worth ds (alternatives g))

  choosing : (ns : List TypeName) (n : TypeName) → type_node worth ds n ≡ M.Choice ns → AreAll EndingType ns → EndingType n
  choosing ns n e h = founded (λ b f. by b f)
    where
      member : (b : Name TypeName GroupName) → IsFreeInType (M.Choice ns) b → Ending b
      member b (R.member {m = m} c) = at_all EndingType ns h m (from_contains ns m c)

      by : (b : Name TypeName GroupName) → IsFree (language worth ds) (a_type n) b → Ending b
      by b (in_type f) = member b (subst (λ x. IsFreeInType x b) e f)

  named_free : (r : Ref) → Result (at_name r) → (c : Bool) → is_group ds (name_of r) ≡ c → (b : Name TypeName GroupName) → IsFreeInType (if c then M.Choice [] else M.Ref (reference r)) b → Ending b
  named_free r h true e b f = absurd (no_choice f)
  named_free r h false e b R.same_item = h.0 e

  content_free : (r : Ref) → Result (at_unwrapping r) → (o : Option Opened) → opened ds r ≡ o → (b : Name TypeName GroupName) → IsFreeInType (content o) b → Ending b
  content_free r h (Some (opens_type t)) e b R.same_item = h.0 t e
  content_free r h (Some (opens_group g)) e b f = absurd (no_choice f)
  content_free r h None e b f = absurd (no_choice f)

  choice_free : (ns : List TypeName) (o : Option (List Term)) → (is_some o ≡ true → AreAll EndingType ns) → (b : Name TypeName GroupName) → IsFreeInType (choice o ns) b → Ending b
  choice_free ns (Some ts) h b (R.member {m = m} c) = at_all EndingType ns (h refl) m (from_contains ns m c)
  choice_free ns None h b f = absurd (no_choice f)

  between_free : (c : Bool) (o q : Option Value) (b : Name TypeName GroupName) → IsFreeInType (between c o q) b → Ending b
  between_free c (Some x) (Some y) b f = elim f [ ]
  between_free c (Some x) None b f = absurd (no_choice f)
  between_free c None q b f = absurd (no_choice f)

  map_free : (o : Option Alternatives) (b : Name TypeName GroupName) → IsFreeInType (map_node o) b → Ending b
  map_free (Some mss) b f = elim f [ ]
  map_free None b f = absurd (no_choice f)

  compares_free : (c : C.Comparison) (o : Option Value) (a : Term) → EndingType (type a) → (b : Name TypeName GroupName) → IsFreeInType (such_as_compares c o a) b → Ending b
  compares_free c (Some v) a h b R.tested = h
  compares_free c None a h b f = absurd (no_choice f)

  member_free : (m : C.Membership) (o : Option Sizes) (a : Term) → EndingType (type a) → (b : Name TypeName GroupName) → IsFreeInType (such_as_member m o a) b → Ending b
  member_free m (Some rs) a h b R.tested = h
  member_free m None a h b f = absurd (no_choice f)

  equal_free : (o : Option Meaning) (b : Name TypeName GroupName) → IsFreeInType (equal_to o) b → Ending b
  equal_free (Some m) b f = elim f [ ]
  equal_free None b f = absurd (no_choice f)

  control_free : (o : Option C.Control) (t u : Term) → EndingType (type t) → (C.is_asked_here o ≡ true → EndingType (type u)) → (b : Name TypeName GroupName) → IsFreeInType (control_node worth ds o t u) b → Ending b
  control_free (Some C.left_alone) t u h k b R.same_item = h
  control_free (Some C.left_and_right) t u h k b R.left_side = h
  control_free (Some C.left_and_right) t u h k b R.right_side = k refl
  control_free (Some C.held_item) t u h k b R.holder = h
  control_free (Some C.held_sequence) t u h k b R.holder = h
  control_free (Some C.held_sequence) t u h k b R.sequence_held = k refl
  control_free (Some (C.compared c)) t u h k b f = compares_free c (comparand (C.is_ordering c) (literal_of worth ds u)) t h b f
  control_free (Some (C.member m)) t u h k b f = member_free m (members_of m worth ds u) t h b f
  control_free (Some (C.computed c)) t u h k b f = equal_free (computed_literal c (literal_of worth ds t) (literal_of worth ds u)) b f
  control_free None t u h k b f = absurd (no_choice f)

  -- the parts of a sequence, one after the other
  part_cases : (xs ys : List GroupName) (g : GroupName) → IsFreePart (language worth ds) (xs ++ ys) g → IsFreePart (language worth ds) xs g ⊎ (R.AllMayBeEmpty (language worth ds) xs × IsFreePart (language worth ds) ys g)
  part_cases [] ys g f = inr (R.no_part, f)
  part_cases (x ∷ xs) ys g R.front = inl R.front
  part_cases (x ∷ xs) ys g (R.past_empty m f) = by (part_cases xs ys g f)
    where
      by : IsFreePart (language worth ds) xs g ⊎ (R.AllMayBeEmpty (language worth ds) xs × IsFreePart (language worth ds) ys g) → IsFreePart (language worth ds) (x ∷ xs) g ⊎ (R.AllMayBeEmpty (language worth ds) (x ∷ xs) × IsFreePart (language worth ds) ys g)
      by (inl k) = inl (R.past_empty m k)
      by (inr (a, k)) = inr (R.this_part m a, k)

  mapped_more : (xs ys : List Entry) → map entry (xs ++ ys) ≡ map entry xs ++ map entry ys
  mapped_more [] ys = refl
  mapped_more (x ∷ xs) ys = ap (λ (zs : List GroupName). entry x ∷ zs) (mapped_more xs ys)

  last_part : (x : Entry) (g : GroupName) → IsFreePart (language worth ds) (entry x ∷ []) g → Ending (a_group (entry x)) → Ending (a_group g)
  last_part x g R.front h = h
  last_part x g (R.past_empty m f) h = elim f [ ]

  groups_of : (ess : List Entries) → AreAll (λ es. Ending (a_group (each_of es))) ess → Ending (a_group (first_of ess))
  groups_of ess h = founded (λ b f. by b f)
    where
      alternative : (g : GroupName) → IsFreeInGroup (language worth ds) (M.Alternatives (map each_of ess)) g → Ending (a_group g)
      alternative g (R.alternative c) = at_all (λ x. Ending (a_group x)) (map each_of ess) (all_mapped (λ x. Ending (a_group x)) each_of ess h) g (from_contains (map each_of ess) g c)

      by : (b : Name TypeName GroupName) → IsFree (language worth ds) (a_group (first_of ess)) b → Ending b
      by b (in_group {h = g} f) = alternative g f

  part_free : (t : Term) (p : Part) → part_of ds t ≡ p → ((r : Ref) → p ≡ names_group r → Result (at_name r)) → ((r : Ref) (g : Group) → p ≡ opens r g → Result (at_unwrapping r)) → (g : GroupName) → IsFreeInGroup (language worth ds) (part_form worth ds t p) g → Ending (a_group g)
  part_free t asks_type i h k g f = elim f [ ]
  part_free t (names_group r) i h k g R.same_list = (h r refl).1 (named_group ds t r i)
  part_free t (opens r o) i h k g R.same_list = (k r o refl).1 o (opened_group ds t r o i)

  type_ends : (t : Term) → ((b : Name TypeName GroupName) → IsFreeInType (term_node worth ds t) b → Ending b) → EndingType (type t)
  type_ends t h = founded (λ b f. by b f)
    where
      by : (b : Name TypeName GroupName) → IsFree (language worth ds) (a_type (type t)) b → Ending b
      by b (in_type f) = h b f

  -- a type that is no choice
  alone : (t : Term) → choices t ≡ t ∷ [] → ((b : Name TypeName GroupName) → IsFreeInType (term_node worth ds t) b → Ending b) → EndingType (type t) × AreAll (λ u. EndingType (type u)) (choices t)
  alone t e h = let f = type_ends t h in (f, subst (AreAll (λ u. EndingType (type u))) (sym e) (f, tt))

  inside : (t : Term) → EndingType (type t) → (b : Name TypeName GroupName) → IsFreeInType (M.Ref (type t)) b → Ending b
  inside t h b R.same_item = h

  array : (g : Group) → Ending (a_group (first_of (alternatives g))) → (b : Name TypeName GroupName) → IsFreeInType (M.ArrayOf (first_of (alternatives g))) b → Ending b
  array g h b R.all_items = h

  number : (t : Term) → EndingType (type t) → (b : Name TypeName GroupName) → IsFreeInType (M.SimpleBy (type t)) b → Ending b
  number t h b R.its_number = h

  sequence : (es : Entries) → ((g : GroupName) → IsFreePart (language worth ds) (map entry (entry_list es)) g → Ending (a_group g)) → Ending (a_group (each_of es))
  sequence es h = founded (λ b f. by b f)
    where
      of_part : (g : GroupName) → IsFreeInGroup (language worth ds) (M.Sequence (map entry (entry_list es))) g → Ending (a_group g)
      of_part g (R.part f) = h g f

      by : (b : Name TypeName GroupName) → IsFree (language worth ds) (a_group (each_of es)) b → Ending b
      by b (in_group {h = g} f) = of_part g f

  one_round : (x : Entry) → ((g : GroupName) → IsFreeInGroup (language worth ds) (round_form worth ds x) g → Ending (a_group g)) → Ending (a_group (round x))
  one_round x h = founded (λ b f. by b f)
    where
      by : (b : Name TypeName GroupName) → IsFree (language worth ds) (a_group (round x)) b → Ending b
      by b (in_group {h = g} f) = h g f

  rounds_free : (x : Entry) → Ending (a_group (round x)) → (least : ℕ) (most : Most) (g : GroupName) → IsFreeInGroup (language worth ds) (rounds_form worth ds x least most) g → Ending (a_group g)
  rounds_free x h least any_number_of g R.a_round = h
  rounds_free x h least (at_most n) g f = by (ltb n least) g f
    where
      by : (c : Bool) (g : GroupName) → IsFreeInGroup (language worth ds) (if c then M.Alternatives [] else M.Repeat least (at_most n) (round x)) g → Ending (a_group g)
      by true g (R.alternative c) = absurd (from_contains [] g c)
      by false g R.a_round = h

  an_entry : (x : Entry) → ((g : GroupName) → IsFreeInGroup (language worth ds) (round_form worth ds x) g → Ending (a_group g)) → Ending (a_group (entry x))
  an_entry x h = founded (λ b f. by b f)
    where
      formed : (c : Bool) (g : GroupName) → IsFreeInGroup (language worth ds) (if c then round_form worth ds x else rounds_form worth ds x (least_of (occurrence_of x)) (most_of (occurrence_of x))) g → Ending (a_group g)
      formed true g f = h g f
      formed false g f = rounds_free x (one_round x h) (least_of (occurrence_of x)) (most_of (occurrence_of x)) g f

      by : (b : Name TypeName GroupName) → IsFree (language worth ds) (a_group (entry x)) b → Ending b
      by b (in_group {h = g} f) = formed (occurs_once (occurrence_of x)) g f

  grouped_in : (i : Group) → Ending (a_group (first_of (alternatives i))) → (g : GroupName) → IsFreeInGroup (language worth ds) (M.GroupRef (first_of (alternatives i))) g → Ending (a_group g)
  grouped_in i h g R.same_list = h

  some_first : (p : Point) (xs ys : List Entries) → IsFreeInSome ds p xs → IsFreeInSome ds p (xs ++ ys)
  some_first p xs ys (F.in_this h) = F.in_this h
  some_first p xs ys (F.in_later {ess = zs} h) = F.in_later (some_first p zs ys h)

  some_last : (p : Point) (xs ys : List Entries) → IsFreeInSome ds p ys → IsFreeInSome ds p (xs ++ ys)
  some_last p [] ys h = h
  some_last p (x ∷ xs) ys h = F.in_later (some_last p xs ys h)

  choice_first : (p : Point) (xs ys : List Entries) → IsFreeInChoice ds p xs → IsFreeInChoice ds p (xs ++ ys)
  choice_first p xs ys (F.of_this h) = F.of_this h
  choice_first p xs ys (F.of_later {ess = zs} h) = F.of_later (choice_first p zs ys h)

  choice_last : (p : Point) (xs ys : List Entries) → IsFreeInChoice ds p ys → IsFreeInChoice ds p (xs ++ ys)
  choice_last p [] ys h = h
  choice_last p (x ∷ xs) ys h = F.of_later (choice_last p xs ys h)

  -- what `&` chooses from, entry by entry

  abbrev AllOf : (TypeName → Type 0) → Entries → Type 0
  AllOf P es = AreAll (λ x. P (chosen_name worth ds x)) (entry_list es)

  all_split : {A : Type 0} (P : A → Type 0) (xs ys : List A) → AreAll P (xs ++ ys) → AreAll P xs × AreAll P ys
  all_split P [] ys h = (tt, h)
  all_split P (x ∷ xs) ys h = let s = all_split P xs ys h.1 in ((h.0, s.0), s.1)

  unmapped : (P : TypeName → Type 0) (xs : List Entry) → AreAll P (map (chosen_name worth ds) xs) → AreAll (λ x. P (chosen_name worth ds x)) xs
  unmapped P [] h = tt
  unmapped P (x ∷ xs) h = (h.0, unmapped P xs h.1)

  names_split : (P : TypeName → Type 0) (ess : List Entries) → AreAll P (chosen_names worth ds ess) → AreAll (AllOf P) ess
  names_split P [] h = tt
  names_split P (es ∷ ess) h = let s = all_split P (map (chosen_name worth ds) (entry_list es)) (chosen_names worth ds ess) h in (unmapped P (entry_list es) s.0, names_split P ess s.1)

  names_end : (ess : List Entries) → AreAll (AllOf EndingType) ess → AreAll EndingType (chosen_names worth ds ess)
  names_end [] h = tt
  names_end (es ∷ ess) h = all_both EndingType (map (chosen_name worth ds) (entry_list es)) (chosen_names worth ds ess) (all_mapped EndingType (chosen_name worth ds) (entry_list es) h.0) (names_end ess h.1)

  abbrev Types : TypeName → Type 0
  Types n = IsType worth ds root n

  chosen_part_ends : (t : Term) (p : Part) → part_of ds t ≡ p → (p ≡ asks_type → EndingType (type t)) → ((r : Ref) → p ≡ names_group r → Result (at_chosen_name r)) → ((r : Ref) (g : Group) → p ≡ opens r g → Result (at_opened_choice r)) → Types (L.chosen_part_name worth ds t p) → EndingType (L.chosen_part_name worth ds t p)
  chosen_part_ends t asks_type i h k o a = h refl
  chosen_part_ends t (names_group r) i h k o a = choosing (chosen_names worth ds (group_choices ds r)) (chosen_of (group_choices ds r)) refl (k r refl a.1)
  chosen_part_ends t (opens r g) i h k o a = choosing (chosen_names worth ds (alternatives g)) (chosen_of (alternatives g)) refl (o r g refl g (opened_group ds t r g i) a.1)

  mutual
    -- the type ends, and so does each of its choices
    both_end : (t : Term) → AreReached ds root (points t) → ((p : Point) → F.IsFree ds p t → Result p) → EndingType (type t) × AreAll (λ u. EndingType (type u)) (choices t)
    both_end (or t u) h k =
        let all = all_both (λ v. EndingType (type v)) (choices t) (u ∷ []) (both_end t (left ds root (points t) (points u) h) (λ p f. k p (F.in_first f))).1 ((both_end u (right ds root (points t) (points u) h) (λ p f. k p (F.in_second f))).0, tt) in
        (choosing (map type (choices (or t u))) (type (or t u)) refl (all_mapped EndingType type (choices (or t u)) all), all)
    both_end (literal v) h k = alone (literal v) refl (λ b f. elim f [ ])
    both_end (named r) h k = alone (named r) refl (named_free r (k (at_name r) (F.name refl)) (is_group ds (name_of r)) refl)
    both_end (parens t) h k = alone (parens t) refl (inside t (both_end t h (λ p f. k p (F.in_parens f))).0)
    both_end (map_of g) h k = alone (map_of g) refl (map_free (map_alternatives ds g))
    both_end (array_of g) h k = alone (array_of g) refl (array g (groups_of (alternatives g) (all_end g h (λ p f. k p (F.in_array f)))))
    both_end (unwrapped r) h k = alone (unwrapped r) refl (content_free r (k (at_unwrapping r) (F.unwrapping refl)) (opened ds r) refl)
    both_end (choice_of g) h k = alone (choice_of g) refl (choice_free (chosen_names worth ds (alternatives g)) (chosen ds g) (λ s. names_end (alternatives g) (chosen_alternatives_end g h (names_split Types (alternatives g) (names_have worth ds (OfInstances ds root) (instances_down ds root on) more (alternatives g) (of_group ds root g h) (chosen ds g) refl s)) (λ p f. k p (F.in_choice f)))))
    both_end (choice_of_name r) h k = alone (choice_of_name r) refl (choice_free (chosen_names worth ds (group_choices ds r)) (chosen_by_name ds r) (k (at_choice r) (F.choice_by_name refl)))
    both_end (tagged n t) h k = alone (tagged n t) refl (λ b f. elim f [ ])
    both_end (tagged_by u t) h k = alone (tagged_by u t) refl (λ b f. elim f [ ])
    both_end (simple_by u) h k = alone (simple_by u) refl (number u (both_end u h (λ p f. k p (F.in_head f))).0)
    both_end (hash n) h k = alone (hash n) refl (λ b f. elim f [ ])
    both_end (range a c b) h k = alone (range a c b) refl (between_free c (whole_of worth ds a) (whole_of worth ds b))
    both_end (control a n b) h k = alone (control a n b) refl (control_free (C.control_of n) a b (both_end a (left ds root (points a) (points b) h) (λ p f. k p (F.in_left f))).0 (λ i. (both_end b (right ds root (points a) (points b) h) (λ p f. k p (F.in_controller i f))).0))

    all_end : (g : Group) → AreReached ds root (group_points g) → ((p : Point) → IsFreeInSome ds p (alternatives g) → Result p) → AreAll (λ es. Ending (a_group (each_of es))) (alternatives g)
    all_end (sole es) h k = (sequence es (parts_end es h (λ p f. k p (F.in_this f))), tt)
    all_end (orelse g es) h k = all_both (λ fs. Ending (a_group (each_of fs))) (alternatives g) (es ∷ []) (all_end g (left ds root (group_points g) (entries_points es) h) (λ p f. k p (some_first p (alternatives g) (es ∷ []) f))) (sequence es (parts_end es (right ds root (group_points g) (entries_points es) h) (λ p f. k p (some_last p (alternatives g) (es ∷ []) (F.in_this f)))), tt)

    parts_end : (es : Entries) → AreReached ds root (entries_points es) → ((p : Point) → IsFreeInEach ds p es → Result p) → (g : GroupName) → IsFreePart (language worth ds) (map entry (entry_list es)) g → Ending (a_group g)
    parts_end no_entries h k g f = elim f [ ]
    parts_end (entries es x c) h k g f = by (part_cases (map entry (entry_list es)) (entry x ∷ []) g (subst (λ zs. IsFreePart (language worth ds) zs g) (mapped_more (entry_list es) (x ∷ [])) f)) (parts_end es (left ds root (entries_points es) (entry_points x) h) (λ p i. k p (F.in_earlier i)) g) (λ m. an_entry x (round_free x (right ds root (entries_points es) (entry_points x) h) (λ p i. k p (F.in_last m i))))
      where
        by : IsFreePart (language worth ds) (map entry (entry_list es)) g ⊎ (R.AllMayBeEmpty (language worth ds) (map entry (entry_list es)) × IsFreePart (language worth ds) (entry x ∷ []) g) → (IsFreePart (language worth ds) (map entry (entry_list es)) g → Ending (a_group g)) → (F.MayBeEmpty ds es → Ending (a_group (entry x))) → Ending (a_group g)
        by (inl i) earlier last = earlier i
        by (inr (m, i)) earlier last = last_part x g i (last (empty_entries worth ds es m))

    round_free : (x : Entry) → AreReached ds root (entry_points x) → ((p : Point) → IsFreeInEntry ds p x → Result p) → (g : GroupName) → IsFreeInGroup (language worth ds) (round_form worth ds x) g → Ending (a_group g)
    round_free (typed o t) h k g f = part_free t (part_of ds t) refl (λ r e. k (at_name r) (F.group_name e refl)) (λ r i e. k (at_unwrapping r) (F.group_opened e refl)) g f
    round_free (keyed o y t) h k g f = elim f [ ]
    round_free (grouped o i) h k g f = grouped_in i (groups_of (alternatives i) (all_end i h (λ p j. k p (F.in_group j)))) g f

    chosen_alternatives_end : (g : Group) → AreReached ds root (group_points g) → AreAll (AllOf Types) (alternatives g) → ((p : Point) → IsFreeInChoice ds p (alternatives g) → Result p) → AreAll (AllOf EndingType) (alternatives g)
    chosen_alternatives_end (sole es) h a k = (chosen_entries_end es h a.0 (λ p f. k p (F.of_this f)), tt)
    chosen_alternatives_end (orelse g es) h a k =
        let s = all_split (AllOf Types) (alternatives g) (es ∷ []) a in
        all_both (AllOf EndingType) (alternatives g) (es ∷ []) (chosen_alternatives_end g (left ds root (group_points g) (entries_points es) h) s.0 (λ p f. k p (choice_first p (alternatives g) (es ∷ []) f))) (chosen_entries_end es (right ds root (group_points g) (entries_points es) h) s.1.0 (λ p f. k p (choice_last p (alternatives g) (es ∷ []) (F.of_this f))), tt)

    chosen_entries_end : (es : Entries) → AreReached ds root (entries_points es) → AllOf Types es → ((p : Point) → IsFreeInChosen ds p es → Result p) → AllOf EndingType es
    chosen_entries_end no_entries h a k = tt
    chosen_entries_end (entries es x c) h a k =
        let s = all_split (λ y. Types (chosen_name worth ds y)) (entry_list es) (x ∷ []) a in
        all_both (λ y. EndingType (chosen_name worth ds y)) (entry_list es) (x ∷ []) (chosen_entries_end es (left ds root (entries_points es) (entry_points x) h) s.0 (λ p f. k p (F.of_earlier f))) (chosen_entry_ends x (right ds root (entries_points es) (entry_points x) h) s.1.0 (λ p f. k p (F.of_last f)), tt)

    chosen_entry_ends : (x : Entry) → AreReached ds root (entry_points x) → Types (chosen_name worth ds x) → ((p : Point) → IsFreeInChosenEntry ds p x → Result p) → EndingType (chosen_name worth ds x)
    chosen_entry_ends (typed o t) h a k = chosen_part_ends t (part_of ds t) refl (λ e. (both_end t h (λ p f. k p (F.of_type e f))).0) (λ r e. k (at_chosen_name r) (F.of_name e refl)) (λ r g e. k (at_opened_choice r) (F.of_opened e refl)) a
    chosen_entry_ends (keyed o y t) h a k = (both_end t (right ds root (key_points y) (points t) h) (λ p f. k p (F.of_keyed f))).0
    chosen_entry_ends (grouped o g) h a k = choosing (chosen_names worth ds (alternatives g)) (chosen_of (alternatives g)) refl (names_end (alternatives g) (chosen_alternatives_end g h (names_split Types (alternatives g) (names_have worth ds (OfInstances ds root) (instances_down ds root on) more (alternatives g) a.0 (chosen ds g) refl a.1)) (λ p f. k p (F.of_group f))))

  group_ends : (g : Group) → AreReached ds root (group_points g) → ((p : Point) → IsFreeInSome ds p (alternatives g) → Result p) → Ending (a_group (first_of (alternatives g)))
  group_ends g h k = groups_of (alternatives g) (all_end g h k)

  entries_end : (es : Entries) → AreReached ds root (entries_points es) → ((p : Point) → IsFreeInEach ds p es → Result p) → Ending (a_group (each_of es))
  entries_end es h k = sequence es (parts_end es h k)

  entry_ends : (x : Entry) → AreReached ds root (entry_points x) → ((p : Point) → IsFreeInEntry ds p x → Result p) → Ending (a_group (entry x))
  entry_ends x h k = an_entry x (round_free x h k)

  chosen_group_ends : (g : Group) → AreReached ds root (group_points g) → AreAll Types (chosen_names worth ds (alternatives g)) → ((p : Point) → IsFreeInChoice ds p (alternatives g) → Result p) → AreAll EndingType (chosen_names worth ds (alternatives g))
  chosen_group_ends g h a k = names_end (alternatives g) (chosen_alternatives_end g h (names_split Types (alternatives g) a) k)

  -- Of references, where ways from them end.

  all_of : {A : Type 0} (P : A → Type 0) (xs : List A) → ((x : A) → Contains xs x → P x) → AreAll P xs
  all_of P [] h = tt
  all_of P (x ∷ xs) h = (h x (to_contains (x ∷ xs) x (inl refl)), all_of P xs (λ y c. h y (to_contains (x ∷ xs) y (inr (from_contains xs y c)))))

  in_some : (ess : List Entries) (es : Entries) (p : Point) → IsIn es ess → IsFreeInEach ds p es → IsFreeInSome ds p ess
  in_some [] es p i f = absurd i
  in_some (fs ∷ ess) es p (inl e) f = F.in_this (subst (λ x. IsFreeInEach ds p x) e f)
  in_some (fs ∷ ess) es p (inr i) f = F.in_later (in_some ess es p i f)

  in_choice : (ess : List Entries) (es : Entries) (p : Point) → IsIn es ess → IsFreeInChosen ds p es → IsFreeInChoice ds p ess
  in_choice [] es p i f = absurd i
  in_choice (fs ∷ ess) es p (inl e) f = F.of_this (subst (λ x. IsFreeInChosen ds p x) e f)
  in_choice (fs ∷ ess) es p (inr i) f = F.of_later (in_choice ess es p i f)

  -- what `&` chooses from these alternatives
  list_ends : (ess : List Entries) → ((es : Entries) → Contains ess es → AreReached ds root (entries_points es)) → AreAll (AllOf Types) ess → ((p : Point) → IsFreeInChoice ds p ess → Result p) → AreAll EndingType (chosen_names worth ds ess)
  list_ends ess h a k = names_end ess (all_of (AllOf EndingType) ess (λ es c. chosen_entries_end es (h es c) (at_all (AllOf Types) ess a es (from_contains ess es c)) (λ p f. k p (in_choice ess es p (from_contains ess es c) f))))

  result : (p : Point) → Reaches ds root (ref_at p) → WaysEnd ds p → Result p
  result (at_name r) h (ends f) = (
    λ e. choosing (map type (type_choices ds r)) (reference r) refl (all_mapped EndingType type (type_choices ds r) (all_of (λ t. EndingType (type t)) (type_choices ds r) (λ t c. (both_end t (on.types r t h c) (λ q i. result q (goes_on ds root on (at_name r) q (F.by_type e c i) h) (f q (F.by_type e c i)))).0))),
    λ e. groups_of (group_choices ds r) (all_of (λ es. Ending (a_group (each_of es))) (group_choices ds r) (λ es c. entries_end es (on.group r es h c) (λ q i. result q (goes_on ds root on (at_name r) q (F.by_group e (in_some (group_choices ds r) es q (from_contains (group_choices ds r) es c) i)) h) (f q (F.by_group e (in_some (group_choices ds r) es q (from_contains (group_choices ds r) es c) i)))))),
  )
  result (at_unwrapping r) h (ends f) = (
    λ t e. (both_end t (on.content r t h e) (λ q i. result q (goes_on ds root on (at_unwrapping r) q (F.by_content e i) h) (f q (F.by_content e i)))).0,
    λ g e. group_ends g (on.opened_group r g h e) (λ q i. result q (goes_on ds root on (at_unwrapping r) q (F.by_opened_group e i) h) (f q (F.by_opened_group e i))),
  )
  result (at_choice r) h (ends f) = result (at_chosen_name r) h (f (at_chosen_name r) (F.by_choice refl))
  result (at_chosen_name r) h (ends f) = λ c. list_ends (group_choices ds r) (λ es i. on.group r es h i) (names_split Types (group_choices ds r) (names_have worth ds (OfInstances ds root) (instances_down ds root on) more (group_choices ds r) (of_all ds root (group_choices ds r) (λ es i. on.group r es h i)) (chosen_by_name ds r) refl c)) (λ q i. result q (goes_on ds root on (at_chosen_name r) q (F.by_chosen_name c i) h) (f q (F.by_chosen_name c i)))
  result (at_opened_choice r) h (ends f) = λ g e c. chosen_group_ends g (on.opened_group r g h e) (names_have worth ds (OfInstances ds root) (instances_down ds root on) more (alternatives g) (of_group ds root g (on.opened_group r g h e)) (chosen ds g) refl c) (λ q i. result q (goes_on ds root on (at_opened_choice r) q (F.by_opened_choice e c i) h) (f q (F.by_opened_choice e c i)))

  -- of all that is of instances alone

  module _ (each_ends : (p : Point) → Reaches ds root (ref_at p) → WaysEnd ds p) where
    at_point : (p : Point) → Reaches ds root (ref_at p) → Result p
    at_point p h = result p h (each_ends p h)

    pub type_founded : (n : TypeName) → Types n → EndingType n
    type_founded (type t) h = (both_end t h (λ p f. at_point p (free ds root on p t f h))).0
    type_founded (reference r) h = (at_point (at_name r) h.0).0 h.1
    type_founded (chosen_of ess) h = choosing (chosen_names worth ds ess) (chosen_of ess) refl (list_ends ess (λ es c. in_all ds root ess es (from_contains ess es c) h.0) (names_split Types ess (names_have worth ds (OfInstances ds root) (instances_down ds root on) more ess h.0 (chosen_in ds most_instances ess) refl h.1)) (λ p f. at_point p (choice_reached ds root on p ess f h.0)))
    type_founded (word n) h = founded (λ b f. by b f)
      where
        by : (b : Name TypeName GroupName) → IsFree (language worth ds) (a_type (word n)) b → Ending b
        by b (in_type f) = elim f [ ]

    pub group_founded : (n : GroupName) → IsGroup worth ds root n → Ending (a_group n)
    group_founded (first_of ess) h = groups_of ess (all_of (λ es. Ending (a_group (each_of es))) ess (λ es c. entries_end es (in_all ds root ess es (from_contains ess es c) h) (λ p f. at_point p (each ds root on p es f (in_all ds root ess es (from_contains ess es c) h)))))
    group_founded (each_of es) h = entries_end es h (λ p f. at_point p (each ds root on p es f h))
    group_founded (entry x) h = entry_ends x h (λ p f. at_point p (entry_reached ds root on p x f h))
    group_founded (round x) h = one_round x (round_free x h (λ p f. at_point p (entry_reached ds root on p x f h)))
