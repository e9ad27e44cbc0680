-- What holds of a type or a group holds of whatever it names, where it goes down to the parts of a piece; so of instances alone.
use Rattle.std.proofs.Common.{◌≡◌, ℕ, zero, suc, ◌≤◌, ltb, Bool, true, false, if◌then◌else◌, List, [], ◌∷◌, ◌++◌, map, Option, Some, None, is_some, refl, sym, ap, subst, ◌∙◌, arith}
use Rattle.std.specs.Prelude.{Contains}
use Rattle.std.specs.List.{list_all}
use Rattle.std.proofs.lemmas.List.{append-nil, append_assoc}
use Rattle.lists.proofs.Lemmas.{from_contains, to_contains, no_some as none_is_some}
use Rattle.std.proofs.lemmas.Bool.{false≢true}
use Rattle.std.proofs.Common.{inl, inr}
use Rattle.cbor_data.specs.Value.{Value}
use Rattle.cddl_literal.specs.Numbers.{Meaning}
use Rattle.cddl_meaning.specs.Forms as F
use Rattle.cddl_meaning.specs.Forms.{Most, at_most, any_number_of}
use Rattle.cddl_language.specs.Controls as C
use Rattle.cddl_language.specs.Numbers.{least_of, most_of, number_or_any, occurs_once}
use Rattle.cddl_language.specs.Terms.{Text, Term, literal, named, parens, map_of, array_of, unwrapped, choice_of, choice_of_name, tagged, tagged_by, simple_by, hash, range, control, or, Ref, Group, sole, orelse, Entries, no_entries, entries, Entry, typed, keyed, grouped, Key, of_type, bareword, of_value, Definition, alternatives, choices, entry_list, name_of, occurrence_of}
use Rattle.cddl_language.specs.Substitution.{group_choices, type_choices}
use Rattle.cddl_language.specs.Kinds.{Opened, opens_group, opens_type, opened, is_group, Part, asks_type, names_group, opens, part_of}
use Rattle.cddl_language.specs.Reach.{Reaches, at_choice, at_name, at_unwrapping, entries_points, entry_points, group_points, key_points, most_instances, points}
use Rattle.cddl_language.specs.Literals.{Values, computed_literal, literal_of, whole_of}
use Rattle.cddl_language.specs.Sizes.{Sizes, members_of}
use Rattle.cddl_language.specs.Choices as Ch
use Rattle.cddl_language.specs.Choices.{can_choose, chosen, chosen_by_name, chosen_each, chosen_entries, chosen_entry, chosen_group, chosen_in, chosen_part}
use Rattle.cddl_language.specs.Maps as M
use Rattle.cddl_language.specs.Maps.{Alternatives, Member, alternatives_in, combined, each_needed, from, in_each, in_entries, in_entry, in_group, in_part, is_needed, map_alternatives, may_repeat, members, occurring, occurring_so, occurs, ways}
use Rattle.cddl_language.specs.Language.{TypeName, type, reference, chosen_of, word, GroupName, first_of, each_of, entry, round, between, choice, chosen_name, chosen_names, chosen_part_name, comparand, content, control_node, equal_to, group_form, key_name, map_entry, map_node, part_form, round_form, rounds_form, such_as_compares, such_as_member, term_node, type_node}
use Rattle.cddl_meaning.proofs.OfRanks.Lemmas.{AreAll, HasEntry, HasGroupParts, HasNumber, HasTypeParts}
use Rattle.cddl_decided.proofs.Points.{all_points}
use Rattle.cddl_decided.proofs.Pieces.{GoesDown, Piece, a_body, a_key, a_ref, a_term, a_word, all_of, an_entry, each_in, one_of}
use Rattle.cddl_decided.proofs.Reached.{AreInstancesOn, left, nothing, of_all, of_group, one, right}
use Rattle.check_instances.specs.Closed.Closed.{AreReached}

pub all_both : {A : Type 0} (P : A → Type 0) (xs ys : List A) → AreAll P xs → AreAll P ys → AreAll P (xs ++ ys)
all_both P [] ys h k = k
all_both P (x ∷ xs) ys h k = (h.0, all_both P xs ys h.1 k)

pub all_mapped : {A B : Type 0} (P : B → Type 0) (f : A → B) (xs : List A) → AreAll (λ x. P (f x)) xs → AreAll P (map f xs)
all_mapped P f [] h = tt
all_mapped P f (x ∷ xs) h = (h.0, all_mapped P f xs h.1)

-- Options of lists of types.

two : (o q : Option (List Term)) (vs : List Term) → Ch.types_of_both o q ≡ Some vs → (ts : List Term) × (us : List Term) × (o ≡ Some ts) × (q ≡ Some us)
two (Some ts) (Some us) vs e = (ts, us, refl, refl)
two (Some ts) None vs e = cc
two None q vs e = cc

joined_nothing : (o : Option (List Term)) → o ≡ Ch.types_of_both o (Some [])
joined_nothing (Some ts) = ap Some (sym (append-nil ts))
joined_nothing None = refl

nothing_joined : (o : Option (List Term)) → Ch.types_of_both o (Some []) ≡ Ch.types_of_both (Some []) o
nothing_joined (Some ts) = ap Some (append-nil ts)
nothing_joined None = refl

joined_further : (o q p : Option (List Term)) → Ch.types_of_both o (Ch.types_of_both q p) ≡ Ch.types_of_both (Ch.types_of_both o q) p
joined_further (Some a) (Some b) (Some c) = ap Some (sym (append_assoc a b c))
joined_further (Some a) (Some b) None = refl
joined_further (Some a) None p = refl
joined_further None q p = refl

module _ (ds : List Definition) (next : List Entries → Option (List Term)) where
  each_more : (ess : List Entries) (es : Entries) → Ch.types_of_both (chosen_each ds next ess) (chosen_entries ds next es) ≡ chosen_each ds next (ess ++ es ∷ [])
  each_more [] es = sym (nothing_joined (chosen_entries ds next es))
  each_more (fs ∷ ess) es = sym (joined_further (chosen_entries ds next fs) (chosen_each ds next ess) (chosen_entries ds next es)) ∙ ap (λ o. Ch.types_of_both (chosen_entries ds next fs) o) (each_more ess es)

  -- `&` chooses from a group what it chooses from its alternatives
  group_each : (g : Group) → chosen_group ds next g ≡ chosen_each ds next (alternatives g)
  group_each (sole es) = joined_nothing (chosen_entries ds next es)
  group_each (orelse g es) = ap (λ o. Ch.types_of_both o (chosen_entries ds next es)) (group_each g) ∙ each_more (alternatives g) es

abbrev pub MoreChoices : List Definition → Type 0
MoreChoices ds = (k n : ℕ) → k ≤ n → (ess : List Entries) (ts : List Term) → chosen_in ds k ess ≡ Some ts → chosen_in ds n ess ≡ Some ts

module _ (worth : Values) (ds : List Definition) (Has : Piece → Type 0) where
  abbrev pub TypeHas : TypeName → Type 0
  TypeHas (type t) = Has (a_term t)
  TypeHas (reference r) = Has (a_ref r) × (is_group ds (name_of r) ≡ false)
  TypeHas (chosen_of ess) = Has (all_of ess) × (can_choose ds ess ≡ true)
  TypeHas (word n) = Has (a_word n)

  abbrev pub GroupHas : GroupName → Type 0
  GroupHas (first_of ess) = Has (all_of ess)
  GroupHas (each_of es) = Has (one_of es)
  GroupHas (entry e) = Has (an_entry e)
  GroupHas (round e) = Has (an_entry e)

  module _ (down : GoesDown ds Has) (more : MoreChoices ds) where
    -- what `&` chooses from

    module _ (next : List Entries → Option (List Term)) (can : (ess : List Entries) (ts : List Term) → next ess ≡ Some ts → can_choose ds ess ≡ true) (can_group : (g : Group) (ts : List Term) → chosen_group ds next g ≡ Some ts → can_choose ds (alternatives g) ≡ true) where
      part_has : (t : Term) → Has (a_term t) → (p : Part) → part_of ds t ≡ p → (ts : List Term) → chosen_part ds next t p ≡ Some ts → TypeHas (chosen_part_name worth ds t p)
      part_has t h asks_type i ts e = h
      part_has t h (names_group r) i ts e = (down.group r (down.named_group t r h i), can (group_choices ds r) ts e)
      part_has t h (opens r g) i ts e = (down.opened_group t r g h i, can (alternatives g) ts e)

      entry_has : (x : Entry) → Has (an_entry x) → (ts : List Term) → chosen_entry ds next x ≡ Some ts → TypeHas (chosen_name worth ds x)
      entry_has (typed o t) h ts e = by (occurs_once o) e
        where
          by : (b : Bool) → (if b then chosen_part ds next t (part_of ds t) else None) ≡ Some ts → TypeHas (chosen_part_name worth ds t (part_of ds t))
          by true e = part_has t (down.in_typed o t h) (part_of ds t) refl ts e
          by false e = cc
      entry_has (keyed o k t) h ts e = (down.in_keyed o k t h).1
      entry_has (grouped o g) h ts e = by (occurs_once o) e
        where
          by : (b : Bool) → (if b then chosen_group ds next g else None) ≡ Some ts → TypeHas (chosen_of (alternatives g))
          by true e = ((down.in_grouped o g h).1, can_group g ts e)
          by false e = cc

      named_each : (es fs : List Entry) → AreAll (λ x. TypeHas (chosen_name worth ds x)) (es ++ fs) → AreAll TypeHas (map (chosen_name worth ds) (es ++ fs))
      named_each es fs h = all_mapped TypeHas (chosen_name worth ds) (es ++ fs) h

      entries_have : (es : Entries) → Has (one_of es) → (ts : List Term) → chosen_entries ds next es ≡ Some ts → AreAll (λ x. TypeHas (chosen_name worth ds x)) (entry_list es)
      entries_have no_entries h ts e = tt
      entries_have (entries es x c) h ts e =
          let s = two (chosen_entries ds next es) (chosen_entry ds next x) ts e in
          all_both (λ y. TypeHas (chosen_name worth ds y)) (entry_list es) (x ∷ []) (entries_have es (down.in_entries es x c h).0 s.0 s.2) (entry_has x (down.in_entries es x c h).1 s.1 s.3, tt)

      each_have : (ess : List Entries) → Has (each_in ess) → (ts : List Term) → chosen_each ds next ess ≡ Some ts → AreAll TypeHas (chosen_names worth ds ess)
      each_have [] h ts e = tt
      each_have (es ∷ ess) h ts e =
          let s = two (chosen_entries ds next es) (chosen_each ds next ess) ts e in
          all_both TypeHas (map (chosen_name worth ds) (entry_list es)) (chosen_names worth ds ess) (all_mapped TypeHas (chosen_name worth ds) (entry_list es) (entries_have es (down.in_each es ess h).0 s.0 s.2)) (each_have ess (down.in_each es ess h).1 s.1 s.3)

    can_through : (k : ℕ) → k ≤ most_instances → (ess : List Entries) (ts : List Term) → chosen_in ds k ess ≡ Some ts → can_choose ds ess ≡ true
    can_through k h ess ts e = ap is_some (more k most_instances h ess ts e)

    names_in : (k : ℕ) → k ≤ most_instances → (ess : List Entries) → Has (all_of ess) → (ts : List Term) → chosen_in ds k ess ≡ Some ts → AreAll TypeHas (chosen_names worth ds ess)
    names_in zero h ess r ts e = each_have (λ us. None) (λ us vs i. absurd (none_is_some i)) (λ g us i. can_through zero h (alternatives g) us (sym (group_each ds (λ vs. None) g) ∙ i)) ess (down.each ess r) ts e
    names_in (suc k) h ess r ts e = each_have (λ us. chosen_in ds k us) (λ us vs i. can_through k (omega (arith, h)) us vs i) (λ g us i. can_through (suc k) h (alternatives g) us (sym (group_each ds (λ vs. chosen_in ds k vs) g) ∙ i)) ess (down.each ess r) ts e

    pub names_have : (ess : List Entries) → Has (all_of ess) → (o : Option (List Term)) → chosen_in ds most_instances ess ≡ o → is_some o ≡ true → AreAll TypeHas (chosen_names worth ds ess)
    names_have ess r (Some ts) e s = names_in most_instances (omega arith) ess r ts e
    names_have ess r None e s = absurd (false≢true s)

    -- the members of maps

    abbrev HasMember : Member → Type 0
    HasMember m = Has (a_key m.key) × Has (a_term m.value)

    abbrev All : Alternatives → Type 0
    All mss = AreAll (AreAll HasMember) mss

    beside : (ms : List Member) (nss : Alternatives) → AreAll HasMember ms → All nss → All (map (λ ns. ms ++ ns) nss)
    beside ms [] h k = tt
    beside ms (ns ∷ nss) h k = (all_both HasMember ms ns h k.0, beside ms nss h k.1)

    all_ways : (mss nss : Alternatives) → All mss → All nss → All (ways mss nss)
    all_ways [] nss h k = tt
    all_ways (ms ∷ mss) nss h k = all_both (AreAll HasMember) (map (λ ns. ms ++ ns) nss) (ways mss nss) (beside ms nss h.0 k) (all_ways mss nss h.1 k)

    all_members : (mss : Alternatives) → All mss → AreAll HasMember (members mss)
    all_members [] h = tt
    all_members (ms ∷ mss) h = all_both HasMember ms (members mss) h.0 (all_members mss h.1)

    all_from : (n : ℕ) (ms : List Member) → AreAll HasMember ms → AreAll HasMember (map (from n) ms)
    all_from n [] h = tt
    all_from n (m ∷ ms) h = ((h.0.0, h.0.1), all_from n ms h.1)

    all_needed : (before ms : List Member) → AreAll HasMember before → AreAll HasMember ms → All (each_needed before ms)
    all_needed before [] h k = tt
    all_needed before (m ∷ ms) h k = (all_both HasMember before (from 1 m ∷ map (from 0) ms) h ((k.0.0, k.0.1), all_from 0 ms k.1), all_needed (before ++ from 0 m ∷ []) ms (all_both HasMember before (from 0 m ∷ []) h ((k.0.0, k.0.1), tt)) k.1)

    only_some : (mss nss : Alternatives) → All mss → Some mss ≡ Some nss → All nss
    only_some mss nss h e = subst All same h
      where
        same : mss ≡ nss
        same = cc

    if_some : (b : Bool) (mss nss : Alternatives) → All mss → (if b then Some mss else None) ≡ Some nss → All nss
    if_some true mss nss h e = only_some mss nss h e
    if_some false mss nss h e = cc

    occurring_has : (least : ℕ) (most : Most) (mss nss : Alternatives) → All mss → occurring least most mss ≡ Some nss → All nss
    occurring_has zero (at_most zero) mss nss h e = cc
    occurring_has zero (at_most (suc zero)) mss nss h e = only_some (mss ++ [] ∷ []) nss (all_both (AreAll HasMember) mss ([] ∷ []) h (tt, tt)) e
    occurring_has zero (at_most (suc (suc n))) mss nss h e = cc
    occurring_has zero any_number_of mss nss h e = if_some (list_all may_repeat mss) (map (from 0) (members mss) ∷ []) nss (all_from 0 (members mss) (all_members mss h), tt) e
    occurring_has (suc zero) (at_most zero) mss nss h e = cc
    occurring_has (suc zero) (at_most (suc zero)) mss nss h e = only_some mss nss h e
    occurring_has (suc zero) (at_most (suc (suc n))) mss nss h e = cc
    occurring_has (suc zero) any_number_of mss nss h e = if_some (list_all is_needed mss) (each_needed [] (members mss)) nss (all_needed [] (members mss) tt (all_members mss h)) e
    occurring_has (suc (suc m)) most mss nss h e = cc

    module _ (next : List Entries → Option Alternatives) (has : (ess : List Entries) → Has (all_of ess) → (mss : Alternatives) → next ess ≡ Some mss → All mss) where
      so_often : (o : Option Text) (q : Option Alternatives) → ((mss : Alternatives) → q ≡ Some mss → All mss) → (nss : Alternatives) → occurring_so o q ≡ Some nss → All nss
      so_often o (Some mss) h nss e = occurring_has (least_of o) (most_of o) mss nss (h mss refl) e
      so_often o None h nss e = cc

      both_joined : (o q : Option Alternatives) → ((mss : Alternatives) → o ≡ Some mss → All mss) → ((mss : Alternatives) → q ≡ Some mss → All mss) → (nss : Alternatives) → M.alternatives_of_both o q ≡ Some nss → All nss
      both_joined (Some ms) (Some ns) h k nss e = only_some (ms ++ ns) nss (all_both (AreAll HasMember) ms ns (h ms refl) (k ns refl)) e
      both_joined (Some ms) None h k nss e = cc
      both_joined None q h k nss e = cc

      both_combined : (o q : Option Alternatives) → ((mss : Alternatives) → o ≡ Some mss → All mss) → ((mss : Alternatives) → q ≡ Some mss → All mss) → (nss : Alternatives) → combined o q ≡ Some nss → All nss
      both_combined (Some ms) (Some ns) h k nss e = only_some (ways ms ns) nss (all_ways ms ns (h ms refl) (k ns refl)) e
      both_combined (Some ms) None h k nss e = cc
      both_combined None q h k nss e = cc

      part_members : (t : Term) → Has (a_term t) → (p : Part) → part_of ds t ≡ p → (mss : Alternatives) → in_part ds next p ≡ Some mss → All mss
      part_members t h asks_type i mss e = cc
      part_members t h (names_group r) i mss e = has (group_choices ds r) (down.group r (down.named_group t r h i)) mss e
      part_members t h (opens r g) i mss e = has (alternatives g) (down.opened_group t r g h i) mss e

      mutual
        group_members : (g : Group) → Has (a_body g) → (mss : Alternatives) → in_group ds next g ≡ Some mss → All mss
        group_members (sole es) h mss e = entries_members es (down.in_sole es h) mss e
        group_members (orelse g es) h mss e = both_joined (in_group ds next g) (in_entries ds next es) (group_members g (down.in_orelse g es h).0) (entries_members es (down.in_orelse g es h).1) mss e

        entries_members : (es : Entries) → Has (one_of es) → (mss : Alternatives) → in_entries ds next es ≡ Some mss → All mss
        entries_members no_entries h mss e = only_some ([] ∷ []) mss (tt, tt) e
        entries_members (entries es x c) h mss e = both_combined (in_entries ds next es) (in_entry ds next x) (entries_members es (down.in_entries es x c h).0) (entry_members x (down.in_entries es x c h).1) mss e

        entry_members : (x : Entry) → Has (an_entry x) → (mss : Alternatives) → in_entry ds next x ≡ Some mss → All mss
        entry_members (typed o t) h mss e = so_often o (in_part ds next (part_of ds t)) (part_members t (down.in_typed o t h) (part_of ds t) refl) mss e
        entry_members (keyed o k t) h mss e = only_some ((record { least = least_of o; most = most_of o; key = k; value = t } ∷ []) ∷ []) mss ((down.in_keyed o k t h, tt), tt) e
        entry_members (grouped o g) h mss e = so_often o (in_group ds next g) (group_members g (down.in_grouped o g h).0) mss e

      each_members : (ess : List Entries) → Has (each_in ess) → (mss : Alternatives) → in_each ds next ess ≡ Some mss → All mss
      each_members [] h mss e = only_some [] mss tt e
      each_members (es ∷ ess) h mss e = both_joined (in_entries ds next es) (in_each ds next ess) (entries_members es (down.in_each es ess h).0) (each_members ess (down.in_each es ess h).1) mss e

    members_in : (k : ℕ) (ess : List Entries) → Has (all_of ess) → (mss : Alternatives) → alternatives_in ds k ess ≡ Some mss → All mss
    members_in zero ess r mss e = each_members (λ us. None) (λ us h ns i. absurd (none_is_some i)) ess (down.each ess r) mss e
    members_in (suc k) ess r mss e = each_members (λ us. alternatives_in ds k us) (λ us h ns i. members_in k us h ns i) ess (down.each ess r) mss e

    key_named : (k : Key) → Has (a_key k) → TypeHas (key_name k)
    key_named (of_type t c) h = down.in_type_key t c h
    key_named (bareword n) h = down.in_word_key n h
    key_named (of_value v) h = down.in_value_key v h

    entries_named : (ms : List Member) → AreAll HasMember ms → AreAll (HasEntry TypeHas) (map map_entry ms)
    entries_named [] h = tt
    entries_named (m ∷ ms) h = ((key_named m.key h.0.0, h.0.1), entries_named ms h.1)

    all_named : (mss : Alternatives) → All mss → AreAll (AreAll (HasEntry TypeHas)) (map (map map_entry) mss)
    all_named [] h = tt
    all_named (ms ∷ mss) h = (entries_named ms h.0, all_named mss h.1)

    map_has : (ess : List Entries) → Has (all_of ess) → (o : Option Alternatives) → alternatives_in ds most_instances ess ≡ o → HasTypeParts TypeHas GroupHas (map_node o)
    map_has ess r (Some mss) e = all_named mss (members_in most_instances ess r mss e)
    map_has ess r None e = tt

    -- each form

    choices_have : (t : Term) → Has (a_term t) → AreAll (λ u. Has (a_term u)) (choices t)
    choices_have (or t u) h = all_both (λ v. Has (a_term v)) (choices t) (u ∷ []) (choices_have t (down.in_or t u h).0) ((down.in_or t u h).1, tt)
    choices_have _ h = (h, tt)

    content_has : (r : Ref) → Has (a_ref r) → (o : Option Opened) → opened ds r ≡ o → HasTypeParts TypeHas GroupHas (content o)
    content_has r h (Some (opens_type t)) e = down.content r t h e
    content_has r h (Some (opens_group g)) e = tt
    content_has r h None e = tt

    choice_has : (ess : List Entries) → Has (all_of ess) → (o : Option (List Term)) → chosen_in ds most_instances ess ≡ o → HasTypeParts TypeHas GroupHas (choice o (chosen_names worth ds ess))
    choice_has ess r (Some ts) e = names_in most_instances (omega arith) ess r ts e
    choice_has ess r None e = tt

    between_has : (c : Bool) (a b : Option Value) → HasTypeParts TypeHas GroupHas (between c a b)
    between_has c (Some a) (Some b) = tt
    between_has c (Some a) None = tt
    between_has c None b = tt

    number_has : (t : Text) → HasNumber TypeHas (number_or_any t)
    number_has [] = tt
    number_has (b ∷ bs) = tt

    compares_has : (c : C.Comparison) (o : Option Value) (a : Term) → Has (a_term a) → HasTypeParts TypeHas GroupHas (such_as_compares c o a)
    compares_has c (Some v) a h = h
    compares_has c None a h = tt

    member_has : (m : C.Membership) (o : Option Sizes) (a : Term) → Has (a_term a) → HasTypeParts TypeHas GroupHas (such_as_member m o a)
    member_has m (Some rs) a h = h
    member_has m None a h = tt

    equal_has : (o : Option Meaning) → HasTypeParts TypeHas GroupHas (equal_to o)
    equal_has (Some m) = tt
    equal_has None = tt

    control_has : (o : Option C.Control) (a b : Term) → Has (a_term a) → Has (a_term b) → HasTypeParts TypeHas GroupHas (control_node worth ds o a b)
    control_has (Some C.left_alone) a b h k = h
    control_has (Some C.left_and_right) a b h k = (h, k)
    control_has (Some C.held_item) a b h k = (h, k)
    control_has (Some C.held_sequence) a b h k = (h, k)
    control_has (Some (C.compared c)) a b h k = compares_has c (comparand (C.is_ordering c) (literal_of worth ds b)) a h
    control_has (Some (C.member m)) a b h k = member_has m (members_of m worth ds b) a h
    control_has (Some (C.computed c)) a b h k = equal_has (computed_literal c (literal_of worth ds a) (literal_of worth ds b))
    control_has None a b h k = tt

    named_has : (r : Ref) → Has (a_ref r) → (b : Bool) → is_group ds (name_of r) ≡ b → HasTypeParts TypeHas GroupHas (if b then F.Choice [] else F.Ref (reference r))
    named_has r h true e = tt
    named_has r h false e = (h, e)

    term_has : (t : Term) → Has (a_term t) → HasTypeParts TypeHas GroupHas (term_node worth ds t)
    term_has (literal v) h = tt
    term_has (named r) h = named_has r (down.name r h) (is_group ds (name_of r)) refl
    term_has (parens t) h = down.in_parens t h
    term_has (map_of g) h = map_has (alternatives g) (down.in_map g h) (map_alternatives ds g) refl
    term_has (array_of g) h = down.in_array g h
    term_has (unwrapped r) h = content_has r (down.unwrapping r h) (opened ds r) refl
    term_has (choice_of g) h = choice_has (alternatives g) (down.in_choice g h) (chosen ds g) refl
    term_has (choice_of_name r) h = choice_has (group_choices ds r) (down.group r (down.choice_by_name r h)) (chosen_by_name ds r) refl
    term_has (tagged n t) h = (number_has _, down.in_tag n t h)
    term_has (tagged_by u t) h = down.in_tag_by u t h
    term_has (simple_by u) h = down.in_simple u h
    term_has (hash n) h = tt
    term_has (range a c b) h = between_has c (whole_of worth ds a) (whole_of worth ds b)
    term_has (control a n b) h = control_has (C.control_of n) a b (down.in_control a n b h).0 (down.in_control a n b h).1
    term_has (or t u) h = all_mapped TypeHas type (choices (or t u)) (choices_have (or t u) h)

    each_type : (ts : List Term) → ((t : Term) → Contains ts t → Has (a_term t)) → AreAll (λ t. Has (a_term t)) ts
    each_type [] h = tt
    each_type (t ∷ ts) h = (h t (to_contains (t ∷ ts) t (inl refl)), each_type ts (λ u c. h u (to_contains (t ∷ ts) u (inr (from_contains ts u c)))))

    pub types_have : (n : TypeName) → TypeHas n → HasTypeParts TypeHas GroupHas (type_node worth ds n)
    types_have (type t) h = term_has t h
    types_have (reference r) h = all_mapped TypeHas type (type_choices ds r) (each_type (type_choices ds r) (λ t c. down.types r t h.0 c))
    types_have (chosen_of ess) h = names_have ess h.0 (chosen_in ds most_instances ess) refl h.1
    types_have (word n) h = tt

    part_group : (t : Term) → Has (a_term t) → (p : Part) → part_of ds t ≡ p → HasGroupParts TypeHas GroupHas (part_form worth ds t p)
    part_group t h asks_type i = h
    part_group t h (names_group r) i = down.group r (down.named_group t r h i)
    part_group t h (opens r g) i = down.opened_group t r g h i

    round_has : (x : Entry) → Has (an_entry x) → HasGroupParts TypeHas GroupHas (round_form worth ds x)
    round_has (typed o t) h = part_group t (down.in_typed o t h) (part_of ds t) refl
    round_has (keyed o k t) h = (down.in_keyed o k t h).1
    round_has (grouped o g) h = (down.in_grouped o g h).1

    rounds_have : (x : Entry) (least : ℕ) (most : Most) → Has (an_entry x) → HasGroupParts TypeHas GroupHas (rounds_form worth ds x least most)
    rounds_have x least any_number_of h = h
    rounds_have x least (at_most n) h = by (ltb n least)
      where
        by : (b : Bool) → HasGroupParts TypeHas GroupHas (if b then F.Alternatives [] else F.Repeat least (at_most n) (round x))
        by true = tt
        by false = h

    entry_parts : (x : Entry) (b : Bool) → Has (an_entry x) → HasGroupParts TypeHas GroupHas (if b then round_form worth ds x else rounds_form worth ds x (least_of (occurrence_of x)) (most_of (occurrence_of x)))
    entry_parts x true h = round_has x h
    entry_parts x false h = rounds_have x (least_of (occurrence_of x)) (most_of (occurrence_of x)) h

    alternatives_have : (ess : List Entries) → Has (each_in ess) → AreAll GroupHas (map each_of ess)
    alternatives_have [] h = tt
    alternatives_have (es ∷ ess) h = ((down.in_each es ess h).0, alternatives_have ess (down.in_each es ess h).1)

    list_has : (es : Entries) → Has (one_of es) → AreAll (λ x. Has (an_entry x)) (entry_list es)
    list_has no_entries h = tt
    list_has (entries es x c) h = all_both (λ y. Has (an_entry y)) (entry_list es) (x ∷ []) (list_has es (down.in_entries es x c h).0) ((down.in_entries es x c h).1, tt)

    pub groups_have : (n : GroupName) → GroupHas n → HasGroupParts TypeHas GroupHas (group_form worth ds n)
    groups_have (first_of ess) h = alternatives_have ess (down.each ess h)
    groups_have (each_of es) h = all_mapped GroupHas entry (entry_list es) (list_has es h)
    groups_have (entry x) h = entry_parts x (occurs_once (occurrence_of x)) h
    groups_have (round x) h = round_has x h

-- What is of instances alone goes down.
module _ (ds : List Definition) (root : Text) where
  abbrev pub OfInstances : Piece → Type 0
  OfInstances (a_ref r) = Reaches ds root r
  OfInstances (a_term t) = AreReached ds root (points t)
  OfInstances (all_of ess) = AreReached ds root (all_points ess)
  OfInstances (each_in ess) = AreReached ds root (all_points ess)
  OfInstances (a_body g) = AreReached ds root (group_points g)
  OfInstances (one_of es) = AreReached ds root (entries_points es)
  OfInstances (an_entry x) = AreReached ds root (entry_points x)
  OfInstances (a_key k) = AreReached ds root (key_points k)
  OfInstances (a_word n) = Unit {0}

  pub instances_down : AreInstancesOn ds root → GoesDown ds OfInstances
  instances_down on = record {
    name = λ r h. one ds root (at_name r) h;
    unwrapping = λ r h. one ds root (at_unwrapping r) h;
    choice_by_name = λ r h. one ds root (at_choice r) h;
    named_group = λ t r h i. on.named t r h i;
    opened_group = λ t r g h i. of_group ds root g (on.opened t r g h i);
    types = λ r t h c. on.types r t h c;
    group = λ r h. of_all ds root (group_choices ds r) (λ es c. on.group r es h c);
    content = λ r t h e. on.content r t h e;
    in_parens = λ t h. h;
    in_map = λ g h. of_group ds root g h;
    in_array = λ g h. of_group ds root g h;
    in_choice = λ g h. of_group ds root g h;
    in_tag = λ n t h. h;
    in_tag_by = λ u t h. (left ds root (points u) (points t) h, right ds root (points u) (points t) h);
    in_simple = λ u h. h;
    in_control = λ a n b h. (left ds root (points a) (points b) h, right ds root (points a) (points b) h);
    in_or = λ t u h. (left ds root (points t) (points u) h, right ds root (points t) (points u) h);
    each = λ ess h. h;
    in_each = λ es ess h. (left ds root (entries_points es) (all_points ess) h, right ds root (entries_points es) (all_points ess) h);
    in_sole = λ es h. h;
    in_orelse = λ g es h. (left ds root (group_points g) (entries_points es) h, right ds root (group_points g) (entries_points es) h);
    in_entries = λ es x c h. (left ds root (entries_points es) (entry_points x) h, right ds root (entries_points es) (entry_points x) h);
    in_typed = λ o t h. h;
    in_keyed = λ o k t h. (left ds root (key_points k) (points t) h, right ds root (key_points k) (points t) h);
    in_grouped = λ o g h. (h, of_group ds root g h);
    in_type_key = λ t c h. h;
    in_word_key = λ n h. tt;
    in_value_key = λ v h. nothing ds root;
  }

abbrev pub IsType : Values → List Definition → Text → TypeName → Type 0
IsType worth ds root n = TypeHas worth ds (OfInstances ds root) n

abbrev pub IsGroup : Values → List Definition → Text → GroupName → Type 0
IsGroup worth ds root n = GroupHas worth ds (OfInstances ds root) n
