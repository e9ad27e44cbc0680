-- Languages that are alike say the same of each item, at the same place, with the same weight.
use Rattle.std.proofs.Common.{[], ◌∷◌, ◌≡◌, ℕ, zero, suc, ◌+◌, length, List, ◌∷◌, Option, Some, None, Bool, true, false, nat_le, ◌&&◌, refl, sym, subst, ap, ◌∙◌}
use Rattle.cbor_data.specs.Value.{Value, Pairs, pair}
use Rattle.cddl_meaning.specs.Forms.{TagNumber, MapEntry, Node, Such, Most, Group, Language, Test, equals, Plain, key_by, key_in, most_forms, by_forms, Counting, every_entry, by_keys, is_other, is_passed_over, pair_cost, entry_cost}
use Rattle.cddl_meaning.specs.Judges.{Answer, Yes, No, Reply, Says, passed, missed, ref, choice, no_array, array, no_tag, tagged, other_tag, no_simple, simple_such, other_simple, no_map, map, left_no, left_yes, none_such, such_passed, such_missed, holder_no, no_string, holds_nothing, held_yes, held_no, Fate, BelongsTo, count_of, is_up_to_most, are_enough, first_stray, first_failing, by_counts, shown_by, alternative_says, either, Maps, no_alternative, alternative, Sorts, all_sorted, sort, Belongs, nowhere, other_key, here, cut_here, handed_on, Numbers, whichever, this_number, other_number, by_head, Chooses, no_more, this_one, not_this, Does, missing, matches, differs, group_ref, sequence, alternatives, repeat, DoesEach, all_done, one_fails, and_then, DoesFirst, all_fail, one_takes, or_else, Repeats, full, too_few, enough, empty_round, round, passed_over, asked, BelongsAsked}
use Rattle.cddl_meaning.specs.Alike as A
use Rattle.cddl_meaning.specs.Alike.{flipped, AlikeAll, none, both, AlikeNumbers, any_numbers, same_number, heads, AlikeEntries, no_entries, entry, AlikeMaps, no_alternatives, AlikeCounting, AlikeTypes, plain, refs, choices, arrays, tags, simples, maps, boths, suches, holdings, AlikeGroups, entries, group_refs, sequences, alternates, repeats, AreAlike}

module _ {N M : Type 0} (R : N → M → Type 0) where
  as_many : {ds : List (MapEntry N)} {es : List (MapEntry M)} → AlikeEntries R ds es → length ds ≡ length es
  as_many no_entries = refl
  as_many (entry a b c r s t) = ap suc (as_many t)

  enough_too : {ds : List (MapEntry N)} {es : List (MapEntry M)} (fs : List Fate) → AlikeEntries R ds es → are_enough ds fs ≡ are_enough es fs
  enough_too fs no_entries = refl
  enough_too fs (entry {e = e} {es = es} a b c r s t) = rw (a, b, as_many t) (ap (λ z. (nat_le e.least (count_of (length es) fs) && is_up_to_most (count_of (length es) fs) e.most) && z) (enough_too fs t))

  alternative_too : {ds : List (MapEntry N)} {es : List (MapEntry M)} (p : ℕ) (fs : List Fate) → AlikeEntries R ds es → alternative_says ds p fs ≡ alternative_says es p fs
  alternative_too p fs r = ap (λ b. shown_by (first_stray fs) (shown_by (first_failing fs) (by_counts p b))) (enough_too fs r)

  pair_cost_too : (c : Counting N) (d : Counting M) {i j : ℕ} → AlikeCounting R c d → i ≡ j → pair_cost c i ≡ pair_cost d j
  pair_cost_too every_entry every_entry h e = ap suc e
  pair_cost_too every_entry (by_keys g) h e = absurd h
  pair_cost_too (by_keys f) every_entry h e = absurd h
  pair_cost_too (by_keys f) (by_keys g) h e = refl

  entry_cost_too : (c : Counting N) (d : Counting M) → AlikeCounting R c d → entry_cost c ≡ entry_cost d
  entry_cost_too every_entry every_entry h = refl
  entry_cost_too every_entry (by_keys g) h = absurd h
  entry_cost_too (by_keys f) every_entry h = absurd h
  entry_cost_too (by_keys f) (by_keys g) h = refl

  passed_over_too : (c : Counting N) (d : Counting M) → AlikeCounting R c d → (n : N) (m : M) → R n m → (x : Value) → is_passed_over c n x ≡ is_passed_over d m x
  passed_over_too every_entry every_entry h n m r x = refl
  passed_over_too every_entry (by_keys g) h n m r x = absurd h
  passed_over_too (by_keys f) every_entry h n m r x = absurd h
  passed_over_too (by_keys f) (by_keys g) h n m r x = ap (λ v. is_other v x) (h n m r)

module _ {N G M H : Type 0} (l : Language N G) (k : Language M H) (R : N → M → Type 0) (S : G → H → Type 0) (i : AreAlike l k R S) where
  mutual
    pub says_too : {f : Node N G} {e : Node M H} {p w : ℕ} {x : Value} {a : Answer} → Says l f p x a w → AlikeTypes R S f e → Says k e p x a w
    says_too (passed h) plain = passed h
    says_too (missed h) plain = missed h
    says_too (ref {m = n} d) (refs {m = m} r) = ref (says_too d (i.types n m r))
    says_too (choice d) (choices r) = choice (chooses_too d r)
    says_too (no_array h) (arrays s) = no_array h
    says_too (array {g = g} e d s) (arrays {h = h} r) = array e (does_too d (i.groups g h r)) s
    says_too (no_tag h) (tags t r) = no_tag h
    says_too (tagged {m = n} e b d) (tags {m = m} t r) = tagged e (numbers_too b t) (says_too d (i.types n m r))
    says_too (other_tag e b) (tags t r) = other_tag e (numbers_too b t)
    says_too (no_simple h) (simples r) = no_simple h
    says_too (simple_such {m = n} e d) (simples {m = m} r) = simple_such e (says_too d (i.types n m r))
    says_too (other_simple {m = n} e d) (simples {m = m} r) = other_simple e (says_too d (i.types n m r))
    says_too (no_map h) (maps r) = no_map h
    says_too (map e d) (maps r) = map e (maps_too d r)
    says_too (left_no {m = n} d) (boths {m = m} r s) = left_no (says_too d (i.types n m r))
    says_too (left_yes {m = n} {n = o} d e) (boths {m = m} {q = q} r s) = left_yes (says_too d (i.types n m r)) (says_too e (i.types o q s))
    says_too (none_such {m = n} d) (suches {m = m} r e b) = none_such (says_too d (i.types n m r))
    says_too (such_passed {m = n} {p = p} {w = w} {x = x} d h) (suches {m = m} {u = u} r e b) = subst (λ c. Says k (Such m u) p x Yes (suc (w + c))) (sym (b x)) (such_passed (says_too d (i.types n m r)) (sym (e x) ∙ h))
    says_too (such_missed {m = n} {p = p} {w = w} {x = x} d h) (suches {m = m} {u = u} r e b) = subst (λ c. Says k (Such m u) p x (No p) (suc (w + c))) (sym (b x)) (such_missed (says_too d (i.types n m r)) (sym (e x) ∙ h))
    says_too (holder_no {m = n} d) (holdings {m = m} r s) = holder_no (says_too d (i.types n m r))
    says_too (no_string {m = n} d h) (holdings {m = m} r s) = no_string (says_too d (i.types n m r)) h
    says_too (holds_nothing {m = n} d h j) (holdings {m = m} r s) = holds_nothing (says_too d (i.types n m r)) h j
    says_too (held_yes {m = n} {n = o} d h j e) (holdings {m = m} {q = q} r s) = held_yes (says_too d (i.types n m r)) h j (says_too e (i.types o q s))
    says_too (held_no {m = n} {n = o} d h j e) (holdings {m = m} {q = q} r s) = held_no (says_too d (i.types n m r)) h j (says_too e (i.types o q s))

    maps_too : {dss : List (List (MapEntry N))} {ess : List (List (MapEntry M))} {p w : ℕ} {ps : Pairs} {b a : Answer} → Maps l dss p ps b a w → AlikeMaps R dss ess → Maps k ess p ps b a w
    maps_too no_alternative no_alternatives = no_alternative
    maps_too {p = p} {ps = ps} {b = b} {a = a} (alternative {w = w} {fs = fs} d e) (A.alternative {ess = ess} r rs) =
        alternative (sorts_too d r) (subst (λ c. Maps k ess p ps (either b c) a w) (alternative_too R p fs r) (maps_too e rs))

    sorts_too : {ds : List (MapEntry N)} {es : List (MapEntry M)} {q w : ℕ} {ps : Pairs} {fs : List Fate} → Sorts l ds q ps fs w → AlikeEntries R ds es → Sorts k es q ps fs w
    sorts_too all_sorted r = all_sorted
    sorts_too {es = es} (sort {q = q} {v = v} {w = w} {k = c} {x = x} {ps = ps} {f = f} {fs = fs} d e) r =
        subst (λ n. Sorts k es q (pair c x ps) (f ∷ fs) (n + v + w)) (sym (pair_cost_too R l.counting k.counting i.counting (as_many R r))) (sort (belongs_too d r) (sorts_too e r))

    belongs_too : {ds : List (MapEntry N)} {es : List (MapEntry M)} {q w : ℕ} {c x : Value} {f : Fate} → Belongs l ds q c x f w → AlikeEntries R ds es → Belongs k es q c x f w
    belongs_too nowhere no_entries = nowhere
    belongs_too (passed_over {k = c} h b) (entry {d = m} {e = n} y z o r s rs) = passed_over (sym (passed_over_too R l.counting k.counting i.counting m.key_type n.key_type r c) ∙ h) (belongs_too b rs)
    belongs_too {es = n ∷ es} {q = q} {c = c} {x = x} {f = f} (asked {w = w} h b) (entry {d = m} y z o r s rs) =
        subst (λ j. Belongs k (n ∷ es) q c x f (j + w)) (sym (entry_cost_too R l.counting k.counting i.counting)) (asked (sym (passed_over_too R l.counting k.counting i.counting m.key_type n.key_type r c) ∙ h) (asked_too b o r s rs))
    belongs_too {es = []} (asked h b) r = elim r [ ]

    asked_too : {d : MapEntry N} {e : MapEntry M} {ds : List (MapEntry N)} {es : List (MapEntry M)} {q w : ℕ} {c x : Value} {f : Fate} → BelongsAsked l d ds q c x f w → d.cuts ≡ e.cuts → R d.key_type e.key_type → R d.value_type e.value_type → AlikeEntries R ds es → BelongsAsked k e es q c x f w
    asked_too {d = m} {e = n} (other_key d b) o r s rs = other_key (says_too d (i.types m.key_type n.key_type r)) (belongs_too b rs)
    asked_too {d = m} {e = n} {es = es} {q = q} {c = c} {x = x} (here {v = v} {w = w} d b) o r s rs =
        subst (λ i. BelongsAsked k n es q c x (BelongsTo i Yes) (v + w)) (sym (as_many R rs)) (here (says_too d (i.types m.key_type n.key_type r)) (says_too b (i.types m.value_type n.value_type s)))
    asked_too {d = m} {e = n} {es = es} {q = q} {c = c} {x = x} (cut_here {far = far} {v = v} {w = w} h d b) o r s rs =
        subst (λ i. BelongsAsked k n es q c x (BelongsTo i (No far)) (v + w)) (sym (as_many R rs)) (cut_here (sym o ∙ h) (says_too d (i.types m.key_type n.key_type r)) (says_too b (i.types m.value_type n.value_type s)))
    asked_too {d = m} {e = n} (handed_on h d b t) o r s rs = handed_on (sym o ∙ h) (says_too d (i.types m.key_type n.key_type r)) (says_too b (i.types m.value_type n.value_type s)) (belongs_too t rs)

    pub numbers_too : {s : TagNumber N} {t : TagNumber M} {p n w : ℕ} {a : Answer} → Numbers l s p n a w → AlikeNumbers R s t → Numbers k t p n a w
    numbers_too whichever any_numbers = whichever
    numbers_too this_number same_number = this_number
    numbers_too (other_number h) same_number = other_number h
    numbers_too (by_head {m = n} d) (heads {m = m} r) = by_head (says_too d (i.types n m r))

    pub chooses_too : {ns : List N} {ms : List M} {p far w : ℕ} {x : Value} {a : Answer} → Chooses l ns p x far a w → AlikeAll R ns ms → Chooses k ms p x far a w
    chooses_too no_more none = no_more
    chooses_too (this_one d) (both {n = n} {m = m} r rs) = this_one (says_too d (i.types n m r))
    chooses_too (not_this d e) (both {n = n} {m = m} r rs) = not_this (says_too d (i.types n m r)) (chooses_too e rs)

    pub does_too : {f : Group N G} {e : Group M H} {p q w : ℕ} {xs : List Value} {r : Reply} → Does l f p q xs r w → AlikeGroups R S f e → Does k e p q xs r w
    does_too missing (entries r) = missing
    does_too (matches d) (entries {n = n} {m = m} r) = matches (says_too d (i.types n m r))
    does_too (differs d) (entries {n = n} {m = m} r) = differs (says_too d (i.types n m r))
    does_too (group_ref {g = g} d) (group_refs {h = h} r) = group_ref (does_too d (i.groups g h r))
    does_too (sequence d) (sequences r) = sequence (each_too d r)
    does_too (alternatives d) (alternates r) = alternatives (first_too d r)
    does_too (repeat d) (repeats r) = repeat (repeats_too d r)

    pub each_too : {gs : List G} {hs : List H} {p q far w : ℕ} {xs : List Value} {r : Reply} → DoesEach l gs p q xs far r w → AlikeAll S gs hs → DoesEach k hs p q xs far r w
    each_too all_done none = all_done
    each_too (one_fails d) (both {n = g} {m = h} r rs) = one_fails (does_too d (i.groups g h r))
    each_too (and_then d e) (both {n = g} {m = h} r rs) = and_then (does_too d (i.groups g h r)) (each_too e rs)

    pub first_too : {gs : List G} {hs : List H} {p q far w : ℕ} {xs : List Value} {r : Reply} → DoesFirst l gs p q xs far r w → AlikeAll S gs hs → DoesFirst k hs p q xs far r w
    first_too all_fail none = all_fail
    first_too (one_takes d) (both {n = g} {m = h} r rs) = one_takes (does_too d (i.groups g h r))
    first_too (or_else d e) (both {n = g} {m = h} r rs) = or_else (does_too d (i.groups g h r)) (first_too e rs)

    pub repeats_too : {least : ℕ} {most : Most} {g : G} {h : H} {p q far w : ℕ} {xs : List Value} {r : Reply} → Repeats l least most g p q xs far r w → S g h → Repeats k least most h p q xs far r w
    repeats_too (full b) s = full b
    repeats_too {g = g} {h = h} (too_few b d) s = too_few b (does_too d (i.groups g h s))
    repeats_too {g = g} {h = h} (enough b d) s = enough b (does_too d (i.groups g h s))
    repeats_too {g = g} {h = h} (empty_round b d e) s = empty_round b (does_too d (i.groups g h s)) e
    repeats_too {g = g} {h = h} (round b d n e) s = round b (does_too d (i.groups g h s)) n (repeats_too e s)

flip_all : {N M : Type 0} (R : N → M → Type 0) {ns : List N} {ms : List M} → AlikeAll R ns ms → AlikeAll (flipped R) ms ns
flip_all R none = none
flip_all R (both r rs) = both r (flip_all R rs)

flip_numbers : {N M : Type 0} (R : N → M → Type 0) {s : TagNumber N} {t : TagNumber M} → AlikeNumbers R s t → AlikeNumbers (flipped R) t s
flip_numbers R any_numbers = any_numbers
flip_numbers R same_number = same_number
flip_numbers R (heads r) = heads r

flip_entries : {N M : Type 0} (R : N → M → Type 0) {ds : List (MapEntry N)} {es : List (MapEntry M)} → AlikeEntries R ds es → AlikeEntries (flipped R) es ds
flip_entries R no_entries = no_entries
flip_entries R (entry a b c r s t) = entry (sym a) (sym b) (sym c) r s (flip_entries R t)

flip_maps : {N M : Type 0} (R : N → M → Type 0) {dss : List (List (MapEntry N))} {ess : List (List (MapEntry M))} → AlikeMaps R dss ess → AlikeMaps (flipped R) ess dss
flip_maps R no_alternatives = no_alternatives
flip_maps R (A.alternative r rs) = A.alternative (flip_entries R r) (flip_maps R rs)

flip_types : {N G M H : Type 0} (R : N → M → Type 0) (S : G → H → Type 0) {f : Node N G} {e : Node M H} → AlikeTypes R S f e → AlikeTypes (flipped R) (flipped S) e f
flip_types R S plain = plain
flip_types R S (refs r) = refs r
flip_types R S (choices r) = choices (flip_all R r)
flip_types R S (arrays r) = arrays r
flip_types R S (tags t r) = tags (flip_numbers R t) r
flip_types R S (simples r) = simples r
flip_types R S (maps r) = maps (flip_maps R r)
flip_types R S (boths r s) = boths r s
flip_types R S (suches r e b) = suches r (λ x. sym (e x)) (λ x. sym (b x))
flip_types R S (holdings r s) = holdings r s

flip_groups : {N G M H : Type 0} (R : N → M → Type 0) (S : G → H → Type 0) {f : Group N G} {e : Group M H} → AlikeGroups R S f e → AlikeGroups (flipped R) (flipped S) e f
flip_groups R S (entries r) = entries r
flip_groups R S (group_refs r) = group_refs r
flip_groups R S (sequences r) = sequences (flip_all S r)
flip_groups R S (alternates r) = alternates (flip_all S r)
flip_groups R S (repeats r) = repeats r

flip_counting : {N M : Type 0} (R : N → M → Type 0) (c : Counting N) (d : Counting M) → AlikeCounting R c d → AlikeCounting (flipped R) d c
flip_counting R every_entry every_entry h = h
flip_counting R every_entry (by_keys g) h = absurd h
flip_counting R (by_keys f) every_entry h = absurd h
flip_counting R (by_keys f) (by_keys g) h = λ m n r. sym (h n m r)

pub flip : {N G M H : Type 0} (l : Language N G) (k : Language M H) (R : N → M → Type 0) (S : G → H → Type 0) → AreAlike l k R S → AreAlike k l (flipped R) (flipped S)
flip l k R S i = record { types = λ m n r. flip_types R S (i.types n m r); groups = λ h g s. flip_groups R S (i.groups g h s); counting = flip_counting R l.counting k.counting i.counting }

-- and back: what the one says of an item, the other does
module _ {N G M H : Type 0} (l : Language N G) (k : Language M H) (R : N → M → Type 0) (S : G → H → Type 0) (i : AreAlike l k R S) where
  pub said_before : {n : N} {m : M} {p w : ℕ} {x : Value} {a : Answer} → R n m → Says k (k.type_at m) p x a w → Says l (l.type_at n) p x a w
  said_before {n = n} {m = m} r d = let j = flip l k R S i in says_too k l (flipped R) (flipped S) j d (j.types m n r)

  pub did_before : {g : G} {h : H} {p q w : ℕ} {xs : List Value} {r : Reply} → S g h → Does k (k.group_at h) p q xs r w → Does l (l.group_at g) p q xs r w
  did_before {g = g} {h = h} s d = let j = flip l k R S i in does_too k l (flipped R) (flipped S) j d (j.groups h g s)

-- Where forms are alike, they show the same values.
module _ {N G M H : Type 0} (f : N → Node N G) (g : M → Node M H) (R : N → M → Type 0) (S : G → H → Type 0) (types : (n : N) (m : M) → R n m → AlikeTypes R S (f n) (g m)) where
  same_by_form : (u : N → Option Value) (v : M → Option Value) → ((n : N) (m : M) → R n m → u n ≡ v m) → {s : Node N G} {t : Node M H} → AlikeTypes R S s t → key_by u s ≡ key_by v t
  same_by_form u v h plain = same_test u v _
    where
      same_test : (u : N → Option Value) (v : M → Option Value) (t : Test) → key_by {G = G} u (Plain t) ≡ key_by {G = H} v (Plain t)
      same_test u v (equals x) = refl
      same_test u v _ = refl
  same_by_form u v h (refs {n = n} {m = m} r) = h n m r
  same_by_form u v h (choices none) = refl
  same_by_form u v h (choices (both {n = n} {m = m} r none)) = h n m r
  same_by_form u v h (choices (both r (both s rs))) = refl
  same_by_form u v h (arrays s) = refl
  same_by_form u v h (tags t r) = refl
  same_by_form u v h (simples r) = refl
  same_by_form u v h (maps r) = refl
  same_by_form u v h (boths r s) = refl
  same_by_form u v h (suches r e b) = refl
  same_by_form u v h (holdings r s) = refl

  same_in : (k : ℕ) (n : N) (m : M) → R n m → key_in f k n ≡ key_in g k m
  unfolding key_in
  same_in zero n m r = same_by_form (λ n. None) (λ m. None) (λ n m r. refl) (types n m r)
  same_in (suc k) n m r = same_by_form (λ n. key_in f k n) (λ m. key_in g k m) (λ n m r. same_in k n m r) (types n m r)

  pub same_forms : AlikeCounting R (by_forms f) (by_forms g)
  same_forms = λ n m r. same_in most_forms n m r
