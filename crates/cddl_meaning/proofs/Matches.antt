-- What the definition says, the moves reply.
use Rattle.std.proofs.Common.{◌≡◌, ℕ, suc, ◌+◌, ◌-◌, ◌<◌, ◌≤◌, ◌^◌, max, length, List, [], ◌∷◌, Some, Bool, false, nat_eq, refl, subst, sym, ap, ◌∙◌, arith}
use Rattle.lists.proofs.Lemmas.{test_equal as same_number, test_same as equal_number, unequal_number}
use Rattle.cbor_data.specs.Value.{Value, place_count, Pairs, no_pairs, pair, pairs_place_count}
use Rattle.cddl_meaning.specs.Forms.{Test, bits_among, passes, bits_asked, members_in, pairs_in, tag_in, simple_in, TagNumber, MapEntry, Node, Most, Group, Language, pair_cost, entry_cost}
use Rattle.cddl_meaning.specs.Size.{size, pairs_size, list_size}
use Rattle.cddl_meaning.specs.Judges.{Answer, Yes, No, Reply, Takes, Fails, ArraySays, whole, over, failed, one_less, Says, passed, missed, ref, choice, no_array, array, no_tag, tagged, other_tag, no_simple, simple_such, other_simple, no_map, map, left_no, left_yes, none_such, such_passed, such_missed, holder_no, no_string, holds_nothing, held_yes, held_no, Fate, alternative_says, either, Maps, no_alternative, alternative, Sorts, all_sorted, sort, Belongs, nowhere, other_key, here, cut_here, handed_on, Numbers, whichever, this_number, other_number, by_head, Chooses, no_more, this_one, not_this, Does, missing, matches, differs, group_ref, sequence, alternatives, repeat, DoesEach, all_done, one_fails, and_then, DoesFirst, all_fail, one_takes, or_else, Repeats, full, too_few, enough, empty_round, round, passed_over, asked, BelongsAsked}
use Rattle.cddl_meaning.specs.Moves.{Question, OfType, OfGroup, Tally, tallied, Sorting, Pending, InRef, InRepeat, InValue, Move, Answered, Asks, Tries, plus, yes_reply, reply_of, test_reply, such_reply, answer_reply, either_reply, fresh, tally_says, next_member, next_part, next_alternative, read_move, tested_move, next_way, next_pair, sorted, next_entry, repetition, after_round, tag_move, type_move, group_move, first_move, array_reply, next_move, Replies, replies, LeadsTo, at_once, after, tries, weighs, reads, reads_nothing, InKey, passes_over, enters}
use Rattle.cddl_meaning.proofs.Once.{ends_once}
use Rattle.cddl_meaning.proofs.Covers.{covers, leaves, any_places, array_places, map_places, tag_places, simple_places}
use Rattle.cddl_meaning.proofs.Sizes.{size_some, all_some, array_size, tag_size, map_size, string_size, few_places, pairs_few_places, held_size}
use Rattle.cddl_meaning.proofs.Tallies.{all_tallied, tally_is}

-- so many places from here on have numbers
abbrev pub Fits : ℕ → ℕ → Type 0
Fits p n = p + n < 2 ^ 64

-- those of the places of these items do
abbrev pub AllFit : ℕ → List Value → Type 0
AllFit q xs = q + list_size xs ≤ 2 ^ 64

pub placed : (p : ℕ) (x : Value) → Fits p (size x) → Fits p (place_count x)
placed p x h = omega (arith, h, few_places x)

pub plus_is : (p n : ℕ) → Fits p n → plus p n ≡ p + n
plus_is p n h = grind (arith)

same_answer : (p : ℕ) (x : Value) (a b : Answer) → reply_of p x a ≡ reply_of p x b → a ≡ b
same_answer p x Yes Yes e = refl
same_answer p x Yes (No far) e = cc
same_answer p x (No far) Yes e = cc
same_answer p x (No m) (No n) e = ap No (cc e)

pub array_covers : {N G : Type 0} (l : Language N G) {f : Group N G} {p w b far : ℕ} (x : Value) (xs : List Value) → Fits p (size x) → members_in x ≡ Some xs → Does l f p (suc p) xs (Takes [] b far) w → b ≡ plus p (place_count x)
array_covers l {p = p} x xs h e d = (omega (arith, covers l d, array_places x xs e)) ∙ sym (plus_is p (place_count x) (placed p x h))

array_says : {N G : Type 0} (l : Language N G) {f : Group N G} {p w : ℕ} (x : Value) {xs : List Value} {r : Reply} {a : Answer} → Fits p (size x) → members_in x ≡ Some xs → Does l f p (suc p) xs r w → ArraySays r a → array_reply r ≡ reply_of p x a
array_says l x {xs = xs} h e d whole = ap (λ b. Takes [] b 0) (array_covers l x xs h e d)
array_says l x h e d over = refl
array_says l x h e d failed = refl

pub tag_reply : (p n : ℕ) (x y : Value) (a : Answer) → Fits p (size x) → tag_in x ≡ Some (n, y) → reply_of (suc p) y a ≡ reply_of p x a
tag_reply p n x y Yes h e = ap (λ b. Takes [] b 0) (plus_is (suc p) (place_count y) (omega (arith, h, few_places x, tag_places x y n e)) ∙ (omega (arith, tag_places x y n e)) ∙ sym (plus_is p (place_count x) (placed p x h)))
tag_reply p n x y (No far) h e = refl

pub next_place : (p n : ℕ) → 1 ≤ n → Fits p n → plus p 1 ≡ suc p
next_place p n k h = plus_is p 1 (omega (arith, h, k)) ∙ omega arith

pub map_reply : (p : ℕ) (x : Value) {ps : Pairs} (a : Answer) → Fits p (size x) → pairs_in x ≡ Some ps → answer_reply (suc p + pairs_place_count ps) a ≡ reply_of p x a
map_reply p x {ps = ps} Yes h e = ap (λ b. Takes [] b 0) ((omega (arith, map_places x ps e)) ∙ sym (plus_is p (place_count x) (placed p x h)))
map_reply p x (No far) h e = refl

pub either_is : (b : ℕ) (a c : Answer) → either_reply (answer_reply b a) (answer_reply b c) ≡ answer_reply b (either a c)
either_is b Yes c = refl
either_is b (No p) Yes = refl
either_is b (No p) (No q) = refl

-- the place of a map's first key
pub below : (p n : ℕ) → Fits (suc p) n → plus p 1 ≡ suc p
below p n h = plus_is p 1 (omega (arith, h)) ∙ omega arith

pub simple_reply : (p n : ℕ) (x : Value) → simple_in x ≡ Some n → Takes [] (plus p 1) 0 ≡ yes_reply p x
simple_reply p n x e = ap (λ n. Takes [] (plus p n) 0) (sym (simple_places x n e))

module _ {N G : Type 0} (l : Language N G) where
  -- the move ends with this reply, where the question itself weighs one
  record LeadsBy (m : Move N G) (r : Reply) (w : ℕ) : Type 0 where
    weight : ℕ
    one_more : suc weight ≡ w
    ends : LeadsTo l m r weight

  ask_by : {q : Question N G} {r : Reply} {w : ℕ} → LeadsBy (first_move l q) r w → Replies l q r w
  ask_by {q = q} {r = r} e = subst (λ n. Replies l q r n) e.one_more (replies e.ends)

  after_that : {q : Question N G} {o : Pending N G} {s r : Reply} {w : ℕ} → Replies l q s w → next_move o s ≡ Answered r → LeadsTo l (Asks q o) r w
  after_that {q = q} {o = o} {s = s} {r = r} {w = w} d e = subst (λ n. LeadsTo l (Asks q o) r n) (omega arith) (after d (subst (λ m. LeadsTo l m r 0) (sym e) at_once))

  at_end : {r s : Reply} → r ≡ s → LeadsBy (Answered r) s 1
  at_end {r = r} e = record { weight = 0; one_more = refl; ends = subst (λ x. LeadsTo l (Answered r) x 0) e at_once }

  test_ends : (t : Test) (p next : ℕ) (x : Value) → LeadsTo l (tested_move t p next x) (such_reply p next (passes t x)) (bits_asked t x)
  test_ends (bits_among rs) p next x = weighs
  test_ends t p next x = at_once

  tested_ends : (t : Test) (p next : ℕ) (x : Value) {c : Bool} → passes t x ≡ c → LeadsTo l (tested_move t p next x) (such_reply p next c) (bits_asked t x)
  tested_ends t p next x e = subst (λ c. LeadsTo l (tested_move t p next x) (such_reply p next c) (bits_asked t x)) e (test_ends t p next x)

  less : {m : Move N G} {r : Reply} {w : ℕ} → LeadsTo l m r w → LeadsTo l m r (0 + w)
  less {m = m} {r = r} {w = w} d = subst (λ n. LeadsTo l m r n) (omega arith) d

  round_leads : {least : ℕ} {most : Most} {g : G} {p q b far later v w : ℕ} {xs left : List Value} {r : Reply} → nat_eq (length left) (length xs) ≡ false → Replies l (OfGroup g p q xs) (Takes left b later) v → LeadsTo l (repetition (least - 1) (one_less most) g p b left (max far later)) r w → LeadsTo l (Asks (OfGroup g p q xs) (InRepeat least most g p q xs far)) r (v + w)
  round_leads {least = least} {most = most} {g = g} {p = p} {q = q} {b = b} {far = far} {later = later} {w = w} {xs = xs} {left = left} {r = r} n d e =
      after d (subst (λ c. LeadsTo l (after_round c least most g p q xs (max far later) left b) r w) (sym n) e)

  -- no more fates than places
  pub as_many : {es : List (MapEntry N)} {q w : ℕ} {ps : Pairs} {fs : List Fate} → Sorts l es q ps fs w → length fs ≤ pairs_place_count ps
  as_many all_sorted = omega arith
  as_many (sort {k = k} d e) = omega (arith, any_places k, as_many e)

  value_ends : {e : MapEntry N} {es : List (MapEntry N)} {v w : ℕ} {t r : Reply} (s : Sorting N) → s.value_place ≡ s.key_place + place_count s.key → Replies l (OfType e.value_type (s.key_place + place_count s.key) s.held) t v → LeadsTo l (next_move (InValue e es s) t) r w → LeadsTo l (Asks (OfType e.value_type s.value_place s.held) (InValue e es s)) r (v + w)
  value_ends {e = e} {es = es} {v = v} {w = w} {r = r} s k d g =
      subst (λ z. LeadsTo l (Asks (OfType e.value_type z s.held) (InValue e es s)) r (v + w)) (sym k) (after d g)

  mutual
    says_ends : {f : Node N G} {p w : ℕ} {x : Value} {a : Answer} → Fits p (size x) → Says l f p x a w → LeadsBy (type_move f p x) (reply_of p x a) w
    says_ends h (passed {p = p} {x = x} e) = at_end (ap (test_reply p x) e)
    says_ends h (missed {p = p} {x = x} e) = at_end (ap (test_reply p x) e)
    says_ends h (ref d) = record { weight = _; one_more = refl; ends = after_that (ask_by (says_ends h d)) refl }
    says_ends h (choice d) = record { weight = _; one_more = refl; ends = chooses_ends h d }
    says_ends h (no_array e) = record { weight = 0; one_more = refl; ends = rw e at_once }
    says_ends h (array {p = p} {x = x} {xs = xs} e d s) = record { weight = _; one_more = refl; ends = rw e (rw (next_place p (size x) (size_some x) h) (after_that (ask_by (does_ends (omega (arith, h, array_size x xs e)) d)) (ap Answered (array_says l x h e d s)))) }
    says_ends h (no_tag e) = record { weight = 0; one_more = refl; ends = rw e at_once }
    says_ends h (tagged {p = p} {n = n} {x = x} {y = y} {a = a} e k d) = record { weight = _; one_more = refl; ends = rw e (number_ends (omega (arith, h, size_some x)) k (rw (next_place p (size x) (size_some x) h) (after_that (ask_by (says_ends (omega (arith, h, tag_size x y n e)) d)) (ap Answered (tag_reply p n x y a h e))))) }
    says_ends h (other_tag {m = m} {x = x} {y = y} e n) = record { weight = _; one_more = refl; ends = rw e (number_fails m y (omega (arith, h, size_some x)) n) }
    says_ends h (no_simple e) = record { weight = 0; one_more = refl; ends = rw e at_once }
    says_ends h (simple_such {p = p} {n = n} {x = x} e d) = record { weight = _; one_more = refl; ends = rw e (after_that (ask_by (says_ends (omega (arith, h, size_some x)) d)) (ap Answered (simple_reply p n x e))) }
    says_ends h (other_simple {x = x} e d) = record { weight = _; one_more = refl; ends = rw e (after_that (ask_by (says_ends (omega (arith, h, size_some x)) d)) refl) }
    says_ends h (no_map e) = record { weight = 0; one_more = refl; ends = rw e at_once }
    says_ends h (map {ess = ess} {p = p} {w = w} {x = x} {ps = ps} {a = a} e d) =
        record { weight = _; one_more = refl; ends = rw e (subst (λ r. LeadsTo l (next_way ess p ps (Fails p)) r w) (map_reply p x a h e) (maps_ends (omega (arith, h, map_size x ps e)) d)) }
    says_ends h (left_no d) = record { weight = _; one_more = refl; ends = after_that (ask_by (says_ends h d)) refl }
    says_ends h (left_yes d e) = record { weight = _; one_more = refl; ends = after (ask_by (says_ends h d)) (after_that (ask_by (says_ends h e)) refl) }
    says_ends h (none_such d) = record { weight = _; one_more = refl; ends = after_that (ask_by (says_ends h d)) refl }
    says_ends h (such_passed {t = t} {p = p} {x = x} d i) = record { weight = _; one_more = refl; ends = after (ask_by (says_ends h d)) (tested_ends t p (plus p (place_count x)) x i) }
    says_ends h (such_missed {t = t} {p = p} {x = x} d i) = record { weight = _; one_more = refl; ends = after (ask_by (says_ends h d)) (tested_ends t p (plus p (place_count x)) x i) }
    says_ends h (holder_no d) = record { weight = _; one_more = refl; ends = after_that (ask_by (says_ends h d)) refl }
    says_ends h (no_string {n = n} {c = c} {p = p} {x = x} d i) = record { weight = _; one_more = refl; ends = after_that (ask_by (says_ends h d)) (ap (read_move c n p (plus p (place_count x))) i) }
    says_ends h (holds_nothing {w = w} d i k) = record { weight = w + 0; one_more = omega arith; ends = after (ask_by (says_ends h d)) (rw i (reads_nothing k)) }
    says_ends h (held_yes {x = x} {b = b} d i k e) = record { weight = _; one_more = refl; ends = after (ask_by (says_ends h d)) (rw i (reads k (after_that (ask_by (says_ends (omega (arith, h, held_size k, string_size x b i)) e)) refl))) }
    says_ends h (held_no {x = x} {b = b} d i k e) = record { weight = _; one_more = refl; ends = after (ask_by (says_ends h d)) (rw i (reads k (after_that (ask_by (says_ends (omega (arith, h, held_size k, string_size x b i)) e)) refl))) }

    maps_ends : {ess : List (List (MapEntry N))} {p w : ℕ} {ps : Pairs} {sofar a : Answer} → Fits (suc p) (pairs_size ps) → Maps l ess p ps sofar a w → LeadsTo l (next_way ess p ps (answer_reply (suc p + pairs_place_count ps) sofar)) (answer_reply (suc p + pairs_place_count ps) a) w
    maps_ends h no_alternative = at_once
    maps_ends h (alternative {es = es} {ess = ess} {p = p} {v = v} {w = w} {ps = ps} {sofar = sofar} {a = a} {fs = fs} d e) =
        let b = suc p + pairs_place_count ps in
        let f : LeadsTo l (next_pair es p (plus p 1) ps (fresh es)) (answer_reply b (alternative_says es p fs)) v = rw (below p (pairs_size ps) h) (subst (λ c. LeadsTo l (next_pair es p (suc p) ps (fresh es)) (answer_reply b c) v) (tally_is es p fs (omega (arith, h, as_many d, pairs_few_places ps))) (sorts_ends p (fresh es) h d)) in
        let g : LeadsTo l (next_way ess p ps (either_reply (answer_reply b sofar) (answer_reply b (alternative_says es p fs)))) (answer_reply b a) w = rw (either_is b sofar (alternative_says es p fs)) (maps_ends h e) in
        after (replies f) g

    sorts_ends : (p : ℕ) (t : Tally) {es : List (MapEntry N)} {q w : ℕ} {ps : Pairs} {fs : List Fate} → Fits q (pairs_size ps) → Sorts l es q ps fs w → LeadsTo l (next_pair es p q ps t) (answer_reply (q + pairs_place_count ps) (tally_says es p (all_tallied t fs))) w
    sorts_ends p t h (all_sorted {es = es} {q = q}) = subst (λ b. LeadsTo l (next_pair es p q no_pairs t) (answer_reply b (tally_says es p t)) 0) (omega arith) at_once
    sorts_ends p t h (sort {es = es} {q = q} {v = v} {w = w} {k = k} {x = x} {ps = ps} {f = f} {fs = fs} d e) =
        let a = tally_says es p (all_tallied t (f ∷ fs)) in
        let i : plus q (place_count k) ≡ q + place_count k = plus_is q (place_count k) (omega (arith, h, few_places k)) in
        let j : plus (q + place_count k) (place_count x) ≡ q + place_count k + place_count x = plus_is (q + place_count k) (place_count x) (omega (arith, h, few_places k, few_places x)) in
        let s : Sorting N = record { entries = es; base = p; key_place = q; key = k; value_place = plus q (place_count k); held = x; next_place = plus (plus q (place_count k)) (place_count x); rest = ps; tally = t } in
        let z : s.next_place ≡ q + place_count k + place_count x = rw i j in
        let y : LeadsTo l (sorted s f) (answer_reply (q + place_count k + place_count x + pairs_place_count ps) a) w = rw z (sorts_ends p (tallied t f) (omega (arith, h, few_places k, few_places x)) e) in
        let g : LeadsTo l (sorted s f) (answer_reply (q + pairs_place_count (pair k x ps)) a) w = subst (λ b. LeadsTo l (sorted s f) (answer_reply b a) w) (omega arith) y in
        subst (λ w. LeadsTo l (Tries s) (answer_reply (q + pairs_place_count (pair k x ps)) a) w) (omega arith) (tries (belongs_ends s (omega (arith, h)) i d g))

    belongs_ends : {es : List (MapEntry N)} {v w : ℕ} {f : Fate} {r : Reply} (s : Sorting N) → Fits s.key_place (size s.key + size s.held) → s.value_place ≡ s.key_place + place_count s.key → Belongs l es s.key_place s.key s.held f v → LeadsTo l (sorted s f) r w → LeadsTo l (next_entry es s) r (v + w)
    belongs_ends s h k nowhere g = less g
    belongs_ends s h k (passed_over i b) g = passes_over i (belongs_ends s h k b g)
    belongs_ends {w = w} {r = r} s h k (asked {e = e} {es = es} i b) g = subst (λ n. LeadsTo l (next_entry (e ∷ es) s) r n) (omega arith) (enters i (asked_ends s h k b g))

    asked_ends : {e : MapEntry N} {es : List (MapEntry N)} {v w : ℕ} {f : Fate} {r : Reply} (s : Sorting N) → Fits s.key_place (size s.key + size s.held) → s.value_place ≡ s.key_place + place_count s.key → BelongsAsked l e es s.key_place s.key s.held f v → LeadsTo l (sorted s f) r w → LeadsTo l (Asks (OfType e.key_type s.key_place s.key) (InKey e es s)) r (v + w)
    asked_ends {w = w} {r = r} s h k (other_key {e = e} {es = es} d b) g =
        subst (λ n. LeadsTo l (Asks (OfType e.key_type s.key_place s.key) (InKey e es s)) r n) (omega arith) (after (ask_by (says_ends (omega (arith, h)) d)) (belongs_ends s h k b g))
    asked_ends {w = w} {r = r} s h k (here {e = e} {es = es} d b) g =
        subst (λ n. LeadsTo l (Asks (OfType e.key_type s.key_place s.key) (InKey e es s)) r n) (omega arith) (after (ask_by (says_ends (omega (arith, h)) d)) (value_ends {e = e} {w = w} s k (ask_by (says_ends (omega (arith, h, few_places s.key)) b)) g))
    asked_ends {w = w} {r = r} s h k (cut_here {e = e} {es = es} c d b) g =
        subst (λ n. LeadsTo l (Asks (OfType e.key_type s.key_place s.key) (InKey e es s)) r n) (omega arith) (after (ask_by (says_ends (omega (arith, h)) d)) (value_ends {e = e} {w = w} s k (ask_by (says_ends (omega (arith, h, few_places s.key)) b)) (rw c g)))
    asked_ends {w = w} {r = r} s h k (handed_on {e = e} {es = es} {w = z} c d b m) g =
        subst (λ n. LeadsTo l (Asks (OfType e.key_type s.key_place s.key) (InKey e es s)) r n) (omega arith) (after (ask_by (says_ends (omega (arith, h)) d)) (value_ends {e = e} {w = z + w} s k (ask_by (says_ends (omega (arith, h, few_places s.key)) b)) (rw c (belongs_ends s h k m g))))

    -- the number is meant, and the content goes on
    number_ends : {t : TagNumber N} {m : N} {p n v w : ℕ} {y : Value} {r : Reply} → Fits p 1 → Numbers l t p n Yes v → LeadsTo l (Asks (OfType m (plus p 1) y) InRef) r w → LeadsTo l (tag_move t m p (Some (n, y))) r (v + w)
    number_ends h whichever d = less d
    number_ends {n = n} h this_number d = rw (equal_number n) (less d)
    number_ends h (by_head k) d = after (ask_by (says_ends h k)) d

    number_fails : {t : TagNumber N} (m : N) {p n far w : ℕ} (y : Value) → Fits p 1 → Numbers l t p n (No far) w → LeadsTo l (tag_move t m p (Some (n, y))) (Fails p) w
    number_fails _ _ h (other_number {m = m} {n = n} k) = rw (unequal_number m n k) at_once
    number_fails _ _ h (by_head k) = after_that (ask_by (says_ends h k)) refl

    chooses_ends : {ms : List N} {p far w : ℕ} {x : Value} {a : Answer} → Fits p (size x) → Chooses l ms p x far a w → LeadsTo l (next_member ms p x far) (reply_of p x a) w
    chooses_ends h no_more = at_once
    chooses_ends h (this_one d) = after_that (ask_by (says_ends h d)) refl
    chooses_ends h (not_this d e) = after (ask_by (says_ends h d)) (chooses_ends h e)

    does_ends : {f : Group N G} {p q w : ℕ} {xs : List Value} {r : Reply} → AllFit q xs → Does l f p q xs r w → LeadsBy (group_move f p q xs) r w
    does_ends h missing = record { weight = 0; one_more = refl; ends = at_once }
    does_ends h (matches {p = p} {q = q} {x = x} {xs = xs} d) = record { weight = _; one_more = refl; ends = after_that (ask_by (says_ends (omega (arith, h, all_some xs)) d)) (ap (λ b. Answered (Takes xs b p)) (plus_is q (place_count x) (omega (arith, h, all_some xs, few_places x)))) }
    does_ends h (differs {xs = xs} d) = record { weight = _; one_more = refl; ends = after_that (ask_by (says_ends (omega (arith, h, all_some xs)) d)) refl }
    does_ends h (group_ref d) = record { weight = _; one_more = refl; ends = after_that (ask_by (does_ends h d)) refl }
    does_ends h (sequence d) = record { weight = _; one_more = refl; ends = each_ends h d }
    does_ends h (alternatives d) = record { weight = _; one_more = refl; ends = first_ends h d }
    does_ends h (repeat d) = record { weight = _; one_more = refl; ends = repeats_ends h d }

    each_ends : {gs : List G} {p q far w : ℕ} {xs : List Value} {r : Reply} → AllFit q xs → DoesEach l gs p q xs far r w → LeadsTo l (next_part gs p q xs far) r w
    each_ends h all_done = at_once
    each_ends h (one_fails d) = after_that (ask_by (does_ends h d)) refl
    each_ends h (and_then d e) = after (ask_by (does_ends h d)) (each_ends (omega (arith, h, leaves l d)) e)

    first_ends : {gs : List G} {p q far w : ℕ} {xs : List Value} {r : Reply} → AllFit q xs → DoesFirst l gs p q xs far r w → LeadsTo l (next_alternative gs p q xs far) r w
    first_ends h all_fail = at_once
    first_ends h (one_takes d) = after_that (ask_by (does_ends h d)) refl
    first_ends h (or_else d e) = after (ask_by (does_ends h d)) (first_ends h e)

    repeats_ends : {least : ℕ} {most : Most} {g : G} {p q far w : ℕ} {xs : List Value} {r : Reply} → AllFit q xs → Repeats l least most g p q xs far r w → LeadsTo l (repetition least most g p q xs far) r w
    repeats_ends h (full e) = rw e at_once
    repeats_ends h (too_few e d) = rw e (after_that (ask_by (does_ends h d)) refl)
    repeats_ends h (enough e d) = rw e (after_that (ask_by (does_ends h d)) refl)
    repeats_ends h (empty_round {xs = xs} {left = left} e d n) = rw e (after_that (ask_by (does_ends h d)) (rw (same_number (length left) (length xs) n) refl))
    repeats_ends h (round {xs = xs} {left = left} e d n f) = rw e (round_leads (unequal_number (length left) (length xs) n) (ask_by (does_ends h d)) (repeats_ends (omega (arith, h, leaves l d)) f))

  pub one_saying : {f : Node N G} {p v w : ℕ} {x : Value} {a b : Answer} → Fits p (size x) → Says l f p x a v → Says l f p x b w → (b ≡ a) × (w ≡ v)
  one_saying {p = p} {x = x} {a = a} {b = b} k d e =
      let h = says_ends k d in
      let i = says_ends k e in
      let s = ends_once l i.ends h.ends in
      (same_answer p x b a s.result, sym i.one_more ∙ (ap suc s.weight ∙ h.one_more))

  pub said : {n : N} {p w : ℕ} {x : Value} {a : Answer} → Fits p (size x) → Says l (l.type_at n) p x a w → Replies l (OfType n p x) (reply_of p x a) w
  said h d = ask_by (says_ends h d)

  pub did : {g : G} {p q w : ℕ} {xs : List Value} {r : Reply} → AllFit q xs → Does l (l.group_at g) p q xs r w → Replies l (OfGroup g p q xs) r w
  did h d = ask_by (does_ends h d)
