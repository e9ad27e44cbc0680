-- A language that asks fewer entries says the same of each item, at the same place, and counts no more.
use Rattle.std.proofs.Common.{[], ◌∷◌, ◌≡◌, ◌≢◌, ℕ, zero, suc, ◌+◌, ◌-◌, ◌≤◌, max, length, List, Option, Some, None, Bool, true, false, not, refl, sym, subst, ap, ◌∙◌, arith}
use Rattle.cbor_data.specs.Value.{Value, Pairs, place_count}
use Rattle.cbor_data.specs.Same.{same_value}
use Rattle.cddl_meaning.specs.Forms.{bits_asked, equals, Plain, Ref, Choice, TagNumber, MapEntry, Node, Most, Group, Language, Counting, every_entry, by_keys, is_other, is_passed_over, pair_cost, entry_cost, key_by, key_in, most_forms, by_forms}
use Rattle.cddl_meaning.specs.Judges.{Answer, Yes, No, Reply, Says, passed, missed, ref, choice, no_array, array, no_tag, tagged, other_tag, no_simple, simple_such, other_simple, no_map, map, left_no, left_yes, none_such, such_passed, such_missed, holder_no, no_string, holds_nothing, held_yes, held_no, Fate, BelongsTo, alternative_says, either, Maps, no_alternative, alternative, Sorts, all_sorted, sort, Belongs, nowhere, passed_over, asked, BelongsAsked, other_key, here, cut_here, handed_on, Numbers, whichever, this_number, other_number, by_head, Chooses, no_more, this_one, not_this, Does, missing, matches, differs, group_ref, sequence, alternatives, repeat, DoesEach, all_done, one_fails, and_then, DoesFirst, all_fail, one_takes, or_else, Repeats, full, too_few, enough, empty_round, round}
use Rattle.cddl_meaning.specs.Literals.{HasNoParts, IsPlainNode, HasPlainKeys}
use Rattle.cddl_meaning.specs.Costs.{weighed, IsLiteral, written, named, only_one, AreLiterals, HasLiterals}

clash : true ≡ false → ⊥
clash e = cc

is_false : (b : Bool) → not b ≡ true → b ≡ false
is_false true h = cc
is_false false h = refl

none_is : {A : Type 0} {x : A} → None ≡ Some x → ⊥
none_is e = cc

some_is : {A : Type 0} {x y : A} → Some x ≡ Some y → x ≡ y
some_is e = cc

-- so many entries, each asked
abbrev entries_cost : {N : Type 0} → Counting N → ℕ → ℕ
entries_cost every_entry n = 0
entries_cost (by_keys f) n = n

one_more_entry : {N : Type 0} (c : Counting N) (n : ℕ) → entry_cost c + entries_cost c n ≡ entries_cost c (suc n)
one_more_entry every_entry n = omega arith
one_more_entry (by_keys f) n = omega arith

whole_cost : {N : Type 0} (c : Counting N) (n : ℕ) → pair_cost c n + entries_cost c n ≡ suc n
whole_cost every_entry n = omega arith
whole_cost (by_keys f) n = omega arith

module _ {N G : Type 0} (l : Language N G) where
  -- A literal says no to any other item, and never yes.
  pub says_no : {n : N} {v : Value} (q : ℕ) (k : Value) → IsLiteral l n v → same_value k v ≡ false → (far : ℕ) × (w : ℕ) × Says l (l.type_at n) q k (No far) w
  says_no q k (written e) h = (q, 1, rw e (missed h))
  says_no q k (named e i) h = let t = says_no q k i h in (t.0, suc t.1, rw e (ref t.2))
  says_no q k (only_one e i) h = let t = says_no q k i h in (max q t.0, suc (t.1 + 0), rw e (choice (not_this t.2 no_more)))

  plain_yes : {v : Value} {q w : ℕ} {k : Value} {a : Answer} → Says l (Plain (equals v)) q k a w → a ≡ Yes → same_value k v ≡ true
  plain_yes (passed h) i = h
  plain_yes (missed h) i = cc

  by_ref : {m : N} {q w : ℕ} {k : Value} {a : Answer} → Says l (Ref m) q k a w → (v : ℕ) × Says l (l.type_at m) q k a v
  by_ref (ref {w = w} d) = (w, d)

  none_yes : {q far w : ℕ} {k : Value} {a : Answer} → Chooses l [] q k far a w → a ≡ Yes → ⊥
  none_yes no_more i = cc

  the_one : {m : N} {q far w : ℕ} {k : Value} {a : Answer} → Chooses l (m ∷ []) q k far a w → a ≡ Yes → (v : ℕ) × Says l (l.type_at m) q k Yes v
  the_one (this_one {w = w} d) i = (w, d)
  the_one (not_this d e) i = absurd (none_yes e i)

  by_choice : {m : N} {q w : ℕ} {k : Value} {a : Answer} → Says l (Choice (m ∷ [])) q k a w → a ≡ Yes → (v : ℕ) × Says l (l.type_at m) q k Yes v
  by_choice (choice d) i = the_one d i

  pub never_yes : {n : N} {v : Value} {q w : ℕ} {k : Value} → IsLiteral l n v → same_value k v ≡ false → Says l (l.type_at n) q k Yes w → ⊥
  never_yes {q = q} {w = w} {k = k} (written e) h d = clash (sym (plain_yes (subst (λ f. Says l f q k Yes w) e d) refl) ∙ h)
  never_yes {q = q} {w = w} {k = k} (named e i) h d = never_yes i h (by_ref (subst (λ f. Says l f q k Yes w) e d)).1
  never_yes {q = q} {w = w} {k = k} (only_one e i) h d = never_yes i h (by_choice (subst (λ f. Says l f q k Yes w) e d) refl).1

  other_literal : {n : N} (k : Value) (o : Option Value) → ((v : Value) → o ≡ Some v → IsLiteral l n v) → is_other o k ≡ true → (v : Value) × IsLiteral l n v × (same_value k v ≡ false)
  other_literal k None i h = cc
  other_literal k (Some v) i h = (v, i v refl, is_false (same_value k v) h)

  -- an entry that is passed over has a literal as its key type, and the pair has another key
  pub literal_of : (c : Counting N) → AreLiterals l c → (n : N) (k : Value) → is_passed_over c n k ≡ true → (v : Value) × IsLiteral l n v × (same_value k v ≡ false)
  literal_of every_entry i n k h = cc
  literal_of (by_keys f) i n k h = other_literal k (f n) (i n) h

module _ {N G : Type 0} (l : Language N G) (known : HasLiterals l) where
  -- by the kinds of judgement, what is said in so many judgements more than these at most
  record SaysIn (f : Node N G) (p : ℕ) (x : Value) (a : Answer) (w : ℕ) : Type 0 where
    cost : ℕ
    less : cost ≤ w
    says : Says l f p x a cost

  record MapsIn (ess : List (List (MapEntry N))) (p : ℕ) (ps : Pairs) (b a : Answer) (w : ℕ) : Type 0 where
    cost : ℕ
    less : cost ≤ w
    maps : Maps l ess p ps b a cost

  record SortsIn (es : List (MapEntry N)) (q : ℕ) (ps : Pairs) (fs : List Fate) (w : ℕ) : Type 0 where
    cost : ℕ
    less : cost ≤ w
    sorts : Sorts l es q ps fs cost

  record BelongsIn (es : List (MapEntry N)) (q : ℕ) (k x : Value) (f : Fate) (w : ℕ) : Type 0 where
    cost : ℕ
    less : cost ≤ w + entries_cost l.counting (length es)
    belongs : Belongs l es q k x f cost

  record AskedIn (e : MapEntry N) (es : List (MapEntry N)) (q : ℕ) (k x : Value) (f : Fate) (w : ℕ) : Type 0 where
    cost : ℕ
    less : cost ≤ w + entries_cost l.counting (length es)
    belongs : BelongsAsked l e es q k x f cost

  record NumbersIn (t : TagNumber N) (p n : ℕ) (a : Answer) (w : ℕ) : Type 0 where
    cost : ℕ
    less : cost ≤ w
    numbers : Numbers l t p n a cost

  record ChoosesIn (ms : List N) (p : ℕ) (x : Value) (far : ℕ) (a : Answer) (w : ℕ) : Type 0 where
    cost : ℕ
    less : cost ≤ w
    chooses : Chooses l ms p x far a cost

  record DoesIn (f : Group N G) (p q : ℕ) (xs : List Value) (r : Reply) (w : ℕ) : Type 0 where
    cost : ℕ
    less : cost ≤ w
    does : Does l f p q xs r cost

  record EachIn (gs : List G) (p q : ℕ) (xs : List Value) (far : ℕ) (r : Reply) (w : ℕ) : Type 0 where
    cost : ℕ
    less : cost ≤ w
    does : DoesEach l gs p q xs far r cost

  record FirstIn (gs : List G) (p q : ℕ) (xs : List Value) (far : ℕ) (r : Reply) (w : ℕ) : Type 0 where
    cost : ℕ
    less : cost ≤ w
    does : DoesFirst l gs p q xs far r cost

  record RepeatsIn (least : ℕ) (most : Most) (g : G) (p q : ℕ) (xs : List Value) (far : ℕ) (r : Reply) (w : ℕ) : Type 0 where
    cost : ℕ
    less : cost ≤ w
    does : Repeats l least most g p q xs far r cost

  -- an entry that is passed over would have handed the pair on
  behind : {e : MapEntry N} {es : List (MapEntry N)} {q c : ℕ} {k x : Value} {f : Fate} → is_passed_over l.counting e.key_type k ≡ true → BelongsAsked l e es q k x f c → (v : ℕ) × Belongs l es q k x f v × (v ≤ c)
  behind i (other_key {w = w} d b) = (w, b, omega arith)
  behind {e = e} {k = k} i (here d b) = let t = literal_of l l.counting known e.key_type k i in absurd (never_yes l t.1 t.2 d)
  behind {e = e} {k = k} i (cut_here c d b) = let t = literal_of l l.counting known e.key_type k i in absurd (never_yes l t.1 t.2 d)
  behind {e = e} {k = k} i (handed_on c d b m) = let t = literal_of l l.counting known e.key_type k i in absurd (never_yes l t.1 t.2 d)

  first_in : {e : MapEntry N} {es : List (MapEntry N)} {q w : ℕ} {k x : Value} {f : Fate} (c : Bool) → is_passed_over l.counting e.key_type k ≡ c → AskedIn e es q k x f w → BelongsIn (e ∷ es) q k x f (0 + w)
  first_in {es = es} true i t =
      let b = behind i t.belongs in
      record { cost = b.0; less = omega (arith, b.2, t.less, one_more_entry l.counting (length es)); belongs = passed_over i b.1 }
  first_in {es = es} false i t = record { cost = entry_cost l.counting + t.cost; less = omega (arith, t.less, one_more_entry l.counting (length es)); belongs = asked i t.belongs }

  mutual
    says_in : {f : Node N G} {p w : ℕ} {x : Value} {a : Answer} → Says (weighed l) f p x a w → SaysIn f p x a w
    says_in (passed h) = record { cost = 1; less = omega arith; says = passed h }
    says_in (missed h) = record { cost = 1; less = omega arith; says = missed h }
    says_in (ref d) = let t = says_in d in record { cost = suc t.cost; less = omega (arith, t.less); says = ref t.says }
    says_in (choice d) = let t = chooses_in d in record { cost = suc t.cost; less = omega (arith, t.less); says = choice t.chooses }
    says_in (no_array h) = record { cost = 1; less = omega arith; says = no_array h }
    says_in (array e d s) = let t = does_in d in record { cost = suc t.cost; less = omega (arith, t.less); says = array e t.does s }
    says_in (no_tag h) = record { cost = 1; less = omega arith; says = no_tag h }
    says_in (tagged e b d) = let u = numbers_in b in let t = says_in d in record { cost = suc (u.cost + t.cost); less = omega (arith, u.less, t.less); says = tagged e u.numbers t.says }
    says_in (other_tag e b) = let u = numbers_in b in record { cost = suc u.cost; less = omega (arith, u.less); says = other_tag e u.numbers }
    says_in (no_simple h) = record { cost = 1; less = omega arith; says = no_simple h }
    says_in (simple_such e d) = let t = says_in d in record { cost = suc t.cost; less = omega (arith, t.less); says = simple_such e t.says }
    says_in (other_simple e d) = let t = says_in d in record { cost = suc t.cost; less = omega (arith, t.less); says = other_simple e t.says }
    says_in (no_map h) = record { cost = 1; less = omega arith; says = no_map h }
    says_in (map e d) = let t = maps_in d in record { cost = suc t.cost; less = omega (arith, t.less); says = map e t.maps }
    says_in (left_no d) = let t = says_in d in record { cost = suc t.cost; less = omega (arith, t.less); says = left_no t.says }
    says_in (left_yes d e) = let t = says_in d in let u = says_in e in record { cost = suc (t.cost + u.cost); less = omega (arith, t.less, u.less); says = left_yes t.says u.says }
    says_in (none_such d) = let t = says_in d in record { cost = suc t.cost; less = omega (arith, t.less); says = none_such t.says }
    says_in (such_passed {t = u} {x = x} d h) = let t = says_in d in record { cost = suc (t.cost + bits_asked u x); less = omega (arith, t.less); says = such_passed t.says h }
    says_in (such_missed {t = u} {x = x} d h) = let t = says_in d in record { cost = suc (t.cost + bits_asked u x); less = omega (arith, t.less); says = such_missed t.says h }
    says_in (holder_no d) = let t = says_in d in record { cost = suc t.cost; less = omega (arith, t.less); says = holder_no t.says }
    says_in (no_string d h) = let t = says_in d in record { cost = suc t.cost; less = omega (arith, t.less); says = no_string t.says h }
    says_in (holds_nothing d h j) = let t = says_in d in record { cost = suc t.cost; less = omega (arith, t.less); says = holds_nothing t.says h j }
    says_in (held_yes d h j e) = let t = says_in d in let u = says_in e in record { cost = suc (t.cost + u.cost); less = omega (arith, t.less, u.less); says = held_yes t.says h j u.says }
    says_in (held_no d h j e) = let t = says_in d in let u = says_in e in record { cost = suc (t.cost + u.cost); less = omega (arith, t.less, u.less); says = held_no t.says h j u.says }

    maps_in : {ess : List (List (MapEntry N))} {p w : ℕ} {ps : Pairs} {b a : Answer} → Maps (weighed l) ess p ps b a w → MapsIn ess p ps b a w
    maps_in no_alternative = record { cost = 0; less = omega arith; maps = no_alternative }
    maps_in (alternative d e) = let t = sorts_in d in let u = maps_in e in record { cost = suc t.cost + u.cost; less = omega (arith, t.less, u.less); maps = alternative t.sorts u.maps }

    sorts_in : {es : List (MapEntry N)} {q w : ℕ} {ps : Pairs} {fs : List Fate} → Sorts (weighed l) es q ps fs w → SortsIn es q ps fs w
    sorts_in all_sorted = record { cost = 0; less = omega arith; sorts = all_sorted }
    sorts_in {es = es} (sort d e) = let t = belongs_in d in let u = sorts_in e in record { cost = pair_cost l.counting (length es) + t.cost + u.cost; less = omega (arith, t.less, u.less, whole_cost l.counting (length es)); sorts = sort t.belongs u.sorts }

    belongs_in : {es : List (MapEntry N)} {q w : ℕ} {k x : Value} {f : Fate} → Belongs (weighed l) es q k x f w → BelongsIn es q k x f w
    belongs_in nowhere = record { cost = 0; less = omega arith; belongs = nowhere }
    belongs_in (passed_over h b) = absurd (clash (sym h))
    belongs_in (asked {e = e} {k = k} h b) = first_in (is_passed_over l.counting e.key_type k) refl (asked_in b)

    asked_in : {e : MapEntry N} {es : List (MapEntry N)} {q w : ℕ} {k x : Value} {f : Fate} → BelongsAsked (weighed l) e es q k x f w → AskedIn e es q k x f w
    asked_in (other_key d b) = let t = says_in d in let u = belongs_in b in record { cost = t.cost + u.cost; less = omega (arith, t.less, u.less); belongs = other_key t.says u.belongs }
    asked_in (here d b) = let t = says_in d in let u = says_in b in record { cost = t.cost + u.cost; less = omega (arith, t.less, u.less); belongs = here t.says u.says }
    asked_in (cut_here c d b) = let t = says_in d in let u = says_in b in record { cost = t.cost + u.cost; less = omega (arith, t.less, u.less); belongs = cut_here c t.says u.says }
    asked_in (handed_on c d b m) = let t = says_in d in let u = says_in b in let v = belongs_in m in record { cost = t.cost + (u.cost + v.cost); less = omega (arith, t.less, u.less, v.less); belongs = handed_on c t.says u.says v.belongs }

    numbers_in : {t : TagNumber N} {p n w : ℕ} {a : Answer} → Numbers (weighed l) t p n a w → NumbersIn t p n a w
    numbers_in whichever = record { cost = 0; less = omega arith; numbers = whichever }
    numbers_in this_number = record { cost = 0; less = omega arith; numbers = this_number }
    numbers_in (other_number h) = record { cost = 0; less = omega arith; numbers = other_number h }
    numbers_in (by_head d) = let t = says_in d in record { cost = t.cost; less = t.less; numbers = by_head t.says }

    chooses_in : {ms : List N} {p far w : ℕ} {x : Value} {a : Answer} → Chooses (weighed l) ms p x far a w → ChoosesIn ms p x far a w
    chooses_in no_more = record { cost = 0; less = omega arith; chooses = no_more }
    chooses_in (this_one d) = let t = says_in d in record { cost = t.cost; less = t.less; chooses = this_one t.says }
    chooses_in (not_this d e) = let t = says_in d in let u = chooses_in e in record { cost = t.cost + u.cost; less = omega (arith, t.less, u.less); chooses = not_this t.says u.chooses }

    does_in : {f : Group N G} {p q w : ℕ} {xs : List Value} {r : Reply} → Does (weighed l) f p q xs r w → DoesIn f p q xs r w
    does_in missing = record { cost = 1; less = omega arith; does = missing }
    does_in (matches d) = let t = says_in d in record { cost = suc t.cost; less = omega (arith, t.less); does = matches t.says }
    does_in (differs d) = let t = says_in d in record { cost = suc t.cost; less = omega (arith, t.less); does = differs t.says }
    does_in (group_ref d) = let t = does_in d in record { cost = suc t.cost; less = omega (arith, t.less); does = group_ref t.does }
    does_in (sequence d) = let t = each_in d in record { cost = suc t.cost; less = omega (arith, t.less); does = sequence t.does }
    does_in (alternatives d) = let t = first_group_in d in record { cost = suc t.cost; less = omega (arith, t.less); does = alternatives t.does }
    does_in (repeat d) = let t = repeats_in d in record { cost = suc t.cost; less = omega (arith, t.less); does = repeat t.does }

    each_in : {gs : List G} {p q far w : ℕ} {xs : List Value} {r : Reply} → DoesEach (weighed l) gs p q xs far r w → EachIn gs p q xs far r w
    each_in all_done = record { cost = 0; less = omega arith; does = all_done }
    each_in (one_fails d) = let t = does_in d in record { cost = t.cost; less = t.less; does = one_fails t.does }
    each_in (and_then d e) = let t = does_in d in let u = each_in e in record { cost = t.cost + u.cost; less = omega (arith, t.less, u.less); does = and_then t.does u.does }

    first_group_in : {gs : List G} {p q far w : ℕ} {xs : List Value} {r : Reply} → DoesFirst (weighed l) gs p q xs far r w → FirstIn gs p q xs far r w
    first_group_in all_fail = record { cost = 0; less = omega arith; does = all_fail }
    first_group_in (one_takes d) = let t = does_in d in record { cost = t.cost; less = t.less; does = one_takes t.does }
    first_group_in (or_else d e) = let t = does_in d in let u = first_group_in e in record { cost = t.cost + u.cost; less = omega (arith, t.less, u.less); does = or_else t.does u.does }

    repeats_in : {least : ℕ} {most : Most} {g : G} {p q far w : ℕ} {xs : List Value} {r : Reply} → Repeats (weighed l) least most g p q xs far r w → RepeatsIn least most g p q xs far r w
    repeats_in (full b) = record { cost = 0; less = omega arith; does = full b }
    repeats_in (too_few b d) = let t = does_in d in record { cost = t.cost; less = t.less; does = too_few b t.does }
    repeats_in (enough b d) = let t = does_in d in record { cost = t.cost; less = t.less; does = enough b t.does }
    repeats_in (empty_round b d e) = let t = does_in d in record { cost = t.cost; less = t.less; does = empty_round b t.does e }
    repeats_in (round b d n e) = let t = does_in d in let u = repeats_in e in record { cost = t.cost + u.cost; less = omega (arith, t.less, u.less); does = round b t.does n u.does }

  -- the same answer at the same place, in no more than the weight
  pub costs : {f : Node N G} {p w : ℕ} {x : Value} {a : Answer} → Says (weighed l) f p x a w → (c : ℕ) × Says l f p x a c × (c ≤ w)
  costs d = let t = says_in d in (t.cost, t.says, t.less)

  pub does_costs : {f : Group N G} {p q w : ℕ} {xs : List Value} {r : Reply} → Does (weighed l) f p q xs r w → (c : ℕ) × Does l f p q xs r c × (c ≤ w)
  does_costs d = let t = does_in d in (t.cost, t.does, t.less)

-- What forms show is so.
module _ {N G : Type 0} (l : Language N G) where
  shown_by_form : (next : N → Option Value) → ((m : N) (v : Value) → next m ≡ Some v → IsLiteral l m v) → (n : N) (f : Node N G) → l.type_at n ≡ f → (v : Value) → key_by next f ≡ Some v → IsLiteral l n v
  shown_by_form next h n (Plain (equals u)) i v e = written (i ∙ ap (λ v. Plain (equals v)) (some_is e))
  shown_by_form next h n (Ref m) i v e = named i (h m v e)
  shown_by_form next h n (Choice (m ∷ [])) i v e = only_one i (h m v e)
  shown_by_form next h n _ i v e = absurd (none_is e)

  shown : (k : ℕ) (n : N) (v : Value) → key_in l.type_at k n ≡ Some v → IsLiteral l n v
  unfolding key_in
  shown zero n v e = shown_by_form (λ m. None) (λ m v e. absurd (none_is e)) n (l.type_at n) refl v e
  shown (suc k) n v e = shown_by_form (λ m. key_in l.type_at k m) (λ m v e. shown k m v e) n (l.type_at n) refl v e

  pub forms_are_literals : AreLiterals l (by_forms l.type_at)
  forms_are_literals = λ n v e. shown most_forms n v e

-- Where no type is a literal with parts, none is known of a key.
module _ {N G : Type 0} (l : Language N G) (plain : (n : N) → IsPlainNode (l.type_at n)) where
  has_no_parts : {n : N} {v : Value} → IsLiteral l n v → HasNoParts v
  has_no_parts {n = n} (written e) = subst (λ f. IsPlainNode f) e (plain n)
  has_no_parts (named e i) = has_no_parts i
  has_no_parts (only_one e i) = has_no_parts i

  pub plain_keys : HasPlainKeys (by_forms l.type_at)
  plain_keys = λ n v e. has_no_parts (forms_are_literals l n v e)

-- A value shows.
pub value_shows : {N G : Type 0} (type_at : N → Node N G) (k : ℕ) (n : N) (v : Value) → type_at n ≡ Plain (equals v) → key_in type_at k n ≡ Some v
unfolding key_in
value_shows type_at zero n v e = ap (λ f. key_by (λ m. None) f) e
value_shows type_at (suc k) n v e = ap (λ f. key_by (λ m. key_in type_at k m) f) e
