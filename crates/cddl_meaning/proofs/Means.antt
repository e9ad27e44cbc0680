-- What the moves reply, the definition says.
use Rattle.std.proofs.Common.{◌≡◌, ◌≢◌, ℕ, zero, suc, ◌+◌, ◌-◌, ◌≤◌, max, length, List, [], ◌∷◌, Option, Some, None, Bool, true, false, nat_eq, refl, subst, sym, ap, ◌∙◌, arith}
use Rattle.std.proofs.lemmas.Bool.Decides.{nat_tests}
use Rattle.lists.proofs.Lemmas.{is_equal}
use Rattle.cbor_data.specs.Value.{Value, place_count, Pairs, no_pairs, pair, pairs_place_count}
use Rattle.cddl_meaning.specs.Forms.{Test, bits_among, passes, bits_asked, members_in, pairs_in, bytes_in, tag_in, simple_in, TagNumber, any_number, exactly, such_as, Content, MapEntry, Node, Plain, Ref, Choice, ArrayOf, TagOf, SimpleBy, MapOf, Both, Such, Holding, Most, Group, Entry, GroupRef, Sequence, Alternatives, Repeat, Language, pair_cost, entry_cost}
use Rattle.cddl_meaning.specs.Size.{size, pairs_size}
use Rattle.cddl_meaning.specs.Judges.{Answer, Yes, No, Reply, Takes, Fails, whole, over, failed, is_over, one_less, Says, passed, missed, ref, choice, no_array, array, no_tag, tagged, other_tag, no_simple, simple_such, other_simple, no_map, map, left_no, left_yes, none_such, such_passed, such_missed, holder_no, no_string, holds_nothing, held_yes, held_no, Fate, BelongsTo, Stray, alternative_says, either, Maps, no_alternative, alternative, Sorts, all_sorted, sort, Belongs, nowhere, passed_over, asked, BelongsAsked, other_key, here, cut_here, handed_on, Numbers, whichever, this_number, other_number, by_head, Chooses, no_more, this_one, not_this, Does, missing, matches, differs, group_ref, sequence, alternatives, repeat, DoesEach, all_done, one_fails, and_then, DoesFirst, all_fail, one_takes, or_else, Repeats, full, too_few, enough, empty_round, round}
use Rattle.cddl_meaning.proofs.Sizes.{size_some, all_some, array_size, tag_size, map_size, string_size, few_places, pairs_few_places, held_size}
use Rattle.cddl_meaning.proofs.Covers.{leaves}
use Rattle.cddl_meaning.proofs.Matches.{Fits, AllFit, plus_is, next_place, below, array_covers, tag_reply, simple_reply, map_reply, either_is, as_many}
use Rattle.cddl_meaning.proofs.Tallies.{all_tallied, tally_is}
use Rattle.cddl_meaning.specs.Moves.{Question, OfType, OfGroup, OfAlternative, Tally, tallied, fresh, tally_says, Sorting, InRef, InKey, Answered, Asks, Weighs, plus, reply_of, test_reply, such_reply, answer_reply, either_reply, next_member, next_part, next_alternative, next_round, repetition, after_round, end_of_rounds, array_move, content_move, tag_move, simple_move, read_move, tested_move, next_way, map_move, next_pair, sorted, next_entry, after_value, type_move, group_move, Replies, replies, LeadsTo, at_once, after, tries, passes_over, enters, weighs, reads, reads_nothing}

is_unequal : (m n : ℕ) → nat_eq m n ≡ false → m ≢ n
is_unequal m n h = λ e. absurd (clash m n h e)
  where
    clash : (m n : ℕ) → nat_eq m n ≡ false → m ≡ n → ⊥
    clash m n h e = grind (arith, nat_tests)

same : (v : ℕ) {w : ℕ} → w ≡ 0 → v ≡ v + w
same v e = omega (arith, e)

more : (v : ℕ) {w : ℕ} → w ≡ 0 → suc v ≡ suc (v + w)
more v e = omega (arith, e)

module _ {N G : Type 0} (l : Language N G) where
  -- a reply that is an answer of the form
  pub record SaysIt (f : Node N G) (p : ℕ) (x : Value) (r : Reply) (w : ℕ) : Type 0 where
    pub answer : Answer
    pub is : r ≡ reply_of p x answer
    pub says : Says l f p x answer w

  record ChoosesIt (ms : List N) (p : ℕ) (x : Value) (far : ℕ) (r : Reply) (w : ℕ) : Type 0 where
    answer : Answer
    is : r ≡ reply_of p x answer
    chooses : Chooses l ms p x far answer w

  yes_of : {f : Node N G} {p w b far : ℕ} {x : Value} {left : List Value} → SaysIt f p x (Takes left b far) w → Says l f p x Yes w
  yes_of {f = f} {p = p} {w = w} {x = x} s = by s.answer s.is s.says
    where
      by : {b far : ℕ} {left : List Value} (a : Answer) → Takes left b far ≡ reply_of p x a → Says l f p x a w → Says l f p x Yes w
      by Yes e d = d
      by (No f) e d = cc

  no_of : {f : Node N G} {p w far : ℕ} {x : Value} → SaysIt f p x (Fails far) w → Says l f p x (No far) w
  no_of {f = f} {p = p} {w = w} {far = far} {x = x} s = by s.answer s.is s.says
    where
      by : (a : Answer) → Fails far ≡ reply_of p x a → Says l f p x a w → Says l f p x (No far) w
      by Yes e d = cc
      by (No k) e d = subst (λ k. Says l f p x (No k) w) (cc e) d

  plain_says : {t : Test} {p : ℕ} {x : Value} (b : Bool) → passes t x ≡ b → SaysIt (Plain t) p x (test_reply p x b) 1
  plain_says true e = record { answer = Yes; is = refl; says = passed e }
  plain_says {p = p} false e = record { answer = No p; is = refl; says = missed e }

  -- a type's yes tells the place after the item
  next_of : {f : Node N G} {p w b far : ℕ} {x : Value} {left : List Value} → SaysIt f p x (Takes left b far) w → b ≡ plus p (place_count x)
  next_of {p = p} {x = x} s = by s.answer s.is
    where
      by : {b far : ℕ} {left : List Value} (a : Answer) → Takes left b far ≡ reply_of p x a → b ≡ plus p (place_count x)
      by Yes e = cc e
      by (No f) e = cc

  ended : {s r : Reply} {w : ℕ} → LeadsTo l (Answered s) r w → (r ≡ s) × (w ≡ 0)
  ended at_once = (refl, refl)

  all_weighed : {n : ℕ} {s r : Reply} {w : ℕ} → LeadsTo l (Weighs n s) r w → (r ≡ s) × (w ≡ n)
  all_weighed weighs = (refl, refl)

  test_ended : (t : Test) (p next : ℕ) (x : Value) {r : Reply} {w : ℕ} → LeadsTo l (tested_move t p next x) r w → (r ≡ such_reply p next (passes t x)) × (w ≡ bits_asked t x)
  test_ended (bits_among rs) p next x e = all_weighed e
  test_ended t p next x e = ended e

  positive : {q : Question N G} {r : Reply} {w : ℕ} → Replies l q r w → 1 ≤ w
  positive (replies e) = omega arith

  plain_tag_says : {m : N} {p n v : ℕ} {x y : Value} {r : Reply} → Fits p (size x) → tag_in x ≡ Some (n, y) → SaysIt (l.type_at m) (suc p) y r v → SaysIt (TagOf any_number m) p x r (suc (v + 0))
  plain_tag_says {m = m} {p = p} {n = n} {x = x} {y = y} h i s = record { answer = s.answer; is = s.is ∙ tag_reply p n x y s.answer h i; says = subst (λ w. Says l (TagOf any_number m) p x s.answer w) (omega arith) (tagged i whichever s.says) }

  exact_says : {k n : ℕ} {m : N} {p v : ℕ} {x y : Value} {r : Reply} → Fits p (size x) → k ≡ n → tag_in x ≡ Some (n, y) → SaysIt (l.type_at m) (suc p) y r v → SaysIt (TagOf (exactly k) m) p x r (suc (v + 0))
  exact_says {k = k} {n = n} {m = m} {p = p} {x = x} {y = y} h e i s = record { answer = s.answer; is = s.is ∙ tag_reply p n x y s.answer h i; says = subst (λ w. Says l (TagOf (exactly k) m) p x s.answer w) (omega arith) (tagged i (subst (λ n. Numbers l (exactly k) p n Yes 0) e this_number) s.says) }

  rounds_end : {most : Most} {g : G} {p q far later v w : ℕ} {xs : List Value} {r : Reply} (least : ℕ) → is_over most ≡ false → Does l (l.group_at g) p q xs (Fails later) v → LeadsTo l (end_of_rounds least xs q (max far later)) r w → Repeats l least most g p q xs far r (v + w)
  rounds_end {most = most} {g = g} {p = p} {q = q} {far = far} {later = later} {v = v} {w = u} {xs = xs} zero i d e =
      let z = ended e in
      subst (λ r. Repeats l 0 most g p q xs far r (v + u)) (sym z.0) (subst (λ w. Repeats l 0 most g p q xs far (Takes xs q (max far later)) w) (same v z.1) (enough i d))
  rounds_end {most = most} {g = g} {p = p} {q = q} {far = far} {later = later} {v = v} {w = u} {xs = xs} (suc least) i d e =
      let z = ended e in
      subst (λ r. Repeats l (suc least) most g p q xs far r (v + u)) (sym z.0) (subst (λ w. Repeats l (suc least) most g p q xs far (Fails (max far later)) w) (same v z.1) (too_few i d))

  -- at the place after a tag's or an array's head
  stepped : {n : N} {p v : ℕ} (x : Value) {y : Value} {r : Reply} → Fits p (size x) → Replies l (OfType n (plus p 1) y) r v → Replies l (OfType n (suc p) y) r v
  stepped {n = n} {p = p} {v = v} x {y = y} {r = r} h d = subst (λ q. Replies l (OfType n q y) r v) (next_place p (size x) (size_some x) h) d

  stepped_in : {g : G} {p v : ℕ} (x : Value) {xs : List Value} {r : Reply} → Fits p (size x) → Replies l (OfGroup g p (plus p 1) xs) r v → Replies l (OfGroup g p (suc p) xs) r v
  stepped_in {g = g} {p = p} {v = v} x {xs = xs} {r = r} h d = subst (λ q. Replies l (OfGroup g p q xs) r v) (next_place p (size x) (size_some x) h) d

  record MapsIt (ess : List (List (MapEntry N))) (p : ℕ) (ps : Pairs) (sofar : Answer) (r : Reply) (w : ℕ) : Type 0 where
    answer : Answer
    is : r ≡ answer_reply (suc p + pairs_place_count ps) answer
    maps : Maps l ess p ps sofar answer w

  record SortsIt (es : List (MapEntry N)) (p q : ℕ) (ps : Pairs) (t : Tally) (r : Reply) (w : ℕ) : Type 0 where
    fates : List Fate
    is : r ≡ answer_reply (q + pairs_place_count ps) (tally_says es p (all_tallied t fates))
    sorts : Sorts l es q ps fates w

  record AlternativeIt (es : List (MapEntry N)) (p : ℕ) (ps : Pairs) (r : Reply) (w : ℕ) : Type 0 where
    fates : List Fate
    is : r ≡ answer_reply (suc p + pairs_place_count ps) (alternative_says es p fates)
    weight : ℕ
    one_more : suc weight ≡ w
    sorts : Sorts l es (suc p) ps fates weight

  record BelongsIt (es : List (MapEntry N)) (s : Sorting N) (r : Reply) (w : ℕ) : Type 0 where
    fate : Fate
    before : ℕ
    after_it : ℕ
    total : before + after_it ≡ w
    belongs : Belongs l es s.key_place s.key s.held fate before
    goes_on : LeadsTo l (sorted s fate) r after_it

  record AskedIt (e : MapEntry N) (es : List (MapEntry N)) (s : Sorting N) (r : Reply) (w : ℕ) : Type 0 where
    fate : Fate
    before : ℕ
    after_it : ℕ
    total : before + after_it ≡ w
    belongs : BelongsAsked l e es s.key_place s.key s.held fate before
    goes_on : LeadsTo l (sorted s fate) r after_it

  such_says : {m : N} {t : Test} {p b far v : ℕ} {x : Value} {left : List Value} (c : Bool) → passes t x ≡ c → SaysIt (l.type_at m) p x (Takes left b far) v → SaysIt (Such m t) p x (such_reply p b c) (suc (v + bits_asked t x))
  such_says {m = m} {t = t} {p = p} {x = x} true e s = record { answer = Yes; is = ap (λ b. Takes [] b 0) (next_of s); says = such_passed (yes_of s) e }
  such_says {m = m} {t = t} {p = p} {x = x} false e s = record { answer = No p; is = refl; says = such_missed (yes_of s) e }

  -- the questions of weight k at most have the definition's replies
  record Known (k : ℕ) : Type 0 where
    types : {n : N} {p w : ℕ} {x : Value} {r : Reply} → Fits p (size x) → w ≤ k → Replies l (OfType n p x) r w → SaysIt (l.type_at n) p x r w
    groups : {g : G} {p q w : ℕ} {xs : List Value} {r : Reply} → AllFit q xs → w ≤ k → Replies l (OfGroup g p q xs) r w → Does l (l.group_at g) p q xs r w
    alternatives : {es : List (MapEntry N)} {p w : ℕ} {ps : Pairs} {r : Reply} → Fits (suc p) (pairs_size ps) → w ≤ k → Replies l (OfAlternative es p ps) r w → AlternativeIt es p ps r w

  module _ (k : ℕ) (known : Known k) where
    maps_from : (ess : List (List (MapEntry N))) {p w : ℕ} {ps : Pairs} {r : Reply} (sofar : Answer) → Fits (suc p) (pairs_size ps) → w ≤ k → LeadsTo l (next_way ess p ps (answer_reply (suc p + pairs_place_count ps) sofar)) r w → MapsIt ess p ps sofar r w
    maps_from [] sofar f h at_once = record { answer = sofar; is = refl; maps = no_alternative }
    maps_from (es ∷ ess) {p = p} {ps = ps} {r = r} sofar f h (after {v = v} {w = w} d e) =
        let b = suc p + pairs_place_count ps in
        let t = known.alternatives f (omega (arith, h)) d in
        let c = alternative_says es p t.fates in
        let g = subst (λ o. LeadsTo l (next_way ess p ps o) r w) (either_is b sofar c) (subst (λ o. LeadsTo l (next_way ess p ps (either_reply (answer_reply b sofar) o)) r w) t.is e) in
        let m = maps_from ess (either sofar c) f (omega (arith, h)) g in
        record { answer = m.answer; is = m.is; maps = subst (λ v. Maps l (es ∷ ess) p ps sofar m.answer (v + w)) t.one_more (alternative t.sorts m.maps) }

    map_from : {ess : List (List (MapEntry N))} {p w : ℕ} {x : Value} {r : Reply} (o : Option Pairs) → pairs_in x ≡ o → Fits p (size x) → w ≤ k → LeadsTo l (map_move ess p o) r w → SaysIt (MapOf ess) p x r (suc w)
    map_from {p = p} None i f h at_once = record { answer = No p; is = refl; says = no_map i }
    map_from {ess = ess} {p = p} {x = x} (Some ps) i f h e =
        let m = maps_from ess (No p) (omega (arith, f, map_size x ps i)) h e in
        record { answer = m.answer; is = m.is ∙ map_reply p x m.answer f i; says = map i m.maps }

    -- the value type has said no
    value_from : {e : MapEntry N} {es : List (MapEntry N)} {far u v w : ℕ} {s : Sorting N} {r : Reply} (c : Bool) → e.cuts ≡ c → Says l (l.type_at e.key_type) s.key_place s.key Yes u → Says l (l.type_at e.value_type) (s.key_place + place_count s.key) s.held (No far) v → (LeadsTo l (next_entry es s) r w → BelongsIt es s r w) → LeadsTo l (after_value c es s far) r w → AskedIt e es s r (u + (v + w))
    value_from {es = es} {far = far} {u = u} {v = v} {w = w} true c d b rest e = record { fate = BelongsTo (length es) (No far); before = u + v; after_it = w; total = omega arith; belongs = cut_here c d b; goes_on = e }
    value_from {u = u} {v = v} false c d b rest e =
        let t = rest e in
        record { fate = t.fate; before = u + (v + t.before); after_it = t.after_it; total = omega (arith, t.total); belongs = handed_on c d b t.belongs; goes_on = t.goes_on }

    asked_from : (e : MapEntry N) (es : List (MapEntry N)) (s : Sorting N) {w : ℕ} {r : Reply} → Fits s.key_place (size s.key + size s.held) → s.value_place ≡ s.key_place + place_count s.key → w ≤ k → ((w : ℕ) → w ≤ k → LeadsTo l (next_entry es s) r w → BelongsIt es s r w) → LeadsTo l (Asks (OfType e.key_type s.key_place s.key) (InKey e es s)) r w → AskedIt e es s r w
    asked_from e es s f z h rest (after {s = Takes left b later} {v = v} d (after {s = Takes also c last} {v = u} {w = w} d' g)) =
        let t = known.types (omega (arith, f)) (omega (arith, h)) d in
        let y = known.types (omega (arith, f, few_places s.key)) (omega (arith, h)) (subst (λ q. Replies l (OfType e.value_type q s.held) (Takes also c last) u) z d') in
        record { fate = BelongsTo (length es) Yes; before = v + u; after_it = w; total = omega arith; belongs = here (yes_of t) (yes_of y); goes_on = g }
    asked_from e es s f z h rest (after {s = Takes left b later} {v = v} d (after {s = Fails far} {v = u} {w = w} d' g)) =
        let t = known.types (omega (arith, f)) (omega (arith, h)) d in
        let y = known.types (omega (arith, f, few_places s.key)) (omega (arith, h)) (subst (λ q. Replies l (OfType e.value_type q s.held) (Fails far) u) z d') in
        value_from {e = e} {s = s} e.cuts refl (yes_of t) (no_of y) (λ g. rest _ (omega (arith, h)) g) g
    asked_from e es s f z h rest (after {s = Fails far} {v = v} {w = w} d g) =
        let t = known.types (omega (arith, f)) (omega (arith, h)) d in
        let m = rest _ (omega (arith, h)) g in
        record { fate = m.fate; before = v + m.before; after_it = m.after_it; total = omega (arith, m.total); belongs = other_key (no_of t) m.belongs; goes_on = m.goes_on }

    belongs_from : (es : List (MapEntry N)) (s : Sorting N) {w : ℕ} {r : Reply} → Fits s.key_place (size s.key + size s.held) → s.value_place ≡ s.key_place + place_count s.key → w ≤ k → LeadsTo l (next_entry es s) r w → BelongsIt es s r w
    belongs_from [] s {w = w} f z h e = record { fate = Stray s.key_place; before = 0; after_it = w; total = omega arith; belongs = nowhere; goes_on = e }
    belongs_from (e ∷ es) s f z h (passes_over i g) =
        let m = belongs_from es s f z h g in
        record { fate = m.fate; before = m.before; after_it = m.after_it; total = m.total; belongs = passed_over i m.belongs; goes_on = m.goes_on }
    belongs_from (e ∷ es) s {r = r} f z h (enters i g) =
        let m = asked_from e es s {r = r} f z (omega (arith, h)) (λ w h g. belongs_from es s {w = w} {r = r} f z h g) g in
        record { fate = m.fate; before = entry_cost l.counting + m.before; after_it = m.after_it; total = omega (arith, m.total); belongs = asked i m.belongs; goes_on = m.goes_on }

    -- a pair is sorted, and so are those after it
    one_more_pair : {es : List (MapEntry N)} {p q u v w : ℕ} {c x : Value} {ps : Pairs} {t : Tally} (f : Fate) {r : Reply} → Belongs l es q c x f u → u + v ≡ w → SortsIt es p (q + place_count c + place_count x) ps (tallied t f) r v → SortsIt es p q (pair c x ps) t r (pair_cost l.counting (length es) + w)
    one_more_pair {es = es} {p = p} {q = q} {c = c} {x = x} {ps = ps} {t = t} f {r = r} b e m =
        record { fates = f ∷ m.fates; is = m.is ∙ ap (λ b. answer_reply b (tally_says es p (all_tallied (tallied t f) m.fates))) (omega arith); sorts = subst (λ w. Sorts l es q (pair c x ps) (f ∷ m.fates) w) (omega (arith, e)) (sort b m.sorts) }

    sorts_from : (ps : Pairs) {es : List (MapEntry N)} {p q w : ℕ} {t : Tally} {r : Reply} → Fits q (pairs_size ps) → w ≤ k → LeadsTo l (next_pair es p q ps t) r w → SortsIt es p q ps t r w
    sorts_from no_pairs {es = es} {p = p} {q = q} {t = t} f h at_once = record { fates = []; is = ap (λ b. answer_reply b (tally_says es p t)) (omega arith); sorts = all_sorted }
    sorts_from (pair c x ps) {es = es} {p = p} {q = q} {t = t} {r = r} f h (tries {s = s} {w = w} e) =
        let i : plus q (place_count c) ≡ q + place_count c = plus_is q (place_count c) (omega (arith, f, few_places c)) in
        let j : plus (q + place_count c) (place_count x) ≡ q + place_count c + place_count x = plus_is (q + place_count c) (place_count x) (omega (arith, f, few_places c, few_places x)) in
        let next : ℕ = q + place_count c + place_count x in
        let b : BelongsIt es s r w = belongs_from es s (omega (arith, f)) i (omega (arith, h)) e in
        let z : s.next_place ≡ next = rw i j in
        let g : LeadsTo l (next_pair es p next ps (tallied t b.fate)) r b.after_it = subst (λ q'. LeadsTo l (next_pair es p q' ps (tallied t b.fate)) r b.after_it) z b.goes_on in
        let d : b.after_it ≤ k = omega (arith, h, b.total) in
        one_more_pair b.fate b.belongs b.total (sorts_from ps (omega (arith, f, few_places c, few_places x)) d g)

    choose_from : (ms : List N) {p far w : ℕ} {x : Value} {r : Reply} → Fits p (size x) → w ≤ k → LeadsTo l (next_member ms p x far) r w → ChoosesIt ms p x far r w
    choose_from [] {far = far} f h at_once = record { answer = No far; is = refl; chooses = no_more }
    choose_from (m ∷ ms) {p = p} {far = far} {x = x} f h (after {s = Takes left b later} d at_once) =
        let t = known.types f (omega (arith, h)) d in
        record { answer = Yes; is = ap (λ b. Takes [] b 0) (next_of t); chooses = subst (λ w. Chooses l (m ∷ ms) p x far Yes w) (omega arith) (this_one (yes_of t)) }
    choose_from (m ∷ ms) f h (after {s = Fails later} d e) =
        let s = choose_from ms f (omega (arith, h)) e in
        record { answer = s.answer; is = s.is; chooses = not_this (no_of (known.types f (omega (arith, h)) d)) s.chooses }

    array_from : {g : G} {p w : ℕ} {x : Value} {r : Reply} (o : Option (List Value)) → members_in x ≡ o → Fits p (size x) → w ≤ k → LeadsTo l (array_move g p o) r w → SaysIt (ArrayOf g) p x r (suc w)
    array_from {p = p} None i f h at_once = record { answer = No p; is = refl; says = no_array i }
    array_from {g = g} {p = p} {x = x} (Some xs) i f h (after {s = Takes [] b far} d at_once) =
        let t = known.groups (omega (arith, f, array_size x xs i)) (omega (arith, h)) (stepped_in x f d) in
        record { answer = Yes; is = ap (λ b. Takes [] b 0) (array_covers l x xs f i t); says = subst (λ w. Says l (ArrayOf g) p x Yes w) (omega arith) (array i t whole) }
    array_from {g = g} {p = p} {x = x} (Some xs) i f h (after {s = Takes (y ∷ ys) b far} {v = v} d e) =
        let z = ended e in
        let t = known.groups (omega (arith, f, array_size x xs i)) (omega (arith, h)) (stepped_in x f d) in
        record { answer = No (max far b); is = z.0; says = subst (λ w. Says l (ArrayOf g) p x (No (max far b)) w) (more v z.1) (array i t over) }
    array_from {g = g} {p = p} {x = x} (Some xs) i f h (after {s = Fails far} d at_once) =
        let t = known.groups (omega (arith, f, array_size x xs i)) (omega (arith, h)) (stepped_in x f d) in
        record { answer = No far; is = refl; says = subst (λ w. Says l (ArrayOf g) p x (No far) w) (omega arith) (array i t failed) }

    content_from : {t : TagNumber N} {m : N} {p n v w : ℕ} {x y : Value} {r : Reply} → Fits p (size x) → tag_in x ≡ Some (n, y) → Numbers l t p n Yes v → w ≤ k → LeadsTo l (Asks (OfType m (plus p 1) y) InRef) r w → SaysIt (TagOf t m) p x r (suc (v + w))
    content_from {t = t} {m = m} {p = p} {n = n} {x = x} {y = y} f i u h (after d at_once) =
        let s = known.types (omega (arith, f, tag_size x y n i)) (omega (arith, h)) (stepped x f d) in
        record { answer = s.answer; is = s.is ∙ tag_reply p n x y s.answer f i; says = subst (λ w. Says l (TagOf t m) p x s.answer w) (omega arith) (tagged i u s.says) }

    exact_from : {j : ℕ} {m : N} {p n w : ℕ} {x y : Value} {r : Reply} (b : Bool) → nat_eq j n ≡ b → Fits p (size x) → tag_in x ≡ Some (n, y) → w ≤ k → LeadsTo l (content_move m p y b) r w → SaysIt (TagOf (exactly j) m) p x r (suc w)
    exact_from {j = j} {n = n} {x = x} {y = y} true e f i h (after d at_once) = exact_says f (is_equal j n e) i (known.types (omega (arith, f, tag_size x y n i)) (omega (arith, h)) (stepped x f d))
    exact_from {j = j} {p = p} {n = n} false e f i h at_once = record { answer = No p; is = refl; says = other_tag i (other_number (is_unequal j n e)) }

    tag_from : {t : TagNumber N} {m : N} {p w : ℕ} {x : Value} {r : Reply} (o : Option (ℕ × Value)) → tag_in x ≡ o → Fits p (size x) → w ≤ k → LeadsTo l (tag_move t m p o) r w → SaysIt (TagOf t m) p x r (suc w)
    tag_from {p = p} None i f h at_once = record { answer = No p; is = refl; says = no_tag i }
    tag_from {t = any_number} {x = x} (Some (n, y)) i f h (after d at_once) = plain_tag_says f i (known.types (omega (arith, f, tag_size x y n i)) (omega (arith, h)) (stepped x f d))
    tag_from {t = exactly j} (Some (n, y)) i f h e = exact_from (nat_eq j n) refl f i h e
    tag_from {t = such_as t} {x = x} (Some (n, y)) i f h (after {s = Takes left b later} d e) = content_from f i (by_head (yes_of (known.types (omega (arith, f, size_some x)) (omega (arith, h)) d))) (omega (arith, h)) e
    tag_from {t = such_as t} {m = m} {p = p} {x = x} (Some (n, y)) i f h (after {s = Fails later} d at_once) =
        record { answer = No p; is = refl; says = subst (λ w. Says l (TagOf (such_as t) m) p x (No p) w) (omega arith) (other_tag i (by_head (no_of (known.types (omega (arith, f, size_some x)) (omega (arith, h)) d)))) }

    simple_from : {m : N} {p w : ℕ} {x : Value} {r : Reply} (o : Option ℕ) → simple_in x ≡ o → Fits p (size x) → w ≤ k → LeadsTo l (simple_move m p o) r w → SaysIt (SimpleBy m) p x r (suc w)
    simple_from {p = p} None i f h at_once = record { answer = No p; is = refl; says = no_simple i }
    simple_from {m = m} {p = p} {x = x} (Some n) i f h (after {s = Takes left b later} d at_once) =
        record { answer = Yes; is = simple_reply p n x i; says = subst (λ w. Says l (SimpleBy m) p x Yes w) (omega arith) (simple_such i (yes_of (known.types (omega (arith, f, size_some x)) (omega (arith, h)) d))) }
    simple_from {m = m} {p = p} {x = x} (Some n) i f h (after {s = Fails later} d at_once) =
        record { answer = No p; is = refl; says = subst (λ w. Says l (SimpleBy m) p x (No p) w) (omega arith) (other_simple i (no_of (known.types (omega (arith, f, size_some x)) (omega (arith, h)) d))) }

    -- what a byte string holds
    read_from : {m n : N} {c : Content} {p b far v w : ℕ} {x : Value} {left : List Value} {r : Reply} (o : Option (List ℕ)) → bytes_in x ≡ o → Fits p (size x) → w ≤ k → SaysIt (l.type_at m) p x (Takes left b far) v → LeadsTo l (read_move c n p b o) r w → SaysIt (Holding m c n) p x r (suc (v + w))
    read_from {m = m} {n = n} {c = c} {p = p} {x = x} None i f h s at_once =
        record { answer = No p; is = refl; says = subst (λ w. Says l (Holding m c n) p x (No p) w) (omega arith) (no_string (yes_of s) i) }
    read_from {m = m} {n = n} {c = c} {p = p} {x = x} (Some d) i f h s (reads o (after {s = Takes left b later} a at_once)) =
        let t = known.types (omega (arith, f, held_size o, string_size x d i)) (omega (arith, h)) a in
        record { answer = Yes; is = ap (λ b. Takes [] b 0) (next_of s); says = subst (λ w. Says l (Holding m c n) p x Yes w) (omega arith) (held_yes (yes_of s) i o (yes_of t)) }
    read_from {m = m} {n = n} {c = c} {p = p} {x = x} (Some d) i f h s (reads o (after {s = Fails later} a at_once)) =
        let t = known.types (omega (arith, f, held_size o, string_size x d i)) (omega (arith, h)) a in
        record { answer = No p; is = refl; says = subst (λ w. Says l (Holding m c n) p x (No p) w) (omega arith) (held_no (yes_of s) i o (no_of t)) }
    read_from {m = m} {n = n} {c = c} {p = p} {x = x} (Some d) i f h s (reads_nothing o) =
        record { answer = No p; is = refl; says = subst (λ w. Says l (Holding m c n) p x (No p) w) (omega arith) (holds_nothing (yes_of s) i o) }

    form_from : (t : Node N G) {p w : ℕ} {x : Value} {r : Reply} → Fits p (size x) → w ≤ k → LeadsTo l (type_move t p x) r w → SaysIt t p x r (suc w)
    form_from (Plain t) {x = x} f h at_once = plain_says (passes t x) refl
    form_from (Ref m) {p = p} {x = x} f h (after d at_once) =
        let s = known.types f (omega (arith, h)) d in
        record { answer = s.answer; is = s.is; says = subst (λ w. Says l (Ref m) p x s.answer w) (omega arith) (ref s.says) }
    form_from (Choice ms) f h e = let s = choose_from ms f h e in record { answer = s.answer; is = s.is; says = choice s.chooses }
    form_from (ArrayOf g) {x = x} f h e = array_from (members_in x) refl f h e
    form_from (TagOf t m) {x = x} f h e = tag_from (tag_in x) refl f h e
    form_from (SimpleBy m) {x = x} f h e = simple_from (simple_in x) refl f h e
    form_from (MapOf ess) {x = x} f h e = map_from (pairs_in x) refl f h e
    form_from (Both m n) {p = p} {x = x} f h (after {s = Takes left b later} d (after e at_once)) =
        let s = known.types f (omega (arith, h)) d in
        let t = known.types f (omega (arith, h)) e in
        record { answer = t.answer; is = t.is; says = subst (λ w. Says l (Both m n) p x t.answer w) (omega arith) (left_yes (yes_of s) t.says) }
    form_from (Both m n) {p = p} {x = x} f h (after {s = Fails later} d at_once) =
        record { answer = No later; is = refl; says = subst (λ w. Says l (Both m n) p x (No later) w) (omega arith) (left_no (no_of (known.types f (omega (arith, h)) d))) }
    form_from (Such m t) {p = p} {x = x} f h (after {s = Takes left b later} {v = v} {w = u} d e) =
        let z = test_ended t p b x e in
        subst (λ r. SaysIt (Such m t) p x r (suc (v + u))) (sym z.0) (subst (λ n. SaysIt (Such m t) p x (such_reply p b (passes t x)) (suc (v + n))) (sym z.1) (such_says (passes t x) refl (known.types f (omega (arith, h)) d)))
    form_from (Such m t) {p = p} {x = x} f h (after {s = Fails later} d at_once) =
        record { answer = No later; is = refl; says = subst (λ w. Says l (Such m t) p x (No later) w) (omega arith) (none_such (no_of (known.types f (omega (arith, h)) d))) }
    form_from (Holding m c n) {x = x} f h (after {s = Takes left b later} d e) = read_from (bytes_in x) refl f (omega (arith, h)) (known.types f (omega (arith, h)) d) e
    form_from (Holding m c n) {p = p} {x = x} f h (after {s = Fails later} d at_once) =
        record { answer = No later; is = refl; says = subst (λ w. Says l (Holding m c n) p x (No later) w) (omega arith) (holder_no (no_of (known.types f (omega (arith, h)) d))) }

    each_from : (gs : List G) {p q far w : ℕ} {xs : List Value} {r : Reply} → AllFit q xs → w ≤ k → LeadsTo l (next_part gs p q xs far) r w → DoesEach l gs p q xs far r w
    each_from [] f h at_once = all_done
    each_from (g ∷ gs) f h (after {s = Takes left b later} d e) =
        let t = known.groups f (omega (arith, h)) d in
        and_then t (each_from gs (omega (arith, f, leaves l t)) (omega (arith, h)) e)
    each_from (g ∷ gs) {p = p} {q = q} {far = far} {xs = xs} f h (after {s = Fails later} {v = v} {w = u} d e) =
        let z = ended e in
        subst (λ r. DoesEach l (g ∷ gs) p q xs far r (v + u)) (sym z.0) (subst (λ w. DoesEach l (g ∷ gs) p q xs far (Fails (max far later)) w) (same v z.1) (one_fails (known.groups f (omega (arith, h)) d)))

    first_from : (gs : List G) {p q far w : ℕ} {xs : List Value} {r : Reply} → AllFit q xs → w ≤ k → LeadsTo l (next_alternative gs p q xs far) r w → DoesFirst l gs p q xs far r w
    first_from [] f h at_once = all_fail
    first_from (g ∷ gs) {p = p} {q = q} {far = far} {xs = xs} f h (after {s = Takes left b later} {v = v} {w = u} d e) =
        let z = ended e in
        subst (λ r. DoesFirst l (g ∷ gs) p q xs far r (v + u)) (sym z.0) (subst (λ w. DoesFirst l (g ∷ gs) p q xs far (Takes left b (max far later)) w) (same v z.1) (one_takes (known.groups f (omega (arith, h)) d)))
    first_from (g ∷ gs) f h (after {s = Fails later} d e) = or_else (known.groups f (omega (arith, h)) d) (first_from gs f (omega (arith, h)) e)

    round_from : {least : ℕ} {most : Most} {g : G} {p q far b later v w : ℕ} {xs left : List Value} {r : Reply} (c : Bool) → nat_eq (length left) (length xs) ≡ c → is_over most ≡ false → Does l (l.group_at g) p q xs (Takes left b later) v → (LeadsTo l (repetition (least - 1) (one_less most) g p b left (max far later)) r w → Repeats l (least - 1) (one_less most) g p b left (max far later) r w) → LeadsTo l (after_round c least most g p q xs (max far later) left b) r w → Repeats l least most g p q xs far r (v + w)
    round_from {least = least} {most = most} {g = g} {p = p} {q = q} {far = far} {later = later} {v = v} {w = u} {xs = xs} {left = left} true c i t rest e =
        let z = ended e in
        subst (λ r. Repeats l least most g p q xs far r (v + u)) (sym z.0) (subst (λ w. Repeats l least most g p q xs far (Takes xs q (max far later)) w) (same v z.1) (empty_round i t (is_equal (length left) (length xs) c)))
    round_from {xs = xs} {left = left} false c i t rest e = round i t (is_unequal (length left) (length xs) c) (rest e)

    -- by the weight, of which each round takes one or more
    rounds_from : (j : ℕ) {least : ℕ} {most : Most} {g : G} {p q far w : ℕ} {xs : List Value} {r : Reply} (b : Bool) → is_over most ≡ b → AllFit q xs → w ≤ j → w ≤ k → LeadsTo l (next_round b least most g p q xs far) r w → Repeats l least most g p q xs far r w
    rounds_from j true i f i' h at_once = full i
    rounds_from zero false i f i' h (after d e) = absurd (omega (arith, i', positive d))
    rounds_from (suc j) {most = most} {xs = xs} false i f i' h (after {s = Takes left b later} d e) =
        let t = known.groups f (omega (arith, h)) d in
        round_from (nat_eq (length left) (length xs)) refl i t (λ e. rounds_from j (is_over (one_less most)) refl (omega (arith, f, leaves l t)) (omega (arith, i', positive d)) (omega (arith, h)) e) e
    rounds_from (suc j) {least = least} false i f i' h (after {s = Fails later} d e) = rounds_end least i (known.groups f (omega (arith, h)) d) e

    group_form_from : (t : Group N G) {p q w : ℕ} {xs : List Value} {r : Reply} → AllFit q xs → w ≤ k → LeadsTo l (group_move t p q xs) r w → Does l t p q xs r (suc w)
    group_form_from (Entry m) {xs = []} f h at_once = missing
    group_form_from (Entry m) {p = p} {q = q} {xs = x ∷ xs} f h (after {s = Takes left b later} {v = v} d at_once) =
        let t = known.types (omega (arith, f, all_some xs)) (omega (arith, h)) d in
        subst (λ b. Does l (Entry m) p q (x ∷ xs) (Takes xs b p) (suc (v + 0))) (sym (next_of t ∙ plus_is q (place_count x) (omega (arith, f, all_some xs, few_places x)))) (subst (λ w. Does l (Entry m) p q (x ∷ xs) (Takes xs (q + place_count x) p) w) (omega arith) (matches (yes_of t)))
    group_form_from (Entry m) {p = p} {q = q} {xs = x ∷ xs} f h (after {s = Fails later} {v = v} {w = u} d e) =
        let z = ended e in
        subst (λ r. Does l (Entry m) p q (x ∷ xs) r (suc (v + u))) (sym z.0) (subst (λ w. Does l (Entry m) p q (x ∷ xs) (Fails (max p later)) w) (more v z.1) (differs (no_of (known.types (omega (arith, f, all_some xs)) (omega (arith, h)) d))))
    group_form_from (GroupRef g) {p = p} {q = q} {xs = xs} {r = r} f h (after d at_once) = subst (λ w. Does l (GroupRef g) p q xs r w) (omega arith) (group_ref (known.groups f (omega (arith, h)) d))
    group_form_from (Sequence gs) f h e = sequence (each_from gs f h e)
    group_form_from (Alternatives gs) f h e = alternatives (first_from gs f h e)
    group_form_from (Repeat least most g) f h e = repeat (rounds_from k (is_over most) refl f h h e)

  mutual
    type_within : (k : ℕ) {n : N} {p w : ℕ} {x : Value} {r : Reply} → Fits p (size x) → w ≤ k → Replies l (OfType n p x) r w → SaysIt (l.type_at n) p x r w
    type_within zero f h (replies e) = absurd (omega (arith, h))
    type_within (suc k) {n = n} f h (replies e) = form_from k (record { types = type_within k; groups = group_within k; alternatives = alternative_within k }) (l.type_at n) f (omega (arith, h)) e

    group_within : (k : ℕ) {g : G} {p q w : ℕ} {xs : List Value} {r : Reply} → AllFit q xs → w ≤ k → Replies l (OfGroup g p q xs) r w → Does l (l.group_at g) p q xs r w
    group_within zero f h (replies e) = absurd (omega (arith, h))
    group_within (suc k) {g = g} f h (replies e) = group_form_from k (record { types = type_within k; groups = group_within k; alternatives = alternative_within k }) (l.group_at g) f (omega (arith, h)) e

    alternative_within : (k : ℕ) {es : List (MapEntry N)} {p w : ℕ} {ps : Pairs} {r : Reply} → Fits (suc p) (pairs_size ps) → w ≤ k → Replies l (OfAlternative es p ps) r w → AlternativeIt es p ps r w
    alternative_within zero f h (replies e) = absurd (omega (arith, h))
    alternative_within (suc k) {es = es} {p = p} {ps = ps} {r = r} f h (replies {w = w} e) =
        let s = sorts_from k (record { types = type_within k; groups = group_within k; alternatives = alternative_within k }) ps f (omega (arith, h)) (subst (λ q. LeadsTo l (next_pair es p q ps (fresh es)) r w) (below p (pairs_size ps) f) e) in
        record { fates = s.fates; is = s.is ∙ ap (answer_reply (suc p + pairs_place_count ps)) (tally_is es p s.fates (omega (arith, f, as_many l s.sorts, pairs_few_places ps))); weight = w; one_more = refl; sorts = s.sorts }

  pub means : {n : N} {p w : ℕ} {x : Value} {r : Reply} → Fits p (size x) → Replies l (OfType n p x) r w → SaysIt (l.type_at n) p x r w
  means {w = w} f d = type_within w f (omega arith) d

  pub does : {g : G} {p q w : ℕ} {xs : List Value} {r : Reply} → AllFit q xs → Replies l (OfGroup g p q xs) r w → Does l (l.group_at g) p q xs r w
  does {w = w} f d = group_within w f (omega arith) d
