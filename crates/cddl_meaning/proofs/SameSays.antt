-- What a type says of an item it says of each that is the same, at whatever place.
use Rattle.std.proofs.Common.{◌≡◌, ℕ, suc, ◌+◌, max, length, List, [], ◌∷◌, Option, Some, None, not, refl, ap, sym, ◌∙◌}
use Rattle.cbor_data.specs.Value.{Value, place_count, Pairs, no_pairs, pair}
use Rattle.cbor_data.specs.Equivalence.{IsAdded, first, later, IsSame, same_uint, ArePairsSame, no_more, one_more}
use Rattle.cddl_meaning.specs.Forms.{equals, members_in, TagNumber, MapEntry, Node, ArrayOf, Most, Group, Counting, every_entry, by_keys, is_other, is_passed_over, pair_cost, entry_cost, Language}
use Rattle.cddl_meaning.specs.Judges.{Answer, Yes, No, Reply, Takes, Fails, ArraySays, whole, over, failed, Says, passed, missed, ref, choice, no_array, array, no_tag, tagged, other_tag, no_simple, simple_such, other_simple, no_map, map, left_no, left_yes, none_such, such_passed, such_missed, holder_no, no_string, holds_nothing, held_yes, held_no, Fate, BelongsTo, Stray, Maps, no_alternative, alternative, Sorts, all_sorted, sort, Belongs, nowhere, passed_over, asked, BelongsAsked, other_key, here, cut_here, handed_on, Numbers, whichever, this_number, other_number, by_head, Chooses, no_more as none_left, this_one, not_this, Does, missing, matches, differs, group_ref, sequence, alternatives, repeat, DoesEach, all_done, one_fails, and_then, DoesFirst, all_fail, one_takes, or_else, Repeats, full, too_few, enough, empty_round, round}
use Rattle.cddl_meaning.specs.Literals.{HasNoParts, IsPlainNode, HasPlainKeys, HasPlainLiterals}
use Rattle.cddl_meaning.proofs.SameItems.{AllSame, none, both, as_long, test_same, members_same, pairs_same, content_same, no_members_same, no_pairs_same, no_content_same, bytes_same, number_same}
use Rattle.cddl_meaning.proofs.SameFates.{AlikeAnswers, both_yes, both_no, AlikeFates, both_stray, both_belong, alike_fate, SameTally, tally_itself, tally_on, tally_more, tally_swapped, alternative_alike, either_alike}

-- yes, in some number of judgements; no, at some place
pub record YesToo (S : Answer → ℕ → Type 0) : Type 0 where
  pub weight : ℕ
  pub says : S Yes weight

pub record NoToo (S : Answer → ℕ → Type 0) : Type 0 where
  pub far : ℕ
  pub weight : ℕ
  pub says : S (No far) weight

-- the same of the two, in some number of judgements
abbrev pub SaysToo : (Answer → ℕ → Type 0) → Answer → Type 0
SaysToo S Yes = YesToo S
SaysToo S (No far) = NoToo S

record More (T : ℕ → Type 0) : Type 0 where
  weight : ℕ
  holds : T weight

lift : {S T : Answer → ℕ → Type 0} → ((b : Answer) (v : ℕ) → S b v → More (T b)) → (a : Answer) → SaysToo S a → SaysToo T a
lift f Yes s = let m = f Yes s.weight s.says in record { weight = m.weight; says = m.holds }
lift f (No far) s = let m = f (No s.far) s.weight s.says in record { far = s.far; weight = m.weight; says = m.holds }

-- takes as many items, and leaves the same; or fails
pub record TakesToo (S : Reply → ℕ → Type 0) (left : List Value) : Type 0 where
  pub rest : List Value
  pub same : AllSame left rest
  pub next : ℕ
  pub far : ℕ
  pub weight : ℕ
  pub does : S (Takes rest next far) weight

pub record FailsToo (S : Reply → ℕ → Type 0) : Type 0 where
  pub far : ℕ
  pub weight : ℕ
  pub does : S (Fails far) weight

abbrev pub DoesToo : (Reply → ℕ → Type 0) → Reply → Type 0
DoesToo S (Takes left next far) = TakesToo S left
DoesToo S (Fails far) = FailsToo S

lift_reply : {S T : Reply → ℕ → Type 0} → ((b : Reply) (v : ℕ) → S b v → More (T b)) → (r : Reply) → DoesToo S r → DoesToo T r
lift_reply f (Takes left next far) s = let m = f (Takes s.rest s.next s.far) s.weight s.does in record { rest = s.rest; same = s.same; next = s.next; far = s.far; weight = m.weight; does = m.holds }
lift_reply f (Fails far) s = let m = f (Fails s.far) s.weight s.does in record { far = s.far; weight = m.weight; does = m.holds }

-- Of two keys that are the same both are another than the value that is known, or neither is.
other_alike : (o : Option Value) {k m : Value} → ((v : Value) → o ≡ Some v → HasNoParts v) → IsSame k m → is_other o k ≡ is_other o m
other_alike None h s = refl
other_alike (Some v) h s = ap not (test_same (equals v) (h v refl) s)

passed_alike : {N : Type 0} (c : Counting N) → HasPlainKeys c → (n : N) {k m : Value} → IsSame k m → is_passed_over c n k ≡ is_passed_over c n m
passed_alike every_entry h n s = refl
passed_alike (by_keys f) h n s = other_alike (f n) (h n) s

module _ {N G : Type 0} (l : Language N G) (h : HasPlainLiterals l) where
  -- what an array says by what its group does
  all_taken : {g : G} {p next far w : ℕ} {y : Value} {ys rest : List Value} → members_in y ≡ Some ys → AllSame [] rest → Does l (l.group_at g) p (suc p) ys (Takes rest next far) w → YesToo (Says l (ArrayOf g) p y)
  all_taken {w = w} e none d = record { weight = suc w; says = array e d whole }

  some_left : {g : G} {p next far w : ℕ} {x y : Value} {xs ys rest : List Value} → members_in y ≡ Some ys → AllSame (x ∷ xs) rest → Does l (l.group_at g) p (suc p) ys (Takes rest next far) w → NoToo (Says l (ArrayOf g) p y)
  some_left {next = next} {far = far} {w = w} e (both s ss) d = record { far = max far next; weight = suc w; says = array e d over }

  array_too : (g : G) (p : ℕ) (y : Value) {ys : List Value} {r : Reply} {a : Answer} → members_in y ≡ Some ys → ArraySays r a → DoesToo (Does l (l.group_at g) p (suc p) ys) r → SaysToo (Says l (ArrayOf g) p y) a
  array_too g p y e whole d = all_taken e d.same d.does
  array_too g p y e over d = some_left e d.same d.does
  array_too g p y e failed d = record { far = d.far; weight = suc d.weight; says = array e d.does failed }

  -- the fate of a pair of the same key and value
  record BelongsToo (es : List (MapEntry N)) (q : ℕ) (k x : Value) (f : Fate) : Type 0 where
    fate : Fate
    weight : ℕ
    belongs : Belongs l es q k x fate weight
    like : AlikeFates f fate

  -- the same, where the first entry is asked about it
  record AskedToo (e : MapEntry N) (es : List (MapEntry N)) (q : ℕ) (k x : Value) (f : Fate) : Type 0 where
    fate : Fate
    weight : ℕ
    belongs : BelongsAsked l e es q k x fate weight
    like : AlikeFates f fate

  -- Pairs that have these fates wherever they stand, each at any place.
  data Sortable (es : List (MapEntry N)) : Pairs → List Fate → Type 0 where
    no_pair : Sortable es no_pairs []
    a_pair : {k x : Value} {ps : Pairs} {f : Fate} {fs : List Fate} → ((q : ℕ) → BelongsToo es q k x f) → Sortable es ps fs → Sortable es (pair k x ps) (f ∷ fs)

  record SortsToo (es : List (MapEntry N)) (ps : Pairs) (fs : List Fate) : Type 0 where
    fates : List Fate
    sortable : Sortable es ps fates
    tally : SameTally fs fates

  sort_added : {es : List (MapEntry N)} {k x : Value} {ps qs : Pairs} {f : Fate} {fs : List Fate} → IsAdded k x ps qs → ((q : ℕ) → BelongsToo es q k x f) → Sortable es ps fs → SortsToo es qs (f ∷ fs)
  sort_added {f = f} {fs = fs} first b s = record { fates = f ∷ fs; sortable = a_pair b s; tally = tally_itself (f ∷ fs) }
  sort_added {f = f} (later a) b (a_pair {f = g} {fs = fs} c s) =
      let t = sort_added a b s in
      record { fates = g ∷ t.fates; sortable = a_pair c t.sortable; tally = tally_on (tally_swapped f g fs) (tally_more (alike_fate g) t.tally) }

  -- their fates where the first is here
  record SortsAt (es : List (MapEntry N)) (q : ℕ) (ps : Pairs) (fs : List Fate) : Type 0 where
    fates : List Fate
    weight : ℕ
    sorts : Sorts l es q ps fates weight
    tally : SameTally fs fates

  sorts_at : {es : List (MapEntry N)} {ps : Pairs} {fs : List Fate} → Sortable es ps fs → (q : ℕ) → SortsAt es q ps fs
  sorts_at no_pair q = record { fates = []; weight = 0; sorts = all_sorted; tally = tally_itself [] }
  sorts_at {es = es} (a_pair {k = k} {x = x} b s) q =
      let f = b q in
      let t = sorts_at s (q + place_count k + place_count x) in
      record { fates = f.fate ∷ t.fates; weight = pair_cost l.counting (length es) + f.weight + t.weight; sorts = sort f.belongs t.sorts; tally = tally_more f.like t.tally }

  mutual
    pub said_of_same : {f : Node N G} {p w : ℕ} {x y : Value} {a : Answer} → IsPlainNode f → Says l f p x a w → IsSame x y → (q : ℕ) → SaysToo (Says l f q y) a
    said_of_same i (passed {t = t} e) s q = record { weight = 1; says = passed (sym (test_same t i s) ∙ e) }
    said_of_same i (missed {t = t} e) s q = record { far = q; weight = 1; says = missed (sym (test_same t i s) ∙ e) }
    said_of_same {a = a} i (ref {m = m} d) s q = lift (λ b v e. record { weight = suc v; holds = ref e }) a (said_of_same (h.plain m) d s q)
    said_of_same {a = a} i (choice d) s q = lift (λ b v e. record { weight = suc v; holds = choice e }) a (chooses_too d s q q)
    said_of_same i (no_array e) s q = record { far = q; weight = 1; says = no_array (no_members_same s e) }
    said_of_same {y = y} i (array {g = g} e d r) s q = let m = members_same s e in array_too g q y m.are r (does_too d m.same q (suc q))
    said_of_same i (no_tag e) s q = record { far = q; weight = 1; says = no_tag (no_content_same s e) }
    said_of_same {a = a} i (tagged {m = m} e n d) s q =
        let c = content_same s e in
        let t = numbers_too n q in
        lift (λ b v g. record { weight = suc (t.weight + v); holds = tagged c.is t.says g }) a (said_of_same (h.plain m) d c.same (suc q))
    said_of_same i (other_tag e n) s q = let c = content_same s e in let t = numbers_too n q in record { far = q; weight = suc t.weight; says = other_tag c.is t.says }
    said_of_same i (no_simple e) s q = record { far = q; weight = 1; says = no_simple (sym (number_same s) ∙ e) }
    said_of_same i (simple_such {m = m} e d) s q = let t = said_of_same (h.plain m) d same_uint q in record { weight = suc t.weight; says = simple_such (sym (number_same s) ∙ e) t.says }
    said_of_same i (other_simple {m = m} e d) s q = let t = said_of_same (h.plain m) d same_uint q in record { far = q; weight = suc t.weight; says = other_simple (sym (number_same s) ∙ e) t.says }
    said_of_same i (no_map e) s q = record { far = q; weight = 1; says = no_map (no_pairs_same s e) }
    said_of_same {a = a} i (map e d) s q =
        let m = pairs_same s e in
        lift (λ b v g. record { weight = suc v; holds = map m.are g }) a (maps_too d m.same q both_no)
    said_of_same i (left_no {m = m} d) s q = let t = said_of_same (h.plain m) d s q in record { far = t.far; weight = suc t.weight; says = left_no t.says }
    said_of_same {a = a} i (left_yes {m = m} {n = n} d e) s q =
        let t = said_of_same (h.plain m) d s q in
        lift (λ b v g. record { weight = suc (t.weight + v); holds = left_yes t.says g }) a (said_of_same (h.plain n) e s q)
    said_of_same i (none_such {m = m} d) s q = let t = said_of_same (h.plain m) d s q in record { far = t.far; weight = suc t.weight; says = none_such t.says }
    said_of_same i (such_passed {m = m} {t = t} d e) s q = let g = said_of_same (h.plain m) d s q in record { weight = _; says = such_passed g.says (sym (test_same t i s) ∙ e) }
    said_of_same i (such_missed {m = m} {t = t} d e) s q = let g = said_of_same (h.plain m) d s q in record { far = q; weight = _; says = such_missed g.says (sym (test_same t i s) ∙ e) }
    said_of_same i (holder_no {m = m} d) s q = let t = said_of_same (h.plain m) d s q in record { far = t.far; weight = suc t.weight; says = holder_no t.says }
    said_of_same i (no_string {m = m} d e) s q = let t = said_of_same (h.plain m) d s q in record { far = q; weight = suc t.weight; says = no_string t.says (sym (bytes_same s) ∙ e) }
    said_of_same i (holds_nothing {m = m} d e j) s q = let t = said_of_same (h.plain m) d s q in record { far = q; weight = suc t.weight; says = holds_nothing t.says (sym (bytes_same s) ∙ e) j }
    -- What a byte string holds is the same item in both, at the same places.
    said_of_same i (held_yes {m = m} {w = w} d e j g) s q = let t = said_of_same (h.plain m) d s q in record { weight = suc (t.weight + w); says = held_yes t.says (sym (bytes_same s) ∙ e) j g }
    said_of_same i (held_no {m = m} {w = w} d e j g) s q = let t = said_of_same (h.plain m) d s q in record { far = q; weight = suc (t.weight + w); says = held_no t.says (sym (bytes_same s) ∙ e) j g }

    maps_too : {ess : List (List (MapEntry N))} {p w : ℕ} {ps qs : Pairs} {sofar other a : Answer} → Maps l ess p ps sofar a w → ArePairsSame ps qs → (q : ℕ) → AlikeAnswers sofar other → SaysToo (Maps l ess q qs other) a
    maps_too no_alternative s q both_yes = record { weight = 0; says = no_alternative }
    maps_too no_alternative s q (both_no {q = r}) = record { far = r; weight = 0; says = no_alternative }
    maps_too {p = p} {a = a} (alternative {es = es} {fs = fs} d e) s q o =
        let t = sorts_too d s in
        let u = sorts_at t.sortable (suc q) in
        let alike = alternative_alike es p q fs u.fates (tally_on t.tally u.tally) in
        lift (λ b v g. record { weight = suc u.weight + v; holds = alternative u.sorts g }) a (maps_too e s q (either_alike o alike))

    sorts_too : {es : List (MapEntry N)} {p w : ℕ} {ps qs : Pairs} {fs : List Fate} → Sorts l es p ps fs w → ArePairsSame ps qs → SortsToo es qs fs
    sorts_too all_sorted no_more = record { fates = []; sortable = no_pair; tally = tally_itself [] }
    sorts_too (sort {f = f} d e) (one_more s t a r) =
        let rest = sorts_too e r in
        let all = sort_added a (λ q. belongs_too d s t q) rest.sortable in
        record { fates = all.fates; sortable = all.sortable; tally = tally_on (tally_more (alike_fate f) rest.tally) all.tally }

    belongs_too : {es : List (MapEntry N)} {p w : ℕ} {k x m y : Value} {f : Fate} → Belongs l es p k x f w → IsSame k m → IsSame x y → (q : ℕ) → BelongsToo es q m y f
    belongs_too nowhere s t q = record { fate = Stray q; weight = 0; belongs = nowhere; like = both_stray }
    belongs_too (passed_over {e = e} i b) s t q =
        let r = belongs_too b s t q in
        record { fate = r.fate; weight = r.weight; belongs = passed_over (sym (passed_alike l.counting h.keys e.key_type s) ∙ i) r.belongs; like = r.like }
    belongs_too (asked {e = e} i b) s t q =
        let r = asked_too b s t q in
        record { fate = r.fate; weight = entry_cost l.counting + r.weight; belongs = asked (sym (passed_alike l.counting h.keys e.key_type s) ∙ i) r.belongs; like = r.like }

    asked_too : {e : MapEntry N} {es : List (MapEntry N)} {p w : ℕ} {k x m y : Value} {f : Fate} → BelongsAsked l e es p k x f w → IsSame k m → IsSame x y → (q : ℕ) → AskedToo e es q m y f
    asked_too (other_key {e = e} d b) s t q =
        let u = said_of_same (h.plain e.key_type) d s q in
        let r = belongs_too b s t q in
        record { fate = r.fate; weight = u.weight + r.weight; belongs = other_key u.says r.belongs; like = r.like }
    asked_too {m = m} (here {e = e} {es = es} d b) s t q =
        let u = said_of_same (h.plain e.key_type) d s q in
        let v = said_of_same (h.plain e.value_type) b t (q + place_count m) in
        record { fate = BelongsTo (length es) Yes; weight = u.weight + v.weight; belongs = here u.says v.says; like = both_belong both_yes }
    asked_too {m = m} (cut_here {e = e} {es = es} c d b) s t q =
        let u = said_of_same (h.plain e.key_type) d s q in
        let v = said_of_same (h.plain e.value_type) b t (q + place_count m) in
        record { fate = BelongsTo (length es) (No v.far); weight = u.weight + v.weight; belongs = cut_here c u.says v.says; like = both_belong both_no }
    asked_too {m = m} (handed_on {e = e} c d b g) s t q =
        let u = said_of_same (h.plain e.key_type) d s q in
        let v = said_of_same (h.plain e.value_type) b t (q + place_count m) in
        let r = belongs_too g s t q in
        record { fate = r.fate; weight = u.weight + (v.weight + r.weight); belongs = handed_on c u.says v.says r.belongs; like = r.like }

    numbers_too : {t : TagNumber N} {p n w : ℕ} {a : Answer} → Numbers l t p n a w → (q : ℕ) → SaysToo (Numbers l t q n) a
    numbers_too whichever q = record { weight = 0; says = whichever }
    numbers_too this_number q = record { weight = 0; says = this_number }
    numbers_too (other_number e) q = record { far = q; weight = 0; says = other_number e }
    numbers_too {a = a} (by_head {m = m} d) q = lift (λ b v g. record { weight = v; holds = by_head g }) a (said_of_same (h.plain m) d same_uint q)

    chooses_too : {ms : List N} {p far w : ℕ} {x y : Value} {a : Answer} → Chooses l ms p x far a w → IsSame x y → (q near : ℕ) → SaysToo (Chooses l ms q y near) a
    chooses_too none_left s q near = record { far = near; weight = 0; says = none_left }
    chooses_too (this_one {m = m} d) s q near = let t = said_of_same (h.plain m) d s q in record { weight = t.weight; says = this_one t.says }
    chooses_too {a = a} (not_this {m = m} d e) s q near =
        let t = said_of_same (h.plain m) d s q in
        lift (λ b v g. record { weight = t.weight + v; holds = not_this t.says g }) a (chooses_too e s q (max near t.far))

    does_too : {f : Group N G} {p q w : ℕ} {xs ys : List Value} {r : Reply} → Does l f p q xs r w → AllSame xs ys → (o i : ℕ) → DoesToo (Does l f o i ys) r
    does_too missing none o i = record { far = o; weight = 1; does = missing }
    does_too (matches {m = m} d) (both {y = y} {ys = ys} s ss) o i = let t = said_of_same (h.plain m) d s i in record { rest = ys; same = ss; next = i + place_count y; far = o; weight = suc t.weight; does = matches t.says }
    does_too (differs {m = m} d) (both s ss) o i = let t = said_of_same (h.plain m) d s i in record { far = max o t.far; weight = suc t.weight; does = differs t.says }
    does_too {r = r} (group_ref d) ss o i = lift_reply (λ b v g. record { weight = suc v; holds = group_ref g }) r (does_too d ss o i)
    does_too {r = r} (sequence d) ss o i = lift_reply (λ b v g. record { weight = suc v; holds = sequence g }) r (each_too d ss o i o)
    does_too {r = r} (alternatives d) ss o i = lift_reply (λ b v g. record { weight = suc v; holds = alternatives g }) r (first_too d ss o i o)
    does_too {r = r} (repeat d) ss o i = lift_reply (λ b v g. record { weight = suc v; holds = repeat g }) r (repeats_too d ss o i o)

    each_too : {gs : List G} {p q far w : ℕ} {xs ys : List Value} {r : Reply} → DoesEach l gs p q xs far r w → AllSame xs ys → (o i near : ℕ) → DoesToo (DoesEach l gs o i ys near) r
    each_too {ys = ys} all_done ss o i near = record { rest = ys; same = ss; next = i; far = near; weight = 0; does = all_done }
    each_too (one_fails d) ss o i near = let t = does_too d ss o i in record { far = max near t.far; weight = t.weight; does = one_fails t.does }
    each_too {r = r} (and_then d e) ss o i near =
        let t = does_too d ss o i in
        lift_reply (λ b v g. record { weight = t.weight + v; holds = and_then t.does g }) r (each_too e t.same o t.next (max near t.far))

    first_too : {gs : List G} {p q far w : ℕ} {xs ys : List Value} {r : Reply} → DoesFirst l gs p q xs far r w → AllSame xs ys → (o i near : ℕ) → DoesToo (DoesFirst l gs o i ys near) r
    first_too all_fail ss o i near = record { far = near; weight = 0; does = all_fail }
    first_too (one_takes d) ss o i near = let t = does_too d ss o i in record { rest = t.rest; same = t.same; next = t.next; far = max near t.far; weight = t.weight; does = one_takes t.does }
    first_too {r = r} (or_else d e) ss o i near =
        let t = does_too d ss o i in
        lift_reply (λ b v g. record { weight = t.weight + v; holds = or_else t.does g }) r (first_too e ss o i (max near t.far))

    repeats_too : {least : ℕ} {most : Most} {g : G} {p q far w : ℕ} {xs ys : List Value} {r : Reply} → Repeats l least most g p q xs far r w → AllSame xs ys → (o i near : ℕ) → DoesToo (Repeats l least most g o i ys near) r
    repeats_too {ys = ys} (full b) ss o i near = record { rest = ys; same = ss; next = i; far = near; weight = 0; does = full b }
    repeats_too (too_few b d) ss o i near = let t = does_too d ss o i in record { far = max near t.far; weight = t.weight; does = too_few b t.does }
    repeats_too {ys = ys} (enough b d) ss o i near = let t = does_too d ss o i in record { rest = ys; same = ss; next = i; far = max near t.far; weight = t.weight; does = enough b t.does }
    repeats_too {ys = ys} (empty_round b d e) ss o i near =
        let t = does_too d ss o i in
        record { rest = ys; same = ss; next = i; far = max near t.far; weight = t.weight; does = empty_round b t.does (sym (as_long t.same) ∙ (e ∙ as_long ss)) }
    repeats_too {r = r} (round b d n e) ss o i near =
        let t = does_too d ss o i in
        lift_reply (λ c v g. record { weight = t.weight + v; holds = round b t.does (λ m. n (as_long t.same ∙ (m ∙ sym (as_long ss)))) g }) r (repeats_too e t.same o t.next (max near t.far))
