-- Entries of items one after the other, and the entry of an item over those of what is below it.
use Rattle.std.proofs.Common.{◌≡◌, ℕ, suc, ◌+◌, ◌<◌, ◌≤◌, false, List, [], ◌∷◌, ◌++◌, length, take, drop, get_or, refl, sym, ap, ◌∙◌, subst, inl, inr, arith, append_assoc, append-nil, length-append, length-drop, Option}
use Rattle.std.proofs.Math.ListN.{set}
use Rattle.std.proofs.Math.Seq.{take-set-lt}
use Rattle.std.proofs.lemmas.List.{take_more, set_at, length-take-le, get_or-set_same}
use Rattle.cbor_data.specs.Value.{Value, uint, nint, bytes, text, array, pairs, tag, simple, float, Values, no_values, value, Pairs, no_pairs, pair, place_count, values_place_count, pairs_place_count, places, values_places, pairs_places}
use Rattle.cbor_data.specs.Validity.{IsValid, IsRepeatedKeyAmong, IsRepeatedKeyAfter}
use Rattle.cbor_data.specs.Forms.{flat, meanings, pair_meanings, Spells}
use Rattle.cbor_data.proofs.Lemmas.{form_some, spelled_places}
use Rattle.item_nodes.specs.Apart.{has_parts, AreKeysApart, ArePartsValid, AreValuesValid}
use Rattle.read_items.specs.Whole.Parts.{IsItemAt, IsArrayAt, IsMapAt, IsTagAt}
use Rattle.read_items.proofs.OfWhole.Lemmas.{whole_front, deeper_front}
use Rattle.cbor_tape.specs.declared.entry.Entry.{Entry}
use Rattle.cbor_tape.specs.Tape.{IsEntryOf, AreEntriesOf, IsWholeTape}
use Rattle.cbor_tape.specs.Parts.{IsLeafAt, IsTapedAt, IsInsideTapedAt, AreMembersTapedAt, AreMapPairsTapedAt, IsContentTapedAt, next_at}

-- an item has as many places as are counted
mutual
  pub places_counted : (x : Value) → length (places x) ≡ place_count x
  places_counted (uint n) = refl
  places_counted (nint n) = refl
  places_counted (bytes bs) = refl
  places_counted (text bs) = refl
  places_counted (array xs) = ap suc (values_places_counted xs)
  places_counted (pairs ps) = ap suc (pairs_places_counted ps)
  places_counted (tag n x) = ap suc (places_counted x)
  places_counted (simple n) = refl
  places_counted (float w n) = refl

  pub values_places_counted : (xs : Values) → length (values_places xs) ≡ values_place_count xs
  values_places_counted no_values = refl
  values_places_counted (value x xs) = omega (arith, length-append (places x) (values_places xs), places_counted x, values_places_counted xs)

  pub pairs_places_counted : (ps : Pairs) → length (pairs_places ps) ≡ pairs_place_count ps
  pairs_places_counted no_pairs = refl
  pairs_places_counted (pair k v ps) =
      omega (arith, length-append (places k) (places v ++ pairs_places ps), length-append (places v) (pairs_places ps), places_counted k, places_counted v, pairs_places_counted ps)

-- the first of its places is the item
pub first_place : (x : Value) → (below : List Value) × (places x ≡ x ∷ below)
first_place (uint n) = ([], refl)
first_place (nint n) = ([], refl)
first_place (bytes bs) = ([], refl)
first_place (text bs) = ([], refl)
first_place (array xs) = (values_places xs, refl)
first_place (pairs ps) = (pairs_places ps, refl)
first_place (tag n x) = (places x, refl)
first_place (simple n) = ([], refl)
first_place (float w n) = ([], refl)

some_place : (x : Value) → 0 < place_count x
some_place x = omega (arith, places_counted x, ap length (first_place x).1)

-- entries of the one items, and behind them those of the others
pub entries-append : (b : List ℕ) (p q : ℕ) (xs ys : List Value) (es fs : List Entry) → q ≡ p + length xs → AreEntriesOf b p xs es → AreEntriesOf b q ys fs → AreEntriesOf b p (xs ++ ys) (es ++ fs)
entries-append b p q [] ys [] fs is h k = let same : q ≡ p = omega arith in subst (λ n. AreEntriesOf b n ys fs) same k
entries-append b p q (x ∷ xs) ys (e ∷ es) fs is h k = let next : q ≡ suc p + length xs = omega arith in (h.0, entries-append b (suc p) q xs ys es fs next h.1 k)
entries-append b p q [] ys (e ∷ es) fs is h k = absurd h
entries-append b p q (x ∷ xs) ys [] fs is h k = absurd h

-- an entry that is put before those behind it, which are there
put_before : (old mid : List Entry) (p next : ℕ) (e : Entry) (below : List Entry) → p < length old → p < next → take next mid ≡ take (suc p) old ++ below → take next (set mid p e) ≡ take p old ++ e ∷ below
put_before old mid p next e below in_old before is =
    let d = get_or old p e in
    let one : take (suc p) old ≡ take p old ++ d ∷ [] = let same : suc p ≡ p + 1 = omega arith in ap (λ n. take n old) same ∙ take_more old p e in_old in
    let front : take next mid ≡ take p old ++ d ∷ below = is ∙ (ap (λ es. es ++ below) one ∙ append_assoc (take p old) (d ∷ []) below) in
    take-set-lt next mid p e before ∙ (ap (λ es. set es p e) front ∙ set_at (take p old) d below e p (length-take-le p old (omega arith)))

-- an item that is in b has its bytes there, one at least, and no more places than bytes
record Spans (b : List ℕ) (at end : ℕ) (x : Value) : Type 0 where
  within : end ≤ length b
  on : at < end
  few : at + place_count x ≤ end

item_spans : (d : ℕ) (b : List ℕ) (at end : ℕ) (x : Value) → IsItemAt d b at x end → Spans b at end x
item_spans d b at end x h =
    let f = h.written in
    let spelled : Spells x (flat f) = record { written = f; ok = h.ok; text = h.text; is = refl; meant = h.meant } in
    let few : place_count x ≤ length (flat f) = spelled_places x (flat f) spelled in
    let some : 0 < length (flat f) = form_some f in
    let len : length (drop at b) ≡ length (flat f) + length (drop end b) = ap length h.is ∙ length-append (flat f) (drop end b) in
    record {
      within = omega (arith, len, h.placed, length-drop at b, length-drop end b);
      on = omega (arith, h.placed);
      few = omega (arith, h.placed);
    }

-- an item has one place more than there are below it
below_counted : (x : Value) (below : List Value) → places x ≡ x ∷ below → suc (length below) ≡ place_count x
below_counted x below all = sym (ap length all) ∙ places_counted x

-- what is read of the inside goes no further on the tape than in the bytes
pub inside_within : (d : ℕ) (b : List ℕ) (at place end next : ℕ) (old new : List Entry) → place ≤ at + 1 → IsInsideTapedAt d b at place old new end next → next ≤ length b
inside_within d b at place end next old new few t =
    let s = item_spans d b at end t.value t.there in
    omega (arith, t.counted, below_counted t.value t.below t.all, s.few, s.within)

-- the item with its entry
pub over : (d : ℕ) (b : List ℕ) (at place end next : ℕ) (old mid new : List Entry) → place < length old → length old ≡ length mid → IsInsideTapedAt d b at (place + 1) old mid end next → new ≡ set mid place (record { head = at; next = next }) → IsTapedAt d b at place old new end (next_at new place)
over d b at place end next old mid new in_old same_len t put =
    let e : Entry = record { head = at; next = next } in
    let f = t.there.written in
    let count : next ≡ place + place_count t.value = omega (arith, t.counted, below_counted t.value t.below t.all) in
    let same : place + 1 ≡ suc place = omega arith in
    let read : next ≡ next_at new place = ap (λ r. r.next) (sym (get_or-set_same mid place e (record { head = 0; next = 0 }) (omega arith)) ∙ ap (λ es. get_or es place (record { head = 0; next = 0 })) (sym put)) in
    let here : IsEntryOf b place t.value e = record {
      spelling = flat f;
      after = drop end b;
      spells = record { written = f; ok = t.there.ok; text = t.there.text; is = refl; meant = t.there.meant };
      is = t.there.is;
      next = count;
    } in
    subst (IsTapedAt d b at place old new end) read (record {
      value = t.value;
      there = t.there;
      valid = t.valid;
      counted = count;
      entries = e ∷ t.entries;
      stand = subst (λ xs. AreEntriesOf b place xs (e ∷ t.entries)) (sym t.all) (here, subst (λ n. AreEntriesOf b n t.below t.entries) same t.stand);
      tape = ap (take next) put ∙ put_before old mid place next e t.entries in_old (omega (arith, t.counted)) (t.tape ∙ ap (λ n. take n old ++ t.entries) same);
    })

-- what holds of an item that has no parts
record IsAlone (x : Value) : Type 0 where
  only : places x ≡ x ∷ []
  valid : IsValid x

alone : (x : Value) → has_parts x ≡ false → IsAlone x
alone (uint n) h = record { only = refl; valid = λ i r. r }
alone (nint n) h = record { only = refl; valid = λ i r. r }
alone (bytes bs) h = record { only = refl; valid = λ i r. r }
alone (text bs) h = record { only = refl; valid = λ i r. r }
alone (array xs) h = absurd (cc)
alone (pairs ps) h = absurd (cc)
alone (tag n x) h = absurd (cc)
alone (simple n) h = record { only = refl; valid = λ i r. r }
alone (float w n) h = record { only = refl; valid = λ i r. r }

-- what is no deeper than the one is no deeper than the other
deeper : (d e : ℕ) (b : List ℕ) (at end : ℕ) (x : Value) → d ≤ e → IsItemAt d b at x end → IsItemAt e b at x end
deeper d e b at end x less h = record { written = h.written; ok = h.ok; text = h.text; meant = h.meant; shallow = omega (arith, h.shallow); placed = h.placed; is = h.is }

pub leaf_inside : (d : ℕ) (b : List ℕ) (at place end : ℕ) (old : List Entry) → IsLeafAt b at end → IsInsideTapedAt d b at place old old end place
leaf_inside d b at place end old l =
    let x = l.value in
    let a : IsAlone x = alone x l.plain in
    record {
      value = x;
      there = deeper 0 d b at end x (omega arith) l.there;
      valid = a.valid;
      below = [];
      all = a.only;
      counted = omega arith;
      entries = [];
      stand = tt;
      tape = sym (append-nil (take place old));
    }

members_valid : (xs : Values) → AreValuesValid xs → (i : ℕ) → IsRepeatedKeyAmong xs i → ⊥
members_valid no_values v i h = h
members_valid (value x xs) v i (inl h) = v.0 i h
members_valid (value x xs) v i (inr h) = members_valid xs v.1 h.0 h.2

after_valid : (earlier : List Value) (ps : Pairs) → AreKeysApart earlier ps → ArePartsValid ps → (i : ℕ) → IsRepeatedKeyAfter earlier ps i → ⊥
after_valid earlier no_pairs a v i h = h
after_valid earlier (pair k w ps) a v i (inl h) = a.0 h.1
after_valid earlier (pair k w ps) a v i (inr (inl h)) = v.0 i h
after_valid earlier (pair k w ps) a v i (inr (inr (inl h))) = v.1.0 h.0 h.2
after_valid earlier (pair k w ps) a v i (inr (inr (inr h))) = after_valid (k ∷ earlier) ps a.1 v.1.1 h.0 h.2

-- the array, the map and the tag, without their tapes

pub array_there : (d : ℕ) (count : Option ℕ) (b : List ℕ) (start place end next : ℕ) (old new : List Entry) → (s : AreMembersTapedAt d count b start place old new end next) → IsArrayAt d count b start (array (meanings s.written)) end
array_there d count b start place end next old new s = record { written = s.written; stop = s.stop; some = s.some; there = s.there.there; ends = s.ends; placed = s.placed; meant = refl }

pub map_there : (d : ℕ) (count : Option ℕ) (b : List ℕ) (start place end next : ℕ) (old new : List Entry) → (s : AreMapPairsTapedAt d count b start place old new end next) → IsMapAt d count b start (pairs (pair_meanings s.written)) end
map_there d count b start place end next old new s = record { written = s.written; stop = s.stop; some = s.some; there = s.there.there; ends = s.ends; placed = s.placed; meant = refl }

pub tag_there : (d n : ℕ) (b : List ℕ) (start place end next : ℕ) (old new : List Entry) → (s : IsContentTapedAt d b start place old new end next) → IsTagAt d n b start (tag n s.there.value) end
tag_there d n b start place end next old new s = record { content = s.there.value; some = s.some; there = s.there.there; meant = refl }

-- and with them

pub array_inside : (d : ℕ) (count : Option ℕ) (b : List ℕ) (at start place end next : ℕ) (old new : List Entry) → (s : AreMembersTapedAt d count b start place old new end next) → IsItemAt d b at (array (meanings s.written)) end → IsInsideTapedAt d b at place old new end next
array_inside d count b at start place end next old new s h =
    let t = s.there in
    let xs = meanings s.written in
    record {
      value = array xs;
      there = h;
      valid = λ i r. members_valid xs t.valid r.0 r.2;
      below = values_places xs;
      all = refl;
      counted = omega (arith, t.counted, values_places_counted xs);
      entries = t.entries;
      stand = t.stand;
      tape = t.tape;
    }

pub map_inside : (d : ℕ) (count : Option ℕ) (b : List ℕ) (at start place end next : ℕ) (old new : List Entry) → (s : AreMapPairsTapedAt d count b start place old new end next) → IsItemAt d b at (pairs (pair_meanings s.written)) end → IsInsideTapedAt d b at place old new end next
map_inside d count b at start place end next old new s h =
    let t = s.there in
    let ps = pair_meanings s.written in
    record {
      value = pairs ps;
      there = h;
      valid = λ i r. after_valid [] ps s.apart t.valid r.0 r.2;
      below = pairs_places ps;
      all = refl;
      counted = omega (arith, t.counted, pairs_places_counted ps);
      entries = t.entries;
      stand = t.stand;
      tape = t.tape;
    }

pub tag_inside : (d n : ℕ) (b : List ℕ) (at start place end next : ℕ) (old new : List Entry) → (s : IsContentTapedAt d b start place old new end next) → IsItemAt d b at (tag n s.there.value) end → IsInsideTapedAt d b at place old new end next
tag_inside d n b at start place end next old new s h =
    let t = s.there in
    record {
      value = tag n t.value;
      there = h;
      valid = λ i r. t.valid r.0 r.2;
      below = places t.value;
      all = refl;
      counted = omega (arith, t.counted, places_counted t.value);
      entries = t.entries;
      stand = t.stand;
      tape = t.tape;
    }

-- what is read moves on, and no faster on the tape than in the bytes
pub record Moves (b : List ℕ) (at place end next : ℕ) : Type 0 where
  pub within : end ≤ length b
  pub on : at < end
  pub slower : next + at ≤ place + end

pub taped_moves : (d : ℕ) (b : List ℕ) (at place end next : ℕ) (old new : List Entry) → IsTapedAt d b at place old new end next → Moves b at place end next
taped_moves d b at place end next old new t =
    let s = item_spans d b at end t.value t.there in
    record {
      within = s.within;
      on = s.on;
      slower = omega (arith, t.counted, s.few);
    }

-- the front of bytes
pub whole_taped : (d e : ℕ) (b : List ℕ) (old new : List Entry) (end next : ℕ) → d ≤ e → IsTapedAt d b 0 0 old new end next → IsWholeTape e b new end
whole_taped d e b old new end next less t =
    let count : next ≡ place_count t.value = omega (arith, t.counted) in
    record {
      value = t.value;
      whole = deeper_front d e b t.value end less (whole_front d b t.value end t.there);
      valid = t.valid;
      stands = subst (AreEntriesOf b 0 (places t.value)) (sym t.tape ∙ ap (λ n. take n new) count) t.stand;
    }
