-- The entries of pairs, from one pair to the next.
use Rattle.std.proofs.Common.{◌≡◌, ℕ, suc, ◌+◌, ◌<◌, ◌≤◌, List, [], ◌∷◌, ◌++◌, length, take, drop, get_or, refl, sym, ap, ◌∙◌, subst, arith, length-drop, length-take}
use Rattle.std.proofs.lemmas.List.{drop-drop, drop_all, get_or-drop, get_or-take}
use Rattle.std.specs.Cmp.Lexicographic.{slice_cmp}
use Rattle.std.specs.Ordering.{nat_cmp}
use Rattle.std.specs.declared.cmp.Ordering.TheVariants.{Equal}
use Rattle.cbor_data.specs.Value.{Value, Pairs, no_pairs, pair, places, pairs_places}
use Rattle.cbor_tape.specs.declared.entry.Entry.{Entry}
use Rattle.cbor_tape.specs.Tape.{IsEntryOf, AreEntriesOf}
use Rattle.cbor_tape.specs.Keys.{mark, key_marks, AreOther, ArePairsOn, IsKeyAt, IsNext, IsPairOn}
use Rattle.cbor_tape.proofs.Entries.{first_place, places_counted}
use Rattle.cbor_tape.proofs.Marks.{differing, one_mark, spelled_key}

-- the entries behind those of some items
entries-drop : (b : List ℕ) (p : ℕ) (xs ys : List Value) (es : List Entry) → AreEntriesOf b p (xs ++ ys) es → AreEntriesOf b (p + length xs) ys (drop (length xs) es)
entries-drop b p [] ys es h = let same : p ≡ p + 0 = omega arith in subst (λ n. AreEntriesOf b n ys es) same h
entries-drop b p (x ∷ xs) ys [] h = absurd h
entries-drop b p (x ∷ xs) ys (e ∷ es) h =
    let same : suc p + length xs ≡ p + suc (length xs) = omega arith in
    subst (λ n. AreEntriesOf b n ys (drop (length xs) es)) same (entries-drop b (suc p) xs ys es h.1)

first_entry : (b : List ℕ) (p : ℕ) (x : Value) (xs : List Value) (es : List Entry) (d : Entry) → AreEntriesOf b p (x ∷ xs) es → IsEntryOf b p x (get_or es 0 d)
first_entry b p x xs [] d h = absurd h
first_entry b p x xs (e ∷ es) d h = h.0

-- an item has an entry on the tape, and behind those of what is below it are those of others
record AreOn (b : List ℕ) (t : List Entry) (place last : ℕ) (x : Value) (others : List Value) (e : Entry) : Type 0 where
  here : IsEntryOf b place x e
  there : AreEntriesOf b e.next others (drop e.next (take last t))

item_on : (b : List ℕ) (t : List Entry) (place last : ℕ) (x : Value) (others : List Value) (d : Entry) → place < last → AreEntriesOf b place (places x ++ others) (drop place (take last t)) → AreOn b t place last x others (get_or t place d)
item_on b t place last x others d before h =
    let e = get_or t place d in
    let es = drop place (take last t) in
    let f = first_place x in
    let same : place + 0 ≡ place = omega arith in
    let first : get_or es 0 d ≡ e = get_or-drop place (take last t) 0 d ∙ (get_or-take last t (place + 0) d (omega arith) ∙ ap (λ n. get_or t n d) same) in
    let here : IsEntryOf b place x e = subst (IsEntryOf b place x) first (first_entry b place x (f.0 ++ others) es d (subst (λ xs. AreEntriesOf b place (xs ++ others) es) f.1 h)) in
    let next : place + length (places x) ≡ e.next = omega (arith, here.next, places_counted x) in
    record {
      here = here;
      there = subst (λ n. AreEntriesOf b n others (drop n (take last t))) next
          (subst (λ fs. AreEntriesOf b (place + length (places x)) others fs) (drop-drop (length (places x)) place (take last t)) (entries-drop b place (places x) others es h));
    }

-- the key of a pair, and the place after it
pub pair_there : (b : List ℕ) (t : List Entry) (place last : ℕ) (d : Entry) → place < last → (get_or t place d).next < last → IsPairOn b t place last (get_or t place d).head (get_or t (get_or t place d).next d).next
pair_there b t place last d before inside key v ps h =
    let e = get_or t place d in
    let key_on = item_on b t place last key (places v ++ pairs_places ps) d before h in
    let value_on = item_on b t e.next last v (pairs_places ps) d inside key_on.there in
    (spelled_key b e.head key key_on.here.spelling key_on.here.after key_on.here.spells key_on.here.is, value_on.there)

-- a pair whose key has another mark, and the place after it
pub next_pair : (b : List ℕ) (t : List Entry) (place last : ℕ) (m n : List ℕ) (head next : ℕ) → IsPairOn b t place last head next → IsKeyAt b head n → (slice_cmp nat_cmp m n ≡ Equal → ⊥) → IsNext b t place last m next
next_pair b t place last m n head next on there apart key v ps h =
    let w = on key v ps h in
    (λ same. differing m n apart (one_mark b head n (mark key) there w.0 ∙ same), w.1)

-- if what is left has other marks, all have
abbrev pub AreOtherIf : List ℕ → List Entry → ℕ → ℕ → ℕ → List ℕ → Type 0
AreOtherIf b t first place last m = (ps : Pairs) → ArePairsOn b t first last ps → (qs : Pairs) × ArePairsOn b t place last qs × (AreOther m (key_marks qs) → AreOther m (key_marks ps))

-- no pair is left where the places end
pub no_marks : (b : List ℕ) (t : List Entry) (place last : ℕ) (qs : Pairs) → last ≤ place → ArePairsOn b t place last qs → key_marks qs ≡ []
no_marks b t place last no_pairs end on = refl
no_marks b t place last (pair k v qs) end on =
    let none : drop place (take last t) ≡ [] = drop_all place (take last t) (omega (arith, length-take last t)) in
    let f = first_place k in
    let held : AreEntriesOf b place (k ∷ (f.0 ++ (places v ++ pairs_places qs))) [] = subst (λ xs. AreEntriesOf b place (xs ++ (places v ++ pairs_places qs)) []) f.1 (subst (AreEntriesOf b place (places k ++ (places v ++ pairs_places qs))) none on) in
    absurd held

pub all_other : (b : List ℕ) (t : List Entry) (first place last : ℕ) (m : List ℕ) → AreOtherIf b t first place last m → last ≤ place → (ps : Pairs) → ArePairsOn b t first last ps → AreOther m (key_marks ps)
all_other b t first place last m h end ps on =
    let s = h ps on in
    s.2 (subst (AreOther m) (sym (no_marks b t place last s.0 end s.1)) tt)

-- a pair is left where they do not
pub some_left : (b : List ℕ) (t : List Entry) (place last : ℕ) (es : List Entry) (qs : Pairs) → es ≡ drop place (take last t) → 0 < length es → ArePairsOn b t place last qs → qs ≡ no_pairs → ⊥
some_left b t place last [] qs is some on none = omega arith
some_left b t place last (e ∷ es) qs is some on none =
    subst (AreEntriesOf b place []) (sym is) (subst (ArePairsOn b t place last) none on)

pub one_further : (b : List ℕ) (t : List Entry) (first place next last : ℕ) (m : List ℕ) → AreOtherIf b t first place last m → place < last → last ≤ length t → IsNext b t place last m next → AreOtherIf b t first next last m
one_further b t first place next last m h before within step ps on = by (h ps on).0 (h ps on).1 (h ps on).2
  where
    by : (qs : Pairs) → ArePairsOn b t place last qs → (AreOther m (key_marks qs) → AreOther m (key_marks ps)) → (rs : Pairs) × ArePairsOn b t next last rs × (AreOther m (key_marks rs) → AreOther m (key_marks ps))
    by no_pairs there all = absurd (some_left b t place last (drop place (take last t)) no_pairs refl (omega (arith, length-drop place (take last t), length-take last t)) there refl)
    by (pair k v qs) there all = let s = step k v qs there in (qs, s.1, λ others. all (s.0, others))
