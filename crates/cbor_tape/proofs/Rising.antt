-- Keys that are put in order.
use Rattle.std.proofs.Common.{Contains, ◌≡◌, ℕ, zero, suc, ◌+◌, ◌<◌, inl, inr, List, [], ◌∷◌, ◌++◌, length, Option, Some, None, slice_get, refl, sym, ap, ◌∙◌, subst, arith}
use Rattle.std.specs.List.{AllByRecursion}
use Rattle.std.specs.List.Sorted.{IsPermutation}
use Rattle.std.proofs.lemmas.List.Sorted.{Contains-permutation, IsPermutation-sym}
use Rattle.lists.proofs.Lemmas.{contains_at, ordered, place_of, same_some}
use Rattle.cbor_data.specs.Value.{Value, Pairs, no_pairs, pair}
use Rattle.cbor_data.specs.Validity.{IsOneOf}
use Rattle.item_nodes.specs.Apart.{AreKeysApart}
use Rattle.cbor_tape.specs.declared.entry.Entry.{Entry}
use Rattle.cbor_tape.specs.Keys.{mark, key_marks, AreApart, AreKeys, AreListed, AreOther, IsAbove, IsHighest, IsKeyAt}
use Rattle.cbor_tape.proofs.Marks.{one_mark, same_mark}

-- marks by their numbers

other_at : (x : List ℕ) (ms : List (List ℕ)) (j : ℕ) → AreOther x ms → slice_get ms j ≡ Some x → ⊥
other_at x [] j o e = cc
other_at x (m ∷ ms) zero o e = o.0 (same_some e)
other_at x (m ∷ ms) (suc j) o e = other_at x ms j o.1 e

apart_at : (ms : List (List ℕ)) (i j : ℕ) (m : List ℕ) → AreApart ms → i < j → slice_get ms i ≡ Some m → slice_get ms j ≡ Some m → ⊥
apart_at [] i j m a l e f = cc
apart_at (x ∷ ms) i zero m a l e f = absurd (omega (arith, l))
apart_at (x ∷ ms) zero (suc j) m a l e f = other_at x ms j a.0 (f ∙ sym e)
apart_at (x ∷ ms) (suc i) (suc j) m a l e f = apart_at ms i j m a.1 (omega (arith, l)) e f

others_by : (x : List ℕ) (ms : List (List ℕ)) → ((j : ℕ) → slice_get ms j ≡ Some x → ⊥) → AreOther x ms
others_by x [] h = tt
others_by x (m ∷ ms) h = ((λ (same : m ≡ x). h 0 (ap Some same)), others_by x ms (λ j e. h (suc j) e))

apart_by : (ms : List (List ℕ)) → ((i j : ℕ) (m : List ℕ) → i < j → slice_get ms i ≡ Some m → slice_get ms j ≡ Some m → ⊥) → AreApart ms
apart_by [] h = tt
apart_by (x ∷ ms) h = (others_by x ms (λ j e. h 0 (suc j) x (omega arith) refl e), apart_by ms (λ i j m l e f. h (suc i) (suc j) m (omega (arith, l)) e f))

pub apart_with : (ms : List (List ℕ)) (m : List ℕ) → AreApart ms → AreOther m ms → AreApart (ms ++ m ∷ [])
apart_with [] m a o = (tt, tt)
apart_with (x ∷ ms) m a o = (other_with x ms m a.0 (λ same. o.0 (sym same)), apart_with ms m a.1 o.1)
  where
    other_with : (x : List ℕ) (ms : List (List ℕ)) (m : List ℕ) → AreOther x ms → (m ≡ x → ⊥) → AreOther x (ms ++ m ∷ [])
    other_with x [] m o n = (n, tt)
    other_with x (y ∷ ms) m o n = (o.0, other_with x ms m o.1 n)

-- keys by their numbers

-- the key of this number, with its mark
record IsListedAt (b : List ℕ) (es : List Entry) (i j : ℕ) (m : List ℕ) : Type 0 where
  entry : Entry
  there : slice_get es j ≡ Some entry
  key : IsKeyAt b entry.head m
  number : entry.next ≡ i + j

listed_at : (b : List ℕ) (i : ℕ) (ms : List (List ℕ)) (es : List Entry) (j : ℕ) (m : List ℕ) → AreListed b i ms es → slice_get ms j ≡ Some m → IsListedAt b es i j m
listed_at b i [] es j m h e = cc
listed_at b i (x ∷ ms) [] j m h e = absurd h
listed_at b i (x ∷ ms) (d ∷ es) zero m h e = record { entry = d; there = refl; key = subst (IsKeyAt b d.head) (same_some e) h.0; number = omega (arith, h.1) }
listed_at b i (x ∷ ms) (d ∷ es) (suc j) m h e =
    let w = listed_at b (suc i) ms es j m h.2 e in
    record { entry = w.entry; there = w.there; key = w.key; number = omega (arith, w.number) }

mark_there : (b : List ℕ) (ms : List (List ℕ)) (es : List Entry) (j : ℕ) (e : Entry) → AreKeys b ms es → slice_get es j ≡ Some e → (m : List ℕ) × (slice_get ms j ≡ Some m) × IsKeyAt b e.head m
mark_there b ms [] j e h f = cc
mark_there b [] (d ∷ es) j e h f = absurd h
mark_there b (x ∷ ms) (d ∷ es) zero e h f = (x, refl, subst (λ (z : Entry). IsKeyAt b z.head x) (same_some f) h.0)
mark_there b (x ∷ ms) (d ∷ es) (suc j) e h f = mark_there b ms es j e h.1 f

-- the last key, and those before it
keys_split : (b : List ℕ) (ms : List (List ℕ)) (es : List Entry) (e : Entry) → AreKeys b ms (es ++ e ∷ []) → (ns : List (List ℕ)) × (m : List ℕ) × (ms ≡ ns ++ m ∷ []) × AreKeys b ns es × IsKeyAt b e.head m
keys_split b [] [] e h = absurd h
keys_split b [] (d ∷ es) e h = absurd h
keys_split b (m ∷ []) [] e h = ([], m, refl, tt, h.0)
keys_split b (m ∷ n ∷ ms) [] e h = absurd h.1
keys_split b (m ∷ ms) (d ∷ es) e h =
    let r = keys_split b ms es e h.1 in
    (m ∷ r.0, r.1, ap (λ ns. m ∷ ns) r.2, (h.0, r.3), r.4)

-- each entry of some that were listed is a key
listed_key : (b : List ℕ) (i : ℕ) (ms : List (List ℕ)) (es : List Entry) (j : ℕ) (e : Entry) → AreListed b i ms es → slice_get es j ≡ Some e → (m : List ℕ) × IsKeyAt b e.head m
listed_key b i ms [] j e h f = cc
listed_key b i [] (d ∷ es) j e h f = absurd h
listed_key b i (x ∷ ms) (d ∷ es) zero e h f = (x, subst (λ (z : Entry). IsKeyAt b z.head x) (same_some f) h.0)
listed_key b i (x ∷ ms) (d ∷ es) (suc j) e h f = listed_key b (suc i) ms es j e h.2 f

keys_from : (b : List ℕ) (es : List Entry) → ((e : Entry) → Contains es e → (m : List ℕ) × IsKeyAt b e.head m) → (ms : List (List ℕ)) × AreKeys b ms es
keys_from b [] h = ([], tt)
keys_from b (e ∷ es) h =
    let own = h e (contains_at (e ∷ es) 0 e refl) in
    let rest = keys_from b es (λ d in_es. let p = place_of es d in_es in h d (contains_at (e ∷ es) (suc p.0) d p.1)) in
    (own.0 ∷ rest.0, (own.1, rest.1))

pub listed_with : (b : List ℕ) (i : ℕ) (ms : List (List ℕ)) (es : List Entry) (m : List ℕ) (e : Entry) → AreListed b i ms es → IsKeyAt b e.head m → e.next ≡ i + length es → AreListed b i (ms ++ m ∷ []) (es ++ e ∷ [])
listed_with b i [] [] m e h k n = (k, omega (arith, n), tt)
listed_with b i [] (d ∷ es) m e h k n = absurd h
listed_with b i (x ∷ ms) [] m e h k n = absurd h
listed_with b i (x ∷ ms) (d ∷ es) m e h k n = (h.0, h.1, listed_with b (suc i) ms es m e h.2 k (omega (arith, n)))

-- What is apart when it is in order is apart as it was listed: two keys of one mark would be one entry, and so have one number.
pub apart_listed : (b : List ℕ) (ms : List (List ℕ)) (es sorted : List Entry) → AreListed b 0 ms es → IsPermutation es sorted → ((ns : List (List ℕ)) → AreKeys b ns sorted → AreApart ns) → AreApart ms
apart_listed b ms es sorted listed same order = apart_by ms never
  where
    found : (ns : List (List ℕ)) × AreKeys b ns sorted
    found = keys_from b sorted (λ e in_sorted.
        let p = place_of es e (Contains-permutation sorted es e (IsPermutation-sym es sorted same) in_sorted) in
        listed_key b 0 ms es p.0 e listed p.1)

    marks : List (List ℕ)
    marks = found.0

    apart : AreApart marks
    apart = order marks found.1

    never : (i j : ℕ) (m : List ℕ) → i < j → slice_get ms i ≡ Some m → slice_get ms j ≡ Some m → ⊥
    never i j m l e f =
        let a = listed_at b 0 ms es i m listed e in
        let c = listed_at b 0 ms es j m listed f in
        let p = place_of sorted a.entry (Contains-permutation es sorted a.entry same (contains_at es i a.entry a.there)) in
        let q = place_of sorted c.entry (Contains-permutation es sorted c.entry same (contains_at es j c.entry c.there)) in
        let u = mark_there b marks sorted p.0 a.entry found.1 p.1 in
        let w = mark_there b marks sorted q.0 c.entry found.1 q.1 in
        let first : slice_get marks p.0 ≡ Some m = u.1 ∙ ap Some (one_mark b a.entry.head u.0 m u.2 a.key) in
        let second : slice_get marks q.0 ≡ Some m = w.1 ∙ ap Some (one_mark b c.entry.head w.0 m w.2 c.key) in
        elim (ordered p.0 q.0) [
          | inl at ↦
              let one : a.entry ≡ c.entry = same_some (sym p.1 ∙ (ap (slice_get sorted) at ∙ q.1)) in
              omega (arith, l, a.number, c.number, ap (λ (z : Entry). z.next) one)
          | inr far ↦ elim far [ inl below ↦ apart_at marks p.0 q.0 m apart below first second | inr above ↦ apart_at marks q.0 p.0 m apart above second first ]
        ]

-- keys with other marks are other keys

abbrev AreNew : List Value → List (List ℕ) → Type 0
AreNew earlier ms = AllByRecursion (λ m. (k : Value) → mark k ≡ m → IsOneOf earlier k → ⊥) ms

none_new : (ms : List (List ℕ)) → AreNew [] ms
none_new [] = tt
none_new (m ∷ ms) = ((λ k is o. o), none_new ms)

new_with : (k : Value) (earlier : List Value) (ms : List (List ℕ)) → AreNew earlier ms → AreOther (mark k) ms → AreNew (k ∷ earlier) ms
new_with k earlier [] n o = tt
new_with k earlier (m ∷ ms) n o =
    ((λ x is one. elim one [ inl s ↦ o.0 (sym is ∙ same_mark x k s) | inr there ↦ n.0 x is there ]), new_with k earlier ms n.1 o.1)

keys_apart_from : (earlier : List Value) (ps : Pairs) → AreNew earlier (key_marks ps) → AreApart (key_marks ps) → AreKeysApart earlier ps
keys_apart_from earlier no_pairs n a = tt
keys_apart_from earlier (pair k v ps) n a = (n.0 k refl, keys_apart_from (k ∷ earlier) ps (new_with k earlier (key_marks ps) n.1 a.0) a.1)

pub keys_apart : (ps : Pairs) → AreApart (key_marks ps) → AreKeysApart [] ps
keys_apart ps a = keys_apart_from [] ps (none_new (key_marks ps)) a

-- the first keys are apart, with the highest at this offset
abbrev pub AreRisen : List ℕ → List Entry → Option ℕ → Type 0
AreRisen b es top = (ms : List (List ℕ)) → AreKeys b ms es → AreApart ms × IsHighest b top ms

pub none_risen : (b : List ℕ) → AreRisen b [] None
none_risen b [] keys = (tt, refl)
none_risen b (m ∷ ms) keys = absurd keys

pub one_risen : (b : List ℕ) (es : List Entry) (top : Option ℕ) (e : Entry) → AreRisen b es top → ((m : List ℕ) → IsKeyAt b e.head m → IsAbove b top e.head m) → AreRisen b (es ++ e ∷ []) (Some e.head)
one_risen b es top e h above ms keys =
    let s = keys_split b ms es e keys in
    let w = h s.0 s.3 in
    let a = above s.1 s.4 in (
      subst AreApart (sym s.2) (apart_with s.0 s.1 w.0 (a.other s.0 w.1)),
      subst (IsHighest b (Some e.head)) (sym s.2) (a.highest s.0 w.1),
    )
