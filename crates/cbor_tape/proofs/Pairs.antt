-- The pairs of a map that were read so far.
use Rattle.std.proofs.Common.{◌≡◌, ℕ, ◌+◌, ◌-◌, ◌<◌, ◌≤◌, List, [], ◌∷◌, ◌++◌, length, take, drop, Option, Some, None, refl, sym, ap, ◌∙◌, subst, inl, inr, arith, append_assoc, append-nil}
use Rattle.std.proofs.lemmas.List.{drop_at, length-take-le, take-take}
use Rattle.cbor_data.specs.Value.{Value, Pairs, place_count, pairs_place_count, places, pairs_places}
use Rattle.cbor_data.specs.Validity.{IsOneOf, IsValid}
use Rattle.cbor_data.specs.Forms.{Form, PairForms, no_pair_forms, pair_form, pair_forms_len, meaning, pair_meanings}
use Rattle.item_nodes.specs.Apart.{AreKeysApart, ArePartsValid}
use Rattle.read_items.specs.Whole.Parts.{IsItemAt, IsEnd, end_length}
use Rattle.read_items.proofs.OfWhole.Lemmas.{with_pair_form, pair_forms_len-with, one_pair_form_more}
use Rattle.cbor_tape.specs.declared.entry.Entry.{Entry}
use Rattle.cbor_tape.specs.declared.keys.Keys.{Keys}
use Rattle.cbor_tape.specs.declared.keys.Keys.TheVariants as V
use Rattle.cbor_tape.specs.Tape.{AreEntriesOf}
use Rattle.cbor_tape.specs.Keys.{mark, key_marks, AreOther, ArePairsOn, IsHighest, IsKnown, IsKnownWith}
use Rattle.cbor_tape.specs.Parts.{AreMapPairsTapedAt, ArePairsTapedAt, IsTapedAt}
use Rattle.cbor_tape.proofs.Entries.{entries-append, places_counted, pairs_places_counted}
use Rattle.cbor_tape.proofs.Marks.{item_key, same_mark}

places-with : (ps : PairForms) (k v : Form) → pairs_places (pair_meanings (with_pair_form ps k v)) ≡ pairs_places (pair_meanings ps) ++ (places (meaning k) ++ places (meaning v))
places-with no_pair_forms k v = ap (λ xs. places (meaning k) ++ xs) (append-nil (places (meaning v)))
places-with (pair_form i u ps) k v =
    let both = places (meaning k) ++ places (meaning v) in
    let rest = pairs_places (pair_meanings ps) in
    ap (λ xs. places (meaning i) ++ (places (meaning u) ++ xs)) (places-with ps k v)
    ∙ (ap (λ xs. places (meaning i) ++ xs) (sym (append_assoc (places (meaning u)) rest both))
    ∙ sym (append_assoc (places (meaning i)) (places (meaning u) ++ rest) both))

count-with : (ps : PairForms) (k v : Form) → pairs_place_count (pair_meanings (with_pair_form ps k v)) ≡ pairs_place_count (pair_meanings ps) + (place_count (meaning k) + place_count (meaning v))
count-with no_pair_forms k v = omega arith
count-with (pair_form i u ps) k v = omega (arith, count-with ps k v)

valid-with : (ps : PairForms) (k v : Form) → ArePartsValid (pair_meanings ps) → IsValid (meaning k) → IsValid (meaning v) → ArePartsValid (pair_meanings (with_pair_form ps k v))
valid-with no_pair_forms k v h i j = (i, (j, tt))
valid-with (pair_form l u ps) k v h i j = (h.0, (h.1.0, valid-with ps k v h.1.1 i j))

marks-with : (ps : PairForms) (k v : Form) → key_marks (pair_meanings (with_pair_form ps k v)) ≡ key_marks (pair_meanings ps) ++ mark (meaning k) ∷ []
marks-with no_pair_forms k v = refl
marks-with (pair_form i u ps) k v = ap (λ ms. mark (meaning i) ∷ ms) (marks-with ps k v)

-- a key with another mark than those before it is the same as none of them
apart-with : (earlier : List Value) (ps : PairForms) (k v : Form) → AreKeysApart earlier (pair_meanings ps) → (IsOneOf earlier (meaning k) → ⊥) → AreOther (mark (meaning k)) (key_marks (pair_meanings ps)) → AreKeysApart earlier (pair_meanings (with_pair_form ps k v))
apart-with earlier no_pair_forms k v h not other = (not, tt)
apart-with earlier (pair_form i u ps) k v h not other =
    (h.0, apart-with (meaning i ∷ earlier) ps k v h.1 (λ o. elim o [ inl s ↦ other.0 (sym (same_mark (meaning k) (meaning i) s)) | inr there ↦ not there ]) other.1)

-- so many pairs are in b from `start` up to `end`, this is known of their keys, and from this place on the tape has their entries
pub record ArePairsRead (depth : ℕ) (b : List ℕ) (start place : ℕ) (old new : List Entry) (end next read : ℕ) (keys : Keys) : Type 0 where
  pub written : PairForms
  pub counted : pair_forms_len written ≡ read
  pub there : ArePairsTapedAt depth b start place old new written end next
  pub known : IsKnown b keys (pair_meanings written)

pub no_pairs_read : (d : ℕ) (b : List ℕ) (start place : ℕ) (old : List Entry) → ArePairsRead d b start place old old start place 0 (V.Differ None)
no_pairs_read d b start place old = record {
  written = no_pair_forms;
  counted = refl;
  there = record {
    there = record { ok = tt; text = tt; shallow = omega arith; placed = omega arith; is = refl };
    valid = tt;
    counted = omega arith;
    entries = [];
    stand = tt;
    tape = sym (append-nil (take place old));
  };
  known = (tt, refl);
}

-- the entries of the pairs are those of the tape from their place on
pairs_on : (d : ℕ) (b : List ℕ) (start place end next : ℕ) (old new : List Entry) (ps : PairForms) → place ≤ length old → ArePairsTapedAt d b start place old new ps end next → ArePairsOn b new place next (pair_meanings ps)
pairs_on d b start place end next old new ps in_old t =
    subst (AreEntriesOf b place (pairs_places (pair_meanings ps))) (sym (ap (drop place) t.tape ∙ drop_at (take place old) t.entries place (length-take-le place old in_old))) t.stand

-- what is known of the keys with one more
known_with : (d : ℕ) (b : List ℕ) (t : List Entry) (first last at end : ℕ) (before after : Keys) (x : Value) (ps : PairForms) (k v : Form) → ArePairsOn b t first last (pair_meanings ps) → meaning k ≡ x → IsItemAt d b at x end → IsKnown b before (pair_meanings ps) → IsKnownWith b t first last before at after → IsKnown b after (pair_meanings (with_pair_form ps k v))
known_with d b t first last at end before V.Untold x ps k v on is there known w = tt
known_with d b t first last at end V.Untold (V.Differ high) x ps k v on is there known w = absurd w
known_with d b t first last at end (V.Differ before) (V.Differ None) x ps k v on is there known w = absurd w
known_with d b t first last at end (V.Differ before) (V.Differ (Some above)) x ps k v on is there known w =
    let own : mark (meaning k) ≡ mark x = ap mark is in
    let one = w (mark x) (item_key d b at end x there) in
    let other : AreOther (mark x) (key_marks (pair_meanings ps)) = one.new (pair_meanings ps) on known.1 in (
      apart-with [] ps k v known.0 (λ o. o) (subst (λ m. AreOther m (key_marks (pair_meanings ps))) (sym own) other),
      subst (IsHighest b (Some above)) (ap (λ m. key_marks (pair_meanings ps) ++ m ∷ []) (sym own) ∙ sym (marks-with ps k v)) (one.highest (key_marks (pair_meanings ps)) known.1),
    )

pub one_pair_more : (d : ℕ) (b : List ℕ) (start place end between after next beside beyond read : ℕ) (old mid turn new : List Entry) (before keys : Keys) → place ≤ length old → ArePairsRead d b start place old mid end next read before → IsKnownWith b mid place next before end keys →
    IsTapedAt d b end next mid turn between beside → IsTapedAt d b between beside turn new after beyond → ArePairsRead d b start place old new after beyond (read + 1) keys
one_pair_more d b start place end between after next beside beyond read old mid turn new before keys in_old s w h i =
    let ps = s.written in
    let k = h.there.written in
    let v = i.there.written in
    let t = s.there in
    let rest = pairs_places (pair_meanings ps) in
    let both : AreEntriesOf b next (places h.value ++ places i.value) (h.entries ++ i.entries) = entries-append b next beside (places h.value) (places i.value) h.entries i.entries (omega (arith, h.counted, places_counted h.value)) h.stand i.stand in
    record {
      written = with_pair_form ps k v;
      counted = omega (arith, pair_forms_len-with ps k v, s.counted);
      there = record {
        there = one_pair_form_more d b start end between after h.value i.value ps t.there h.there i.there;
        valid = valid-with ps k v t.valid (subst IsValid h.there.meant h.valid) (subst IsValid i.there.meant i.valid);
        counted = omega (arith, t.counted, h.counted, i.counted, count-with ps k v, ap place_count h.there.meant, ap place_count i.there.meant);
        entries = t.entries ++ (h.entries ++ i.entries);
        stand = subst (λ xs. AreEntriesOf b place xs (t.entries ++ (h.entries ++ i.entries)))
            (ap (λ x. rest ++ (places x ++ places i.value)) h.there.meant ∙ (ap (λ y. rest ++ (places (meaning k) ++ places y)) i.there.meant ∙ sym (places-with ps k v)))
            (entries-append b place next rest (places h.value ++ places i.value) t.entries (h.entries ++ i.entries) (omega (arith, t.counted, pairs_places_counted (pair_meanings ps))) t.stand both);
        tape = i.tape ∙ (ap (λ es. es ++ i.entries) (h.tape ∙ ap (λ es. es ++ h.entries) t.tape)
            ∙ (append_assoc (take place old ++ t.entries) h.entries i.entries ∙ append_assoc (take place old) t.entries (h.entries ++ i.entries)));
      };
      known = known_with d b mid place next end between before keys h.value ps k v (pairs_on d b start place end next old mid ps in_old t) (sym h.there.meant) h.there s.known w;
    }

-- all pairs of a map, whose keys all differ; the tape's front is as it was
pub all_pairs : (depth : ℕ) (count : Option ℕ) (b : List ℕ) (start place : ℕ) (old mid new : List Entry) (end next read : ℕ) (keys : Keys) → 0 < depth → place ≤ length old → next ≤ length b → take (length b) new ≡ take (length b) mid → (s : ArePairsRead (depth - 1) b start place old mid end next read keys) → IsEnd count read b end → ((ps : Pairs) → ArePairsOn b mid place next ps → IsKnown b keys ps → AreKeysApart [] ps) → AreMapPairsTapedAt depth count b start place old new (end + end_length count) next
all_pairs depth count b start place old mid new end next read keys some in_old less front s ends apart =
    let t = s.there in
    record {
      written = s.written;
      stop = end;
      some = some;
      there = record {
        there = t.there;
        valid = t.valid;
        counted = t.counted;
        entries = t.entries;
        stand = t.stand;
        tape = same_front next (length b) new mid less front ∙ t.tape;
      };
      apart = apart (pair_meanings s.written) (pairs_on (depth - 1) b start place end next old mid s.written in_old t) s.known;
      ends = subst (λ n. IsEnd count n b end) (sym s.counted) ends;
      placed = refl;
    }
  where
    shorter : (n m : ℕ) (xs : List Entry) → n ≤ m → take n (take m xs) ≡ take n xs
    shorter n m xs l = take-take n m xs l

    same_front : (n m : ℕ) (xs ys : List Entry) → n ≤ m → take m xs ≡ take m ys → take n xs ≡ take n ys
    same_front n m xs ys l e = sym (shorter n m xs l) ∙ (ap (take n) e ∙ shorter n m ys l)
