-- The preferred bytes of an item spell it.
use Rattle.std.proofs.Common.{◌≡◌, ℕ, suc, ◌<◌, ◌≤◌, ◌^◌, List, [], ◌∷◌, ◌++◌, length, nat_lt, cond, true, false, ◌⊎◌, inl, inr, refl, sym, ap, ap₂, ◌∙◌, subst, arith, length-append}
use Rattle.std.proofs.lemmas.Bool.Decides.{nat_tests}
use Rattle.lists.proofs.Lemmas.{tested}
use Rattle.cbor_data.specs.declared.Width.{Width}
use Rattle.cbor_data.specs.declared.Width.TheVariants.{W16, W32, W64}
use Rattle.cbor_data.specs.Preferred.{shortest_head, simple_bytes, float_bytes, preferred, values_preferred, pairs_preferred, AreCountsShort, AreValueCountsShort, ArePairCountsShort}
use Rattle.cbor_data.specs.Value.{Value, uint, nint, bytes, text, array, pairs, tag, simple, float, Values, no_values, value, Pairs, no_pairs, pair, values_len, pairs_len, IsInRange, AreInRange, ArePairsInRange, AreBitsFitting, AreValuesFitting, ArePairsFitting, AreSimplesAssignable, AreValuesAssignable, ArePairsAssignable}
use Rattle.cbor_data.specs.Sound.{IsSound, HasShortSpelling}
use Rattle.cbor_data.specs.Forms.{Form, uint_form, nint_form, bytes_form, bytes_chunks, text_form, text_chunks, array_form, array_to_break, pairs_form, pairs_to_break, tag_form, simple_inside, simple_next, float_form, Forms, no_forms, form, PairForms, no_pair_forms, pair_form, Chunk, chunk_bytes, chunks_bytes, joined, to_break, flat, forms_flat, pair_forms_flat, forms_len, pair_forms_len, meaning, meanings, pair_meanings, IsOk, HasText, HaveText, HavePairsText, AreFormsOk, ArePairFormsOk, Spells, ArgumentSize, inside, one, two, four, eight, head_in, FitsSize}

-- the size of the argument in the shortest head
abbrev shortest : ℕ → ArgumentSize
shortest n =
    cond (nat_lt n 24) inside (cond (nat_lt n (2 ^ 8)) one (cond (nat_lt n (2 ^ 16)) two (cond (nat_lt n (2 ^ 32)) four eight)))

in_shortest : (m n : ℕ) → n < 2 ^ 64 → (shortest_head m n ≡ head_in (shortest n) m n) × FitsSize (shortest n) n
in_shortest m n h = elim (tested (nat_lt n 24)) [
  | inl t ↦ let small : n < 24 = grind (arith, nat_tests) in rw t (refl, small)
  | inr t ↦ elim (tested (nat_lt n (2 ^ 8))) [
    | inl u ↦ let small : n < 2 ^ 8 = grind (arith, nat_tests) in rw (t, u) (refl, small)
    | inr u ↦ elim (tested (nat_lt n (2 ^ 16))) [
      | inl v ↦ let small : n < 2 ^ 16 = grind (arith, nat_tests) in rw (t, u, v) (refl, small)
      | inr v ↦ elim (tested (nat_lt n (2 ^ 32))) [
        | inl w ↦ let small : n < 2 ^ 32 = grind (arith, nat_tests) in rw (t, u, v, w) (refl, small)
        | inr w ↦ rw (t, u, v, w) (refl, h)
      ]
    ]
  ]
]

-- a form that writes these bytes and means this
record Writes (x : Value) (b : List ℕ) : Type 0 where
  written : Form
  ok : IsOk written
  text : HasText written
  is : flat written ≡ b
  meant : meaning written ≡ x

record WritesAll (xs : Values) (b : List ℕ) : Type 0 where
  written : Forms
  ok : AreFormsOk written
  text : HaveText written
  is : forms_flat written ≡ b
  meant : meanings written ≡ xs
  len : forms_len written ≡ values_len xs

record WritesPairs (ps : Pairs) (b : List ℕ) : Type 0 where
  written : PairForms
  ok : ArePairFormsOk written
  text : HavePairsText written
  is : pair_forms_flat written ≡ b
  meant : pair_meanings written ≡ ps
  len : pair_forms_len written ≡ pairs_len ps

simple_written : (n : ℕ) → n < 256 → (n < 24) ⊎ (32 ≤ n) → Writes (simple n) (simple_bytes n)
simple_written n r (inl h) = let t : nat_lt n 24 ≡ true = grind (arith, nat_tests) in rw t (record { written = simple_inside n; ok = h; text = tt; is = refl; meant = refl })
simple_written n r (inr h) = let t : nat_lt n 24 ≡ false = grind (arith, nat_tests) in rw t (record { written = simple_next n; ok = (h, r); text = tt; is = refl; meant = refl })

mutual
  writes : (x : Value) → IsInRange x → AreBitsFitting x → AreSimplesAssignable x → AreCountsShort x → Writes x (preferred x)
  writes (uint n) h f a c = let s = in_shortest 0 n h in record { written = uint_form (shortest n) n; ok = s.1; text = tt; is = sym s.0; meant = refl }
  writes (nint n) h f a c = let s = in_shortest 1 n h in record { written = nint_form (shortest n) n; ok = s.1; text = tt; is = sym s.0; meant = refl }
  writes (bytes b) h f a c =
      let s = in_shortest 2 (length b) c in
      record { written = bytes_form (shortest (length b)) b; ok = (s.1, h); text = tt; is = ap (λ i. i ++ b) (sym s.0); meant = refl }
  writes (text b) h f a c =
      let s = in_shortest 3 (length b) c in
      record { written = text_form (shortest (length b)) b; ok = (s.1, h.0); text = h.1; is = ap (λ i. i ++ b) (sym s.0); meant = refl }
  writes (array xs) h f a c =
      let s = in_shortest 4 (values_len xs) c.0 in
      let w = writes_all xs h f a c.1 in
      record {
        written = array_form (shortest (values_len xs)) w.written;
        ok = (subst (FitsSize (shortest (values_len xs))) (sym w.len) s.1, w.ok);
        text = w.text;
        is = ap₂ (λ i j. i ++ j) (ap (head_in (shortest (values_len xs)) 4) w.len ∙ sym s.0) w.is;
        meant = ap array w.meant;
      }
  writes (pairs ps) h f a c =
      let s = in_shortest 5 (pairs_len ps) c.0 in
      let w = writes_pairs ps h f a c.1 in
      record {
        written = pairs_form (shortest (pairs_len ps)) w.written;
        ok = (subst (FitsSize (shortest (pairs_len ps))) (sym w.len) s.1, w.ok);
        text = w.text;
        is = ap₂ (λ i j. i ++ j) (ap (head_in (shortest (pairs_len ps)) 5) w.len ∙ sym s.0) w.is;
        meant = ap pairs w.meant;
      }
  writes (tag n x) h f a c =
      let s = in_shortest 6 n h.0 in
      let w = writes x h.1 f a c in
      record { written = tag_form (shortest n) n w.written; ok = (s.1, w.ok); text = w.text; is = ap₂ (λ i j. i ++ j) (sym s.0) w.is; meant = ap (tag n) w.meant }
  writes (simple n) h f a c = simple_written n h a
  writes (float w n) h f a c = record { written = float_form w n; ok = f; text = tt; is = refl; meant = refl }

  writes_all : (xs : Values) → AreInRange xs → AreValuesFitting xs → AreValuesAssignable xs → AreValueCountsShort xs → WritesAll xs (values_preferred xs)
  writes_all no_values h f a c = record { written = no_forms; ok = tt; text = tt; is = refl; meant = refl; len = refl }
  writes_all (value x xs) h f a c =
      let v = writes x h.0 f.0 a.0 c.0 in
      let w = writes_all xs h.1 f.1 a.1 c.1 in
      record { written = form v.written w.written; ok = (v.ok, w.ok); text = (v.text, w.text); is = ap₂ (λ i j. i ++ j) v.is w.is; meant = ap₂ value v.meant w.meant; len = ap suc w.len }

  writes_pairs : (ps : Pairs) → ArePairsInRange ps → ArePairsFitting ps → ArePairsAssignable ps → ArePairCountsShort ps → WritesPairs ps (pairs_preferred ps)
  writes_pairs no_pairs h f a c = record { written = no_pair_forms; ok = tt; text = tt; is = refl; meant = refl; len = refl }
  writes_pairs (pair k v ps) h f a c =
      let x = writes k h.0 f.0 a.0 c.0 in
      let y = writes v h.1 f.1 a.1 c.1 in
      let w = writes_pairs ps h.2 f.2 a.2 c.2 in
      record {
        written = pair_form x.written y.written w.written;
        ok = (x.ok, y.ok, w.ok);
        text = (x.text, y.text, w.text);
        is = ap₂ (λ i j. i ++ j) x.is (ap₂ (λ i j. i ++ j) y.is w.is);
        meant = ap₂ (λ i j. pair i j (pair_meanings w.written)) x.meant y.meant ∙ ap (pair k v) w.meant;
        len = ap suc w.len;
      }

-- the preferred bytes of an item spell it where its counts are short
pub spells_preferred : (x : Value) → IsInRange x → AreBitsFitting x → AreSimplesAssignable x → AreCountsShort x → Spells x (preferred x)
spells_preferred x h f a c = let w = writes x h f a c in record { written = w.written; ok = w.ok; text = w.text; is = sym w.is; meant = sym w.meant }

-- chunks are no shorter than what they hold
pub joined_len : (m : ℕ) (cs : List Chunk) → length (joined cs) ≤ length (chunks_bytes m cs)
joined_len m [] = omega arith
joined_len m (c ∷ cs) =
    omega (arith, length-append c.content (joined cs), length-append (chunk_bytes m c) (chunks_bytes m cs), length-append (head_in c.size m (length c.content)) c.content, joined_len m cs)

pub broken_len : (m : ℕ) (inner : List ℕ) → length inner < length (to_break m inner)
broken_len m inner = omega (arith, length-append inner (255 ∷ []))

pub head_some : (p : ArgumentSize) (m n : ℕ) → 0 < length (head_in p m n)
head_some inside m n = omega arith
head_some one m n = omega arith
head_some two m n = omega arith
head_some four m n = omega arith
head_some eight m n = omega arith

pub float_some : (w : Width) (n : ℕ) → 0 < length (float_bytes w n)
float_some W16 n = omega arith
float_some W32 n = omega arith
float_some W64 n = omega arith

-- no form is empty
pub form_some : (f : Form) → 0 < length (flat f)
form_some (uint_form p n) = head_some p 0 n
form_some (nint_form p n) = head_some p 1 n
form_some (bytes_form p s) = omega (arith, head_some p 2 (length s), length-append (head_in p 2 (length s)) s)
form_some (bytes_chunks cs) = omega arith
form_some (text_form p s) = omega (arith, head_some p 3 (length s), length-append (head_in p 3 (length s)) s)
form_some (text_chunks cs) = omega arith
form_some (array_form p fs) = omega (arith, head_some p 4 (forms_len fs), length-append (head_in p 4 (forms_len fs)) (forms_flat fs))
form_some (array_to_break fs) = omega arith
form_some (pairs_form p ps) = omega (arith, head_some p 5 (pair_forms_len ps), length-append (head_in p 5 (pair_forms_len ps)) (pair_forms_flat ps))
form_some (pairs_to_break ps) = omega arith
form_some (tag_form p n f) = omega (arith, head_some p 6 n, length-append (head_in p 6 n) (flat f))
form_some (simple_inside n) = omega arith
form_some (simple_next n) = omega arith
form_some (float_form w n) = float_some w n

-- there are no more members than bytes
values_len_le : (fs : Forms) → values_len (meanings fs) ≤ length (forms_flat fs)
values_len_le no_forms = omega arith
values_len_le (form f fs) = omega (arith, form_some f, values_len_le fs, length-append (flat f) (forms_flat fs))

pairs_len_le : (ps : PairForms) → pairs_len (pair_meanings ps) ≤ length (pair_forms_flat ps)
pairs_len_le no_pair_forms = omega arith
pairs_len_le (pair_form k v ps) =
    omega (arith, form_some k, pairs_len_le ps, length-append (flat k) (flat v ++ pair_forms_flat ps), length-append (flat v) (pair_forms_flat ps))

-- what a form shorter than 2^64 bytes means has short counts
mutual
  counts : (f : Form) → length (flat f) < 2 ^ 64 → AreCountsShort (meaning f)
  counts (uint_form p n) h = tt
  counts (nint_form p n) h = tt
  counts (bytes_form p s) h = omega (arith, length-append (head_in p 2 (length s)) s)
  counts (bytes_chunks cs) h = omega (arith, joined_len 2 cs, broken_len 2 (chunks_bytes 2 cs))
  counts (text_form p s) h = omega (arith, length-append (head_in p 3 (length s)) s)
  counts (text_chunks cs) h = omega (arith, joined_len 3 cs, broken_len 3 (chunks_bytes 3 cs))
  counts (array_form p fs) h =
      let short : length (forms_flat fs) < 2 ^ 64 = omega (arith, length-append (head_in p 4 (forms_len fs)) (forms_flat fs)) in
      (omega (arith, values_len_le fs), value_counts fs short)
  counts (array_to_break fs) h =
      let short : length (forms_flat fs) < 2 ^ 64 = omega (arith, broken_len 4 (forms_flat fs)) in
      (omega (arith, values_len_le fs), value_counts fs short)
  counts (pairs_form p ps) h =
      let short : length (pair_forms_flat ps) < 2 ^ 64 = omega (arith, length-append (head_in p 5 (pair_forms_len ps)) (pair_forms_flat ps)) in
      (omega (arith, pairs_len_le ps), pair_counts ps short)
  counts (pairs_to_break ps) h =
      let short : length (pair_forms_flat ps) < 2 ^ 64 = omega (arith, broken_len 5 (pair_forms_flat ps)) in
      (omega (arith, pairs_len_le ps), pair_counts ps short)
  counts (tag_form p n f) h = counts f (omega (arith, length-append (head_in p 6 n) (flat f)))
  counts (simple_inside n) h = tt
  counts (simple_next n) h = tt
  counts (float_form w n) h = tt

  value_counts : (fs : Forms) → length (forms_flat fs) < 2 ^ 64 → AreValueCountsShort (meanings fs)
  value_counts no_forms h = tt
  value_counts (form f fs) h =
      (counts f (omega (arith, length-append (flat f) (forms_flat fs))), value_counts fs (omega (arith, length-append (flat f) (forms_flat fs))))

  pair_counts : (ps : PairForms) → length (pair_forms_flat ps) < 2 ^ 64 → ArePairCountsShort (pair_meanings ps)
  pair_counts no_pair_forms h = tt
  pair_counts (pair_form k v ps) h =
      let whole = length-append (flat k) (flat v ++ pair_forms_flat ps) in
      let rest = length-append (flat v) (pair_forms_flat ps) in
      (counts k (omega (arith, whole)), counts v (omega (arith, whole, rest)), pair_counts ps (omega (arith, whole, rest)))

-- the counts of what has a short spelling are short
pub counts_of : (x : Value) → HasShortSpelling x → AreCountsShort x
counts_of x h =
    let s = h.spells in
    subst AreCountsShort (sym s.meant) (counts s.written (subst (λ b. length b < 2 ^ 64) s.is h.short))

-- the preferred bytes of a sound item spell it
pub sound_preferred : (x : Value) → IsSound x → Spells x (preferred x)
sound_preferred x s = spells_preferred x s.in_range s.fitting s.assignable (counts_of x s.short)
