-- It can be told whether the texts of a form are UTF-8 and whether an item is valid.
use Rattle.std.proofs.Common.{◌≡◌, ℕ, suc, ◌+◌, List, [], ◌∷◌, Bool, true, false, ◌⊎◌, inl, inr, refl}
use Rattle.std.specs.Str.{IsUtf8, is_utf8}
use Rattle.std.proofs.lemmas.Str.{IsUtf8-from_is_utf8, is_utf8-from_IsUtf8}
use Rattle.cbor_data.specs.Value.{Value, uint, nint, bytes, text, array, pairs, tag, simple, float, Values, no_values, value, Pairs, no_pairs, pair, place_count}
use Rattle.cbor_data.specs.Validity.{IsOneOf, IsRepeatedKey, IsRepeatedKeyAmong, IsRepeatedKeyAfter, IsValid}
use Rattle.cbor_data.specs.Forms.{Form, uint_form, nint_form, bytes_form, bytes_chunks, text_form, text_chunks, array_form, array_to_break, pairs_form, pairs_to_break, tag_form, simple_inside, simple_next, float_form, Forms, no_forms, form, PairForms, no_pair_forms, pair_form, Chunk, AllText, HasText, HaveText, HavePairsText}
use Rattle.cbor_data.proofs.SameTold.{same_told}

both_told : {P Q : Type 0} → P ⊎ (P → ⊥) → Q ⊎ (Q → ⊥) → (P × Q) ⊎ (P × Q → ⊥)
both_told (inl p) (inl q) = inl (p, q)
both_told (inl p) (inr n) = inr (λ h. n h.1)
both_told (inr n) q = inr (λ h. n h.0)

three_told : {P Q R : Type 0} → P ⊎ (P → ⊥) → Q ⊎ (Q → ⊥) → R ⊎ (R → ⊥) → (P × Q × R) ⊎ (P × Q × R → ⊥)
three_told (inl p) (inl q) (inl r) = inl (p, q, r)
three_told (inl p) (inl q) (inr n) = inr (λ h. n h.2)
three_told (inl p) (inr n) r = inr (λ h. n h.1)
three_told (inr n) q r = inr (λ h. n h.0)

one_told : {P Q : Type 0} → P ⊎ (P → ⊥) → Q ⊎ (Q → ⊥) → (P ⊎ Q) ⊎ (P ⊎ Q → ⊥)
one_told (inl p) q = inl (inl p)
one_told (inr n) (inl q) = inl (inr q)
one_told (inr n) (inr m) = inr (λ h. elim h [ inl p ↦ n p | inr q ↦ m q ])

-- a test that is true just where something holds tells it
by_test : {P : Type 0} (b : Bool) → (b ≡ true → P) → (P → b ≡ true) → P ⊎ (P → ⊥)
by_test true shows needs = inl (shows refl)
by_test false shows needs = inr (λ p. let e : false ≡ true = needs p in cc)

utf8_told : (b : List ℕ) → IsUtf8 b ⊎ (IsUtf8 b → ⊥)
utf8_told b = by_test (is_utf8 b) (IsUtf8-from_is_utf8 b) (is_utf8-from_IsUtf8 b)

chunks_told : (cs : List Chunk) → AllText cs ⊎ (AllText cs → ⊥)
chunks_told [] = inl tt
chunks_told (c ∷ cs) = both_told (utf8_told c.content) (chunks_told cs)

mutual
  pub text_told : (f : Form) → HasText f ⊎ (HasText f → ⊥)
  text_told (text_form p s) = utf8_told s
  text_told (text_chunks cs) = chunks_told cs
  text_told (array_form p fs) = texts_told fs
  text_told (array_to_break fs) = texts_told fs
  text_told (pairs_form p ps) = pair_texts_told ps
  text_told (pairs_to_break ps) = pair_texts_told ps
  text_told (tag_form p n f) = text_told f
  text_told (uint_form p n) = inl tt
  text_told (nint_form p n) = inl tt
  text_told (bytes_form p s) = inl tt
  text_told (bytes_chunks cs) = inl tt
  text_told (simple_inside n) = inl tt
  text_told (simple_next n) = inl tt
  text_told (float_form w n) = inl tt

  texts_told : (fs : Forms) → HaveText fs ⊎ (HaveText fs → ⊥)
  texts_told no_forms = inl tt
  texts_told (form f fs) = both_told (text_told f) (texts_told fs)

  pair_texts_told : (ps : PairForms) → HavePairsText ps ⊎ (HavePairsText ps → ⊥)
  pair_texts_told no_pair_forms = inl tt
  pair_texts_told (pair_form k v ps) = three_told (text_told k) (text_told v) (pair_texts_told ps)

pub key_told : (ls : List Value) (k : Value) → IsOneOf ls k ⊎ (IsOneOf ls k → ⊥)
key_told [] k = inr (λ h. h)
key_told (l ∷ ls) k = one_told (same_told k l) (key_told ls k)

-- something holds at some place, or at none
abbrev pub Found : (ℕ → Type 0) → Type 0
Found P = ((i : ℕ) × P i) ⊎ ((i : ℕ) → P i → ⊥)

found_one : {P Q : ℕ → Type 0} → Found P → Found Q → Found (λ i. P i ⊎ Q i)
found_one (inl p) q = inl (p.0, inl p.1)
found_one (inr n) (inl q) = inl (q.0, inr q.1)
found_one (inr n) (inr m) = inr (λ i h. elim h [ inl p ↦ n i p | inr q ↦ m i q ])

found_after : {P : ℕ → Type 0} (f : ℕ → ℕ) → Found P → Found (λ i. (j : ℕ) × (i ≡ f j) × P j)
found_after f (inl p) = inl (f p.0, (p.0, refl, p.1))
found_after f (inr n) = inr (λ i h. n h.0 h.2)

found_here : {A : Type 0} → A ⊎ (A → ⊥) → Found (λ i. (i ≡ 0) × A)
found_here (inl a) = inl (0, (refl, a))
found_here (inr n) = inr (λ i h. n h.1)

mutual
  repeated : (x : Value) → Found (IsRepeatedKey x)
  repeated (array xs) = found_after suc (repeated_among xs)
  repeated (pairs ps) = found_after suc (repeated_after [] ps)
  repeated (tag n x) = found_after suc (repeated x)
  repeated (uint n) = inr (λ i h. h)
  repeated (nint n) = inr (λ i h. h)
  repeated (bytes s) = inr (λ i h. h)
  repeated (text s) = inr (λ i h. h)
  repeated (simple n) = inr (λ i h. h)
  repeated (float w n) = inr (λ i h. h)

  repeated_among : (xs : Values) → Found (IsRepeatedKeyAmong xs)
  repeated_among no_values = inr (λ i h. h)
  repeated_among (value x xs) = found_one (repeated x) (found_after (λ j. place_count x + j) (repeated_among xs))

  repeated_after : (earlier : List Value) (ps : Pairs) → Found (IsRepeatedKeyAfter earlier ps)
  repeated_after earlier no_pairs = inr (λ i h. h)
  repeated_after earlier (pair k v ps) =
      found_one (found_here (key_told earlier k))
      (found_one (repeated k)
      (found_one (found_after (λ j. place_count k + j) (repeated v))
      (found_after (λ j. place_count k + (place_count v + j)) (repeated_after (k ∷ earlier) ps))))

pub valid_told : (x : Value) → IsValid x ⊎ (IsValid x → ⊥)
valid_told x = elim (repeated x) [
  | inl r ↦ inr (λ v. v r.0 r.1)
  | inr n ↦ inl n
]
