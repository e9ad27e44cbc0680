-- An item's texts are UTF-8, or one is the first that is not; its keys repeat nowhere, or one is the first that does.
use Rattle.std.proofs.Common.{◌≡◌, ℕ, suc, ◌+◌, ◌≤◌, List, [], ◌∷◌, Bool, true, false, ◌⊎◌, inl, inr, refl, arith, length}
use Rattle.std.specs.Str.{IsUtf8, is_utf8}
use Rattle.std.proofs.lemmas.Bool.{cases_lt}
use Rattle.std.proofs.lemmas.Str.{IsUtf8-from_is_utf8, is_utf8-from_IsUtf8}
use Rattle.cbor_data.specs.Value.{Value, uint, nint, bytes, text, array, pairs, tag, simple, float, Values, no_values, value, Pairs, no_pairs, pair, place_count}
use Rattle.cbor_data.specs.Validity.{IsRepeatedKey, IsRepeatedKeyAmong, IsRepeatedKeyAfter, IsValid, IsFirstRepeatedKey}
use Rattle.cbor_data.specs.Forms.{Form, uint_form, nint_form, bytes_form, bytes_chunks, text_form, text_chunks, array_form, array_to_break, pairs_form, pairs_to_break, tag_form, simple_inside, simple_next, float_form, Forms, no_forms, form, PairForms, no_pair_forms, pair_form, Chunk, AllText, chunk_bytes, head_in, forms_len, pair_forms_len, flat, HasText, HaveText, HavePairsText}
use Rattle.cbor_data.proofs.Lemmas.{key_told}
use Rattle.cbor_data.specs.Faults.{IsBadChunkAt, IsBadTextAt, IsBadTextAmong, IsBadTextAmongPairs}

-- ---- texts

-- something holds at some place, or all is well
abbrev BadOr : (ℕ → Type 0) → Type 0 → Type 0
BadOr P Q = ((i : ℕ) × P i) ⊎ Q

utf8_or : (s : List ℕ) → BadOr (λ i. (i ≡ 0) × (IsUtf8 s → ⊥)) (IsUtf8 s)
utf8_or s = at (is_utf8 s) (IsUtf8-from_is_utf8 s) (is_utf8-from_IsUtf8 s)
  where
    at : (b : Bool) → (b ≡ true → IsUtf8 s) → (IsUtf8 s → b ≡ true) → BadOr (λ i. (i ≡ 0) × (IsUtf8 s → ⊥)) (IsUtf8 s)
    at true shows needs = inr (shows refl)
    at false shows needs = inl (0, (refl, λ u. let e : false ≡ true = needs u in cc))

-- after so much of what comes before
after_or : {P : ℕ → Type 0} {Q : Type 0} (f : ℕ → ℕ) → BadOr P Q → BadOr (λ i. (j : ℕ) × (i ≡ f j) × P j) Q
after_or f (inl p) = inl (f p.0, (p.0, refl, p.1))
after_or f (inr q) = inr q

chunks_or : (cs : List Chunk) → BadOr (IsBadChunkAt cs) (AllText cs)
chunks_or [] = inr tt
chunks_or (c ∷ cs) = elim (utf8_or c.content) [
  | inl bad ↦ inl (bad.0, inl bad.1)
  | inr good ↦ elim (chunks_or cs) [
    | inl bad ↦ inl (length (chunk_bytes 3 c) + bad.0, inr (bad.0, refl, good, bad.1))
    | inr all ↦ inr (good, all)
  ]
]

mutual
  pub text_or : (f : Form) → BadOr (IsBadTextAt f) (HasText f)
  text_or (text_form p s) = utf8_or s
  text_or (text_chunks cs) = after_or suc (chunks_or cs)
  text_or (array_form p fs) = after_or (λ j. length (head_in p 4 (forms_len fs)) + j) (texts_or fs)
  text_or (array_to_break fs) = after_or suc (texts_or fs)
  text_or (pairs_form p ps) = after_or (λ j. length (head_in p 5 (pair_forms_len ps)) + j) (pair_texts_or ps)
  text_or (pairs_to_break ps) = after_or suc (pair_texts_or ps)
  text_or (tag_form p n f) = after_or (λ j. length (head_in p 6 n) + j) (text_or f)
  text_or (uint_form p n) = inr tt
  text_or (nint_form p n) = inr tt
  text_or (bytes_form p s) = inr tt
  text_or (bytes_chunks cs) = inr tt
  text_or (simple_inside n) = inr tt
  text_or (simple_next n) = inr tt
  text_or (float_form w n) = inr tt

  texts_or : (fs : Forms) → BadOr (IsBadTextAmong fs) (HaveText fs)
  texts_or no_forms = inr tt
  texts_or (form f fs) = elim (text_or f) [
    | inl bad ↦ inl (bad.0, inl bad.1)
    | inr good ↦ elim (texts_or fs) [
      | inl bad ↦ inl (length (flat f) + bad.0, inr (good, (bad.0, refl, bad.1)))
      | inr all ↦ inr (good, all)
    ]
  ]

  pair_texts_or : (ps : PairForms) → BadOr (IsBadTextAmongPairs ps) (HavePairsText ps)
  pair_texts_or no_pair_forms = inr tt
  pair_texts_or (pair_form k v ps) = elim (text_or k) [
    | inl bad ↦ inl (bad.0, inl bad.1)
    | inr key ↦ elim (text_or v) [
      | inl bad ↦ inl (length (flat k) + bad.0, inr (inl (key, (bad.0, refl, bad.1))))
      | inr held ↦ elim (pair_texts_or ps) [
        | inl bad ↦ inl (length (flat k) + (length (flat v) + bad.0), inr (inr (key, held, (bad.0, refl, bad.1))))
        | inr all ↦ inr (key, held, all)
      ]
    ]
  ]

-- ---- repeated keys

-- the least place at which something holds
record First (P : ℕ → Type 0) : Type 0 where
  at : ℕ
  holds : P at
  least : (j : ℕ) → P j → at ≤ j

abbrev FirstOr : (ℕ → Type 0) → Type 0
FirstOr P = First P ⊎ ((i : ℕ) → P i → ⊥)

nearer : {P Q : ℕ → Type 0} → First P → First Q → First (λ i. P i ⊎ Q i)
nearer p q = elim (cases_lt q.at p.at) [
  | inl h ↦ record { at = q.at; holds = inr q.holds; least = λ j r. elim r [ inl a ↦ let far = p.least j a in omega (arith, h, far) | inr b ↦ q.least j b ] }
  | inr h ↦ record { at = p.at; holds = inl p.holds; least = λ j r. elim r [ inl a ↦ p.least j a | inr b ↦ let far = q.least j b in omega (arith, h, far) ] }
]

first_one : {P Q : ℕ → Type 0} → FirstOr P → FirstOr Q → FirstOr (λ i. P i ⊎ Q i)
first_one (inl p) (inl q) = inl (nearer p q)
first_one (inl p) (inr n) = inl (record { at = p.at; holds = inl p.holds; least = λ j r. elim r [ inl a ↦ p.least j a | inr b ↦ absurd (n j b) ] })
first_one (inr n) (inl q) = inl (record { at = q.at; holds = inr q.holds; least = λ j r. elim r [ inl a ↦ absurd (n j a) | inr b ↦ q.least j b ] })
first_one (inr n) (inr m) = inr (λ i r. elim r [ inl a ↦ n i a | inr b ↦ m i b ])

-- so many places on
first_after : {P : ℕ → Type 0} (n : ℕ) → FirstOr P → FirstOr (λ i. (j : ℕ) × (i ≡ n + j) × P j)
first_after n (inl p) = inl (record { at = n + p.at; holds = (p.at, refl, p.holds); least = λ j r. let far = p.least r.0 r.2 in omega (arith, far, r.1) })
first_after n (inr none) = inr (λ i r. none r.0 r.2)

-- one place on
first_next : {P : ℕ → Type 0} → FirstOr P → FirstOr (λ i. (j : ℕ) × (i ≡ suc j) × P j)
first_next (inl p) = inl (record { at = suc p.at; holds = (p.at, refl, p.holds); least = λ j r. let far = p.least r.0 r.2 in omega (arith, far, r.1) })
first_next (inr none) = inr (λ i r. none r.0 r.2)

first_after_two : {P : ℕ → Type 0} (m n : ℕ) → FirstOr P → FirstOr (λ i. (j : ℕ) × (i ≡ m + (n + j)) × P j)
first_after_two m n (inl p) = inl (record { at = m + (n + p.at); holds = (p.at, refl, p.holds); least = λ j r. let far = p.least r.0 r.2 in omega (arith, far, r.1) })
first_after_two m n (inr none) = inr (λ i r. none r.0 r.2)

first_here : {A : Type 0} → A ⊎ (A → ⊥) → FirstOr (λ i. (i ≡ 0) × A)
first_here (inl a) = inl (record { at = 0; holds = (refl, a); least = λ j r. omega arith })
first_here (inr n) = inr (λ i r. n r.1)

mutual
  first_key : (x : Value) → FirstOr (IsRepeatedKey x)
  first_key (array xs) = first_next (first_key_among xs)
  first_key (pairs ps) = first_next (first_key_after [] ps)
  first_key (tag n x) = first_next (first_key x)
  first_key (uint n) = inr (λ i h. h)
  first_key (nint n) = inr (λ i h. h)
  first_key (bytes s) = inr (λ i h. h)
  first_key (text s) = inr (λ i h. h)
  first_key (simple n) = inr (λ i h. h)
  first_key (float w n) = inr (λ i h. h)

  first_key_among : (xs : Values) → FirstOr (IsRepeatedKeyAmong xs)
  first_key_among no_values = inr (λ i h. h)
  first_key_among (value x xs) = first_one (first_key x) (first_after (place_count x) (first_key_among xs))

  first_key_after : (earlier : List Value) (ps : Pairs) → FirstOr (IsRepeatedKeyAfter earlier ps)
  first_key_after earlier no_pairs = inr (λ i h. h)
  first_key_after earlier (pair k v ps) =
      first_one (first_here (key_told earlier k))
      (first_one (first_key k)
      (first_one (first_after (place_count k) (first_key v))
      (first_after_two (place_count k) (place_count v) (first_key_after (k ∷ earlier) ps))))

pub key_or : (x : Value) → ((i : ℕ) × IsFirstRepeatedKey x i) ⊎ IsValid x
key_or x = elim (first_key x) [
  | inl f ↦ inl (f.at, record { repeated = f.holds; least = f.least })
  | inr none ↦ inr none
]
