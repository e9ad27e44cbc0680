-- The first text of a form that is not UTF-8 is at one place.
use Rattle.std.proofs.Common.{◌≡◌, ℕ, suc, ◌+◌, inl, inr, List, [], ◌∷◌, length, refl, sym, ap, ◌∙◌}
use Rattle.cbor_data.specs.Forms.{Form, uint_form, nint_form, bytes_form, bytes_chunks, text_form, text_chunks, array_form, array_to_break, pairs_form, pairs_to_break, tag_form, simple_inside, simple_next, float_form, Forms, no_forms, form, PairForms, no_pair_forms, pair_form, Chunk, AllText, chunk_bytes, head_in, forms_len, pair_forms_len, flat, HasText, HaveText, HavePairsText}
use Rattle.cbor_data.specs.Faults.{IsBadChunkAt, IsBadTextAt, IsBadTextAmong, IsBadTextAmongPairs}

good_chunks : (cs : List Chunk) (i : ℕ) → AllText cs → IsBadChunkAt cs i → ⊥
good_chunks [] i t b = b
good_chunks (c ∷ cs) i t (inl b) = b.1 t.0
good_chunks (c ∷ cs) i t (inr b) = good_chunks cs b.0 t.1 b.3

mutual
  -- where each text is UTF-8 no text is bad
  pub good_text : (f : Form) (i : ℕ) → HasText f → IsBadTextAt f i → ⊥
  good_text (uint_form p n) i t b = b
  good_text (nint_form p n) i t b = b
  good_text (bytes_form p s) i t b = b
  good_text (bytes_chunks cs) i t b = b
  good_text (text_form p s) i t b = b.1 t
  good_text (text_chunks cs) i t b = good_chunks cs b.0 t b.2
  good_text (array_form p fs) i t b = good_texts fs b.0 t b.2
  good_text (array_to_break fs) i t b = good_texts fs b.0 t b.2
  good_text (pairs_form p ps) i t b = good_pairs ps b.0 t b.2
  good_text (pairs_to_break ps) i t b = good_pairs ps b.0 t b.2
  good_text (tag_form p n f) i t b = good_text f b.0 t b.2
  good_text (simple_inside n) i t b = b
  good_text (simple_next n) i t b = b
  good_text (float_form w n) i t b = b

  good_texts : (fs : Forms) (i : ℕ) → HaveText fs → IsBadTextAmong fs i → ⊥
  good_texts no_forms i t b = b
  good_texts (form f fs) i t (inl b) = good_text f i t.0 b
  good_texts (form f fs) i t (inr b) = good_texts fs b.1.0 t.1 b.1.2

  good_pairs : (ps : PairForms) (i : ℕ) → HavePairsText ps → IsBadTextAmongPairs ps i → ⊥
  good_pairs no_pair_forms i t b = b
  good_pairs (pair_form k v ps) i t (inl b) = good_text k i t.0 b
  good_pairs (pair_form k v ps) i t (inr (inl b)) = good_text v b.1.0 t.1 b.1.2
  good_pairs (pair_form k v ps) i t (inr (inr b)) = good_pairs ps b.2.0 t.2 b.2.2

-- two places after this many bytes
same_after : {i j k l : ℕ} (n : ℕ) → i ≡ n + k → j ≡ n + l → k ≡ l → i ≡ j
same_after n e f same = e ∙ (ap (λ m. n + m) same ∙ sym f)

-- two places after a byte
next : {i j k l : ℕ} → i ≡ suc k → j ≡ suc l → k ≡ l → i ≡ j
next e f same = e ∙ (ap suc same ∙ sym f)

one_chunk : (cs : List Chunk) (i j : ℕ) → IsBadChunkAt cs i → IsBadChunkAt cs j → i ≡ j
one_chunk [] i j b d = absurd b
one_chunk (c ∷ cs) i j (inl b) (inl d) = b.0 ∙ sym d.0
one_chunk (c ∷ cs) i j (inl b) (inr d) = absurd (b.1 d.2)
one_chunk (c ∷ cs) i j (inr b) (inl d) = absurd (d.1 b.2)
one_chunk (c ∷ cs) i j (inr b) (inr d) = same_after (length (chunk_bytes 3 c)) b.1 d.1 (one_chunk cs b.0 d.0 b.3 d.3)

mutual
  pub one_text : (f : Form) (i j : ℕ) → IsBadTextAt f i → IsBadTextAt f j → i ≡ j
  one_text (uint_form p n) i j b d = absurd b
  one_text (nint_form p n) i j b d = absurd b
  one_text (bytes_form p s) i j b d = absurd b
  one_text (bytes_chunks cs) i j b d = absurd b
  one_text (text_form p s) i j b d = b.0 ∙ sym d.0
  one_text (text_chunks cs) i j b d = next b.1 d.1 (one_chunk cs b.0 d.0 b.2 d.2)
  one_text (array_form p fs) i j b d = same_after (length (head_in p 4 (forms_len fs))) b.1 d.1 (one_among fs b.0 d.0 b.2 d.2)
  one_text (array_to_break fs) i j b d = next b.1 d.1 (one_among fs b.0 d.0 b.2 d.2)
  one_text (pairs_form p ps) i j b d = same_after (length (head_in p 5 (pair_forms_len ps))) b.1 d.1 (one_among_pairs ps b.0 d.0 b.2 d.2)
  one_text (pairs_to_break ps) i j b d = next b.1 d.1 (one_among_pairs ps b.0 d.0 b.2 d.2)
  one_text (tag_form p n f) i j b d = same_after (length (head_in p 6 n)) b.1 d.1 (one_text f b.0 d.0 b.2 d.2)
  one_text (simple_inside n) i j b d = absurd b
  one_text (simple_next n) i j b d = absurd b
  one_text (float_form w n) i j b d = absurd b

  one_among : (fs : Forms) (i j : ℕ) → IsBadTextAmong fs i → IsBadTextAmong fs j → i ≡ j
  one_among no_forms i j b d = absurd b
  one_among (form f fs) i j (inl b) (inl d) = one_text f i j b d
  one_among (form f fs) i j (inl b) (inr d) = absurd (good_text f i d.0 b)
  one_among (form f fs) i j (inr b) (inl d) = absurd (good_text f j b.0 d)
  one_among (form f fs) i j (inr b) (inr d) = same_after (length (flat f)) b.1.1 d.1.1 (one_among fs b.1.0 d.1.0 b.1.2 d.1.2)

  one_among_pairs : (ps : PairForms) (i j : ℕ) → IsBadTextAmongPairs ps i → IsBadTextAmongPairs ps j → i ≡ j
  one_among_pairs no_pair_forms i j b d = absurd b
  one_among_pairs (pair_form k v ps) i j (inl b) (inl d) = one_text k i j b d
  one_among_pairs (pair_form k v ps) i j (inl b) (inr (inl d)) = absurd (good_text k i d.0 b)
  one_among_pairs (pair_form k v ps) i j (inl b) (inr (inr d)) = absurd (good_text k i d.0 b)
  one_among_pairs (pair_form k v ps) i j (inr (inl b)) (inl d) = absurd (good_text k j b.0 d)
  one_among_pairs (pair_form k v ps) i j (inr (inl b)) (inr (inl d)) = same_after (length (flat k)) b.1.1 d.1.1 (one_text v b.1.0 d.1.0 b.1.2 d.1.2)
  one_among_pairs (pair_form k v ps) i j (inr (inl b)) (inr (inr d)) = absurd (good_text v b.1.0 d.1 b.1.2)
  one_among_pairs (pair_form k v ps) i j (inr (inr b)) (inl d) = absurd (good_text k j b.0 d)
  one_among_pairs (pair_form k v ps) i j (inr (inr b)) (inr (inl d)) = absurd (good_text v d.1.0 b.1 d.1.2)
  one_among_pairs (pair_form k v ps) i j (inr (inr b)) (inr (inr d)) =
      same_after (length (flat k)) b.2.1 d.2.1 (same_after (length (flat v)) refl refl (one_among_pairs ps b.2.0 d.2.0 b.2.2 d.2.2))
