-- What the text chunks that the machine went by tell of the form.
use Rattle.std.proofs.Common.{◌≡◌, ℕ, zero, suc, ◌+◌, ◌⊎◌, inl, inr, List, [], ◌∷◌, ◌++◌, length, refl, ◌∙◌, subst, arith}
use Rattle.std.specs.Str.{IsUtf8}
use Rattle.std.proofs.lemmas.Str.{IsUtf8-nil}
use Rattle.cbor_data.specs.Forms.{head_in, Form, uint_form, nint_form, bytes_form, bytes_chunks, text_form, text_chunks, array_form, array_to_break, pairs_form, pairs_to_break, tag_form, simple_inside, simple_next, float_form, Forms, no_forms, form, PairForms, no_pair_forms, pair_form, Chunk, chunk_bytes, forms_len, pair_forms_len, flat, HasText, HaveText, HavePairsText, AllText}
use Rattle.cbor_data.specs.Faults.{IsBadChunkAt, IsBadTextAt, IsBadTextAmong, IsBadTextAmongPairs}
use Rattle.read_building.specs.Building.{Text, State, item, argument, string, bits, chunk, chunk_argument, chunk_string, simple_value, done, text_ended, ended}
use Rattle.read_building.specs.Texts.{text_at, chunk_texts, texts_of, texts_among, texts_among_pairs, AreTexts, IsFirstBad}

text_holds : (at : ℕ) (s : List ℕ) (T : List Text) → AreTexts (text_at at s T) → IsUtf8 s × AreTexts T
text_holds at [] T h = (IsUtf8-nil, h)
text_holds at (b ∷ s) T h = h

chunks_hold : (cs : List Chunk) (at : ℕ) (T : List Text) → AreTexts (chunk_texts at cs T) → AllText cs × AreTexts T
chunks_hold [] at T h = (tt, h)
chunks_hold (c ∷ cs) at T h =
    let rest = chunks_hold cs (at + length (chunk_bytes 3 c)) (text_at at c.content T) h in
    let here = text_holds at c.content T rest.1 in
    ((here.0, rest.0), here.1)

mutual
  -- each text chunk of the form is UTF-8 where all that were told are
  pub hold : (f : Form) (at : ℕ) (T : List Text) → AreTexts (texts_of at f T) → HasText f × AreTexts T
  hold (uint_form p n) at T h = (tt, h)
  hold (nint_form p n) at T h = (tt, h)
  hold (bytes_form p s) at T h = (tt, h)
  hold (bytes_chunks cs) at T h = (tt, h)
  hold (text_form p s) at T h = text_holds at s T h
  hold (text_chunks cs) at T h = chunks_hold cs (suc at) T h
  hold (array_form p fs) at T h = hold_all fs (at + length (head_in p 4 (forms_len fs))) T h
  hold (array_to_break fs) at T h = hold_all fs (suc at) T h
  hold (pairs_form p ps) at T h = hold_pairs ps (at + length (head_in p 5 (pair_forms_len ps))) T h
  hold (pairs_to_break ps) at T h = hold_pairs ps (suc at) T h
  hold (tag_form p n f) at T h = hold f (at + length (head_in p 6 n)) T h
  hold (simple_inside n) at T h = (tt, h)
  hold (simple_next n) at T h = (tt, h)
  hold (float_form w n) at T h = (tt, h)

  pub hold_all : (fs : Forms) (at : ℕ) (T : List Text) → AreTexts (texts_among at fs T) → HaveText fs × AreTexts T
  hold_all no_forms at T h = (tt, h)
  hold_all (form f fs) at T h =
      let rest = hold_all fs (at + length (flat f)) (texts_of at f T) h in
      let here = hold f at T rest.1 in
      ((here.0, rest.0), here.1)

  pub hold_pairs : (ps : PairForms) (at : ℕ) (T : List Text) → AreTexts (texts_among_pairs at ps T) → HavePairsText ps × AreTexts T
  hold_pairs no_pair_forms at T h = (tt, h)
  hold_pairs (pair_form k v ps) at T h =
      let i = at + length (flat k) in
      let rest = hold_pairs ps (i + length (flat v)) (texts_of i v (texts_of at k T)) h in
      let there = hold v i (texts_of at k T) rest.1 in
      let here = hold k at T there.1 in
      ((here.0, there.0, rest.0), here.1)

text_kept : (at : ℕ) (s : List ℕ) (T : List Text) → IsUtf8 s → AreTexts T → AreTexts (text_at at s T)
text_kept at [] T u h = h
text_kept at (b ∷ s) T u h = (u, h)

chunks_kept : (cs : List Chunk) (at : ℕ) (T : List Text) → AllText cs → AreTexts T → AreTexts (chunk_texts at cs T)
chunks_kept [] at T u h = h
chunks_kept (c ∷ cs) at T u h = chunks_kept cs (at + length (chunk_bytes 3 c)) (text_at at c.content T) u.1 (text_kept at c.content T u.0 h)

mutual
  -- where each text chunk of the form is UTF-8, all that are told stay so
  pub kept : (f : Form) (at : ℕ) (T : List Text) → HasText f → AreTexts T → AreTexts (texts_of at f T)
  kept (uint_form p n) at T u h = h
  kept (nint_form p n) at T u h = h
  kept (bytes_form p s) at T u h = h
  kept (bytes_chunks cs) at T u h = h
  kept (text_form p s) at T u h = text_kept at s T u h
  kept (text_chunks cs) at T u h = chunks_kept cs (suc at) T u h
  kept (array_form p fs) at T u h = kept_all fs (at + length (head_in p 4 (forms_len fs))) T u h
  kept (array_to_break fs) at T u h = kept_all fs (suc at) T u h
  kept (pairs_form p ps) at T u h = kept_pairs ps (at + length (head_in p 5 (pair_forms_len ps))) T u h
  kept (pairs_to_break ps) at T u h = kept_pairs ps (suc at) T u h
  kept (tag_form p n f) at T u h = kept f (at + length (head_in p 6 n)) T u h
  kept (simple_inside n) at T u h = h
  kept (simple_next n) at T u h = h
  kept (float_form w n) at T u h = h

  pub kept_all : (fs : Forms) (at : ℕ) (T : List Text) → HaveText fs → AreTexts T → AreTexts (texts_among at fs T)
  kept_all no_forms at T u h = h
  kept_all (form f fs) at T u h = kept_all fs (at + length (flat f)) (texts_of at f T) u.1 (kept f at T u.0 h)

  pub kept_pairs : (ps : PairForms) (at : ℕ) (T : List Text) → HavePairsText ps → AreTexts T → AreTexts (texts_among_pairs at ps T)
  kept_pairs no_pair_forms at T u h = h
  kept_pairs (pair_form k v ps) at T u h =
      let i = at + length (flat k) in
      kept_pairs ps (i + length (flat v)) (texts_of i v (texts_of at k T)) u.2 (kept v i (texts_of at k T) u.1 (kept k at T u.0 h))

-- the first that is no text was told before, or is in a form (or in chunks, or among forms) from `at` on
abbrev Bad : List Text → ℕ → ℕ → (ℕ → Type 0) → Type 0
Bad T at i IsBad = IsFirstBad T i ⊎ (AreTexts T × (j : ℕ) × (i ≡ at + j) × IsBad j)

text_bad : (at : ℕ) (s : List ℕ) (T : List Text) (i : ℕ) → IsFirstBad (text_at at s T) i → IsFirstBad T i ⊎ (AreTexts T × (IsUtf8 s → ⊥) × (i ≡ at))
text_bad at [] T i h = inl h
text_bad at (b ∷ s) T i h = h

chunks_bad : (cs : List Chunk) (at : ℕ) (T : List Text) (i : ℕ) → IsFirstBad (chunk_texts at cs T) i → Bad T at i (IsBadChunkAt cs)
chunks_bad [] at T i h = inl h
chunks_bad (c ∷ cs) at T i h =
    elim (chunks_bad cs (at + length (chunk_bytes 3 c)) (text_at at c.content T) i h) [
      | inl g ↦ elim (text_bad at c.content T i g) [
        | inl g ↦ inl g
        | inr g ↦ inr (g.0, 0, g.2 ∙ omega arith, inl (refl, g.1))
      ]
      | inr g ↦
          let here = text_holds at c.content T g.0 in
          let e : i ≡ (at + length (chunk_bytes 3 c)) + g.1 = g.2 in
          inr (here.1, length (chunk_bytes 3 c) + g.1, omega (arith, e), inr (g.1, refl, here.0, g.3))
    ]

-- a part that begins so much later
later : (T : List Text) (at n i : ℕ) (IsBad IsBadPart : ℕ → Type 0) → ((j : ℕ) → IsBadPart j → IsBad (n + j)) → Bad T (at + n) i IsBadPart → Bad T at i IsBad
later T at n i IsBad IsBadPart f (inl g) = inl g
later T at n i IsBad IsBadPart f (inr g) = let e : i ≡ (at + n) + g.1 = g.2 in inr (g.0, n + g.1, omega (arith, e), f g.1 g.3)

mutual
  pub bad : (f : Form) (at : ℕ) (T : List Text) (i : ℕ) → IsFirstBad (texts_of at f T) i → Bad T at i (IsBadTextAt f)
  bad (uint_form p n) at T i h = inl h
  bad (nint_form p n) at T i h = inl h
  bad (bytes_form p s) at T i h = inl h
  bad (bytes_chunks cs) at T i h = inl h
  bad (text_form p s) at T i h = elim (text_bad at s T i h) [ inl g ↦ inl g | inr g ↦ inr (g.0, 0, g.2 ∙ omega arith, (refl, g.1)) ]
  bad (text_chunks cs) at T i h = later T at 1 i (IsBadTextAt (text_chunks cs)) (IsBadChunkAt cs) (λ j b. (j, omega arith, b)) (subst (λ a. Bad T a i (IsBadChunkAt cs)) (omega arith) (chunks_bad cs (suc at) T i h))
  bad (array_form p fs) at T i h = let n = length (head_in p 4 (forms_len fs)) in later T at n i (IsBadTextAt (array_form p fs)) (IsBadTextAmong fs) (λ j b. (j, refl, b)) (bad_among fs (at + n) T i h)
  bad (array_to_break fs) at T i h = later T at 1 i (IsBadTextAt (array_to_break fs)) (IsBadTextAmong fs) (λ j b. (j, omega arith, b)) (subst (λ a. Bad T a i (IsBadTextAmong fs)) (omega arith) (bad_among fs (suc at) T i h))
  bad (pairs_form p ps) at T i h = let n = length (head_in p 5 (pair_forms_len ps)) in later T at n i (IsBadTextAt (pairs_form p ps)) (IsBadTextAmongPairs ps) (λ j b. (j, refl, b)) (bad_among_pairs ps (at + n) T i h)
  bad (pairs_to_break ps) at T i h = later T at 1 i (IsBadTextAt (pairs_to_break ps)) (IsBadTextAmongPairs ps) (λ j b. (j, omega arith, b)) (subst (λ a. Bad T a i (IsBadTextAmongPairs ps)) (omega arith) (bad_among_pairs ps (suc at) T i h))
  bad (tag_form p n f) at T i h = let n' = length (head_in p 6 n) in later T at n' i (IsBadTextAt (tag_form p n f)) (IsBadTextAt f) (λ j b. (j, refl, b)) (bad f (at + n') T i h)
  bad (simple_inside n) at T i h = inl h
  bad (simple_next n) at T i h = inl h
  bad (float_form w n) at T i h = inl h

  pub bad_among : (fs : Forms) (at : ℕ) (T : List Text) (i : ℕ) → IsFirstBad (texts_among at fs T) i → Bad T at i (IsBadTextAmong fs)
  bad_among no_forms at T i h = inl h
  bad_among (form f fs) at T i h =
      let n = length (flat f) in
      elim (bad_among fs (at + n) (texts_of at f T) i h) [
        | inl g ↦ elim (bad f at T i g) [ inl g ↦ inl g | inr g ↦ inr (g.0, g.1, g.2, inl g.3) ]
        | inr g ↦
            let here = hold f at T g.0 in
            let e : i ≡ (at + n) + g.1 = g.2 in
            inr (here.1, n + g.1, omega (arith, e), inr (here.0, (g.1, refl, g.3)))
      ]

  pub bad_among_pairs : (ps : PairForms) (at : ℕ) (T : List Text) (i : ℕ) → IsFirstBad (texts_among_pairs at ps T) i → Bad T at i (IsBadTextAmongPairs ps)
  bad_among_pairs no_pair_forms at T i h = inl h
  bad_among_pairs (pair_form k v ps) at T i h =
      let n = length (flat k) in
      let m = length (flat v) in
      elim (bad_among_pairs ps ((at + n) + m) (texts_of (at + n) v (texts_of at k T)) i h) [
        | inl g ↦ elim (bad v (at + n) (texts_of at k T) i g) [
          | inl g ↦ elim (bad k at T i g) [ inl g ↦ inl g | inr g ↦ inr (g.0, g.1, g.2, inl g.3) ]
          | inr g ↦
              let here = hold k at T g.0 in
              let e : i ≡ (at + n) + g.1 = g.2 in
              inr (here.1, n + g.1, omega (arith, e), inr (inl (here.0, (g.1, refl, g.3))))
        ]
        | inr g ↦
            let there = hold v (at + n) (texts_of at k T) g.0 in
            let here = hold k at T there.1 in
            let e : i ≡ ((at + n) + m) + g.1 = g.2 in
            inr (here.1, n + (m + g.1), omega (arith, e), inr (inr (here.0, there.0, (g.1, refl, g.3))))
      ]

text_ended_bad : (m at : ℕ) (s : List ℕ) (T : List Text) (i : ℕ) → IsFirstBad T i → IsFirstBad (text_ended m at s T) i
text_ended_bad zero at s T i h = h
text_ended_bad (suc zero) at s T i h = h
text_ended_bad (suc (suc zero)) at s T i h = h
text_ended_bad (suc (suc (suc m))) at s T i h = inl h

-- what is told first stays so
pub ended_bad : (s : State) (b : ℕ) (T : List Text) (i : ℕ) → IsFirstBad T i → IsFirstBad (ended s b T) i
ended_bad (item K) b T i h = h
ended_bad (argument from m k n K) b T i h = h
ended_bad (string from m zero s K) b T i h = text_ended_bad m from (s ++ b ∷ []) T i h
ended_bad (string from m (suc k) s K) b T i h = h
ended_bad (bits w k n K) b T i h = h
ended_bad (chunk m s K) b T i h = h
ended_bad (chunk_argument from m k n s K) b T i h = h
ended_bad (chunk_string from m zero s c K) b T i h = text_ended_bad m from (c ++ b ∷ []) T i h
ended_bad (chunk_string from m (suc k) s c K) b T i h = h
ended_bad (simple_value K) b T i h = h
ended_bad (done x) b T i h = h
