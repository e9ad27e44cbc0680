-- The text chunks of a form.
use Rattle.std.specs.Prelude.{◌≡◌, ℕ, suc, ◌+◌, ◌⊎◌, List, [], ◌∷◌, length, IsUtf8}
use Rattle.cbor_data.specs.Forms.{Form, text_form, text_chunks, array_form, array_to_break, pairs_form, pairs_to_break, tag_form, Forms, no_forms, form, PairForms, no_pair_forms, pair_form, Chunk, chunk_bytes, head_in, forms_len, pair_forms_len, flat}
use Rattle.read_building.specs.Building.{Text}

-- that of this content, unless it is empty
abbrev pub text_at : ℕ → List ℕ → List Text → List Text
text_at at [] T = T
text_at at (b ∷ s) T = record { from = at; content = b ∷ s } ∷ T

abbrev pub chunk_texts : ℕ → List Chunk → List Text → List Text
chunk_texts at [] T = T
chunk_texts at (c ∷ cs) T = chunk_texts (at + length (chunk_bytes 3 c)) cs (text_at at c.content T)

-- those of the form whose first byte is at this offset, the last one first, before those in T
abbrev mutual
  pub texts_of : ℕ → Form → List Text → List Text
  texts_of at (text_form p s) T = text_at at s T
  texts_of at (text_chunks cs) T = chunk_texts (suc at) cs T
  texts_of at (array_form p fs) T = texts_among (at + length (head_in p 4 (forms_len fs))) fs T
  texts_of at (array_to_break fs) T = texts_among (suc at) fs T
  texts_of at (pairs_form p ps) T = texts_among_pairs (at + length (head_in p 5 (pair_forms_len ps))) ps T
  texts_of at (pairs_to_break ps) T = texts_among_pairs (suc at) ps T
  texts_of at (tag_form p n f) T = texts_of (at + length (head_in p 6 n)) f T
  texts_of at _ T = T

  pub texts_among : ℕ → Forms → List Text → List Text
  texts_among at no_forms T = T
  texts_among at (form f fs) T = texts_among (at + length (flat f)) fs (texts_of at f T)

  pub texts_among_pairs : ℕ → PairForms → List Text → List Text
  texts_among_pairs at no_pair_forms T = T
  texts_among_pairs at (pair_form k v ps) T = texts_among_pairs (at + length (flat k) + length (flat v)) ps (texts_of (at + length (flat k)) v (texts_of at k T))

-- each is UTF-8
abbrev pub AreTexts : List Text → Type 0
AreTexts [] = Unit {0}
AreTexts (t ∷ T) = IsUtf8 t.content × AreTexts T

-- the first that is not has its head at this offset
abbrev pub IsFirstBad : List Text → ℕ → Type 0
IsFirstBad [] i = ⊥
IsFirstBad (t ∷ T) i = IsFirstBad T i ⊎ (AreTexts T × (IsUtf8 t.content → ⊥) × (i ≡ t.from))
