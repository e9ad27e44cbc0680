-- What a form that is in bytes is, by its first byte.
use Rattle.std.proofs.Common.{◌≡◌, ℕ, ◌+◌, ◌/◌, ◌%◌, ◌<◌, ◌≤◌, List, [], ◌∷◌, ◌++◌, length, take, drop, get_or, decimal, refl, sym, ap, ◌∙◌, arith, append_assoc, length-append, length-drop}
use Rattle.std.specs.Prelude.{codes}
use Rattle.std.specs.Int.{to_be_bytes, w16, w32, w64}
use Rattle.std.proofs.lemmas.List.{take_at}
use Rattle.cbor_data.specs.declared.Width.TheVariants.{W16, W32, W64}
use Rattle.cbor_data.specs.Preferred.{initial}
use Rattle.cbor_data.specs.Value.{Value, bytes, text, array, pairs, tag, simple, float, Values, Pairs}
use Rattle.cbor_data.specs.Forms.{head_in, Chunk, chunks_bytes, joined, Form, uint_form, nint_form, bytes_form, bytes_chunks, text_form, text_chunks, array_form, array_to_break, pairs_form, pairs_to_break, tag_form, simple_inside, simple_next, float_form, flat, meaning, meanings, pair_meanings}
use Rattle.cbor_data.specs.Notation.{notation}
use Rattle.cbor_data.proofs.Lemmas.{form_some}
use Rattle.tape_notation.specs.Heads.{IsHeadAt, IsFormAt, AreChunksFrom}
use Rattle.cbor_tape.proofs.Lemmas.{info_below, form_major, form_info, FormByte, form_byte as first_byte}
use Rattle.tape_notation.proofs.Heads.{past, byte_at}

form_byte : (b : List ℕ) (at : ℕ) (f : Form) → IsFormAt b at f → FormByte b at f
form_byte b at f h = first_byte b at f h.after (record { ok = h.ok; is = h.is })

-- a form has a byte at least
pub form_here : (b : List ℕ) (at : ℕ) (f : Form) → IsFormAt b at f → 0 < length (flat f) → at < length b
form_here b at f h some = omega (arith, ap length h.is, length-append (flat f) h.after, length-drop at b)

pub form_within : (b : List ℕ) (at : ℕ) (f : Form) → IsFormAt b at f → at < length b
form_within b at f h = form_here b at f h (form_some f)

-- numbers

pub uint_there : (b : List ℕ) (at : ℕ) (f : Form) → IsFormAt b at f → get_or b at 0 / 32 ≡ 0 → (n : ℕ) × IsHeadAt b at 0 n × (notation (meaning f) ≡ decimal n)
uint_there b at f h m = by f h ((form_byte b at f h).major ∙ m)
  where
    by : (f : Form) → IsFormAt b at f → form_major f ≡ 0 → (n : ℕ) × IsHeadAt b at 0 n × (notation (meaning f) ≡ decimal n)
    by (uint_form p n) h e = (n, record { size = p; fits = h.ok; after = h.after; is = h.is }, refl)
    by _ h e = absurd (omega arith)

pub nint_there : (b : List ℕ) (at : ℕ) (f : Form) → IsFormAt b at f → get_or b at 0 / 32 ≡ 1 → (n : ℕ) × IsHeadAt b at 1 n × (notation (meaning f) ≡ codes "-" ++ decimal (n + 1))
nint_there b at f h m = by f h ((form_byte b at f h).major ∙ m)
  where
    by : (f : Form) → IsFormAt b at f → form_major f ≡ 1 → (n : ℕ) × IsHeadAt b at 1 n × (notation (meaning f) ≡ codes "-" ++ decimal (n + 1))
    by (nint_form p n) h e = (n, record { size = p; fits = h.ok; after = h.after; is = h.is }, refl)
    by _ h e = absurd (omega arith)

-- strings

-- so many bytes s are behind the head that tells how many they are
pub record IsStringAt (b : List ℕ) (at major : ℕ) (s : List ℕ) : Type 0 where
  pub head : IsHeadAt b at major (length s)
  pub rest : List ℕ
  pub is : head.after ≡ s ++ rest

pub bytes_there : (b : List ℕ) (at : ℕ) (f : Form) → IsFormAt b at f → get_or b at 0 / 32 ≡ 2 → (get_or b at 0 ≡ 95 → ⊥) → (s : List ℕ) × IsStringAt b at 2 s × (meaning f ≡ bytes s)
bytes_there b at f h m not_so = by f h ((form_byte b at f h).major ∙ m) (λ e. not_so (omega (arith, m, (form_byte b at f h).info, e)))
  where
    by : (f : Form) → IsFormAt b at f → form_major f ≡ 2 → (form_info f ≡ 31 → ⊥) → (s : List ℕ) × IsStringAt b at 2 s × (meaning f ≡ bytes s)
    by (bytes_form p s) h e not_so = (s, record { head = record { size = p; fits = h.ok.0; after = s ++ h.after; is = h.is ∙ append_assoc (head_in p 2 (length s)) s h.after }; rest = h.after; is = refl }, refl)
    by (bytes_chunks cs) h e not_so = absurd (not_so refl)
    by _ h e not_so = absurd (omega arith)

pub text_there : (b : List ℕ) (at : ℕ) (f : Form) → IsFormAt b at f → get_or b at 0 / 32 ≡ 3 → (get_or b at 0 ≡ 127 → ⊥) → (s : List ℕ) × IsStringAt b at 3 s × (meaning f ≡ text s)
text_there b at f h m not_so = by f h ((form_byte b at f h).major ∙ m) (λ e. not_so (omega (arith, m, (form_byte b at f h).info, e)))
  where
    by : (f : Form) → IsFormAt b at f → form_major f ≡ 3 → (form_info f ≡ 31 → ⊥) → (s : List ℕ) × IsStringAt b at 3 s × (meaning f ≡ text s)
    by (text_form p s) h e not_so = (s, record { head = record { size = p; fits = h.ok.0; after = s ++ h.after; is = h.is ∙ append_assoc (head_in p 3 (length s)) s h.after }; rest = h.after; is = refl }, refl)
    by (text_chunks cs) h e not_so = absurd (not_so refl)
    by _ h e not_so = absurd (omega arith)

-- strings in chunks

broken : (b : List ℕ) (at m : ℕ) (inner after : List ℕ) → drop at b ≡ (initial m 31 ∷ (inner ++ 255 ∷ [])) ++ after → drop (at + 1) b ≡ inner ++ 255 ∷ after
broken b at m inner after is = past b at 1 (initial m 31 ∷ []) ((inner ++ 255 ∷ []) ++ after) is refl ∙ append_assoc inner (255 ∷ []) after

pub byte_chunks_there : (b : List ℕ) (at : ℕ) (f : Form) → IsFormAt b at f → get_or b at 0 ≡ 95 → (cs : List Chunk) × AreChunksFrom 2 b (at + 1) cs × (meaning f ≡ bytes (joined cs))
byte_chunks_there b at f h m = by f h (omega (arith, (form_byte b at f h).major)) (omega (arith, (form_byte b at f h).info))
  where
    by : (f : Form) → IsFormAt b at f → form_major f ≡ 2 → form_info f ≡ 31 → (cs : List Chunk) × AreChunksFrom 2 b (at + 1) cs × (meaning f ≡ bytes (joined cs))
    by (bytes_chunks cs) h e i = (cs, record { ok = h.ok; after = h.after; is = broken b at 2 (chunks_bytes 2 cs) h.after h.is }, refl)
    by (bytes_form p s) h e i = absurd (omega (arith, i, info_below p (length s) h.ok.0))
    by _ h e i = absurd (omega arith)

pub text_chunks_there : (b : List ℕ) (at : ℕ) (f : Form) → IsFormAt b at f → get_or b at 0 ≡ 127 → (cs : List Chunk) × AreChunksFrom 3 b (at + 1) cs × (meaning f ≡ text (joined cs))
text_chunks_there b at f h m = by f h (omega (arith, (form_byte b at f h).major)) (omega (arith, (form_byte b at f h).info))
  where
    by : (f : Form) → IsFormAt b at f → form_major f ≡ 3 → form_info f ≡ 31 → (cs : List Chunk) × AreChunksFrom 3 b (at + 1) cs × (meaning f ≡ text (joined cs))
    by (text_chunks cs) h e i = (cs, record { ok = h.ok; after = h.after; is = broken b at 3 (chunks_bytes 3 cs) h.after h.is }, refl)
    by (text_form p s) h e i = absurd (omega (arith, i, info_below p (length s) h.ok.0))
    by _ h e i = absurd (omega arith)

-- simple values and floats

pub inside_there : (b : List ℕ) (at : ℕ) (f : Form) → IsFormAt b at f → get_or b at 0 / 32 ≡ 7 → (get_or b at 0 % 32 ≡ 24 → ⊥) → (get_or b at 0 % 32 ≡ 25 → ⊥) → (get_or b at 0 % 32 ≡ 26 → ⊥) → (get_or b at 0 % 32 ≡ 27 → ⊥) → meaning f ≡ simple (get_or b at 0 % 32)
inside_there b at f h m no_next no_16 no_32 no_64 = by f ((form_byte b at f h).major ∙ m) (form_byte b at f h).info
  where
    by : (f : Form) → form_major f ≡ 7 → form_info f ≡ get_or b at 0 % 32 → meaning f ≡ simple (get_or b at 0 % 32)
    by (simple_inside n) e i = ap simple i
    by (simple_next n) e i = absurd (no_next (sym i))
    by (float_form W16 n) e i = absurd (no_16 (sym i))
    by (float_form W32 n) e i = absurd (no_32 (sym i))
    by (float_form W64 n) e i = absurd (no_64 (sym i))
    by _ e i = absurd (omega arith)

pub next_there : (b : List ℕ) (at : ℕ) (f : Form) → IsFormAt b at f → get_or b at 0 / 32 ≡ 7 → get_or b at 0 % 32 ≡ 24 → (at + 1 < length b) × (meaning f ≡ simple (get_or b (at + 1) 0))
next_there b at f h m i = by f h ((form_byte b at f h).major ∙ m) ((form_byte b at f h).info ∙ i)
  where
    by : (f : Form) → IsFormAt b at f → form_major f ≡ 7 → form_info f ≡ 24 → (at + 1 < length b) × (meaning f ≡ simple (get_or b (at + 1) 0))
    by (simple_next n) h e i = (
      omega (arith, ap length h.is, length-append (flat (simple_next n)) h.after, length-drop at b),
      ap simple (sym (byte_at b (at + 1) n h.after (past b at 1 (initial 7 24 ∷ []) (n ∷ h.after) h.is refl))),
    )
    by (simple_inside n) h e i = absurd (omega (arith, i, h.ok))
    by (float_form W16 n) h e i = absurd (omega arith)
    by (float_form W32 n) h e i = absurd (omega arith)
    by (float_form W64 n) h e i = absurd (omega arith)
    by _ h e i = absurd (omega arith)

-- the bits of a float are so many bytes behind the initial one
bits_there : (b : List ℕ) (at k x : ℕ) (bits after : List ℕ) → drop at b ≡ (x ∷ bits) ++ after → length bits ≡ k → ((at + 1) + k ≤ length b) × (take k (drop (at + 1) b) ≡ bits)
bits_there b at k x bits after is len = (
  omega (arith, ap length is, length-append (x ∷ bits) after, length-drop at b, len),
  ap (take k) (past b at 1 (x ∷ []) (bits ++ after) is refl) ∙ take_at bits after k len,
)

pub half_there : (b : List ℕ) (at : ℕ) (f : Form) → IsFormAt b at f → get_or b at 0 / 32 ≡ 7 → get_or b at 0 % 32 ≡ 25 → (n : ℕ) × ((at + 1) + 2 ≤ length b) × (take 2 (drop (at + 1) b) ≡ to_be_bytes w16 n) × (meaning f ≡ float W16 n)
half_there b at f h m i = by f h ((form_byte b at f h).major ∙ m) ((form_byte b at f h).info ∙ i)
  where
    by : (f : Form) → IsFormAt b at f → form_major f ≡ 7 → form_info f ≡ 25 → (n : ℕ) × ((at + 1) + 2 ≤ length b) × (take 2 (drop (at + 1) b) ≡ to_be_bytes w16 n) × (meaning f ≡ float W16 n)
    by (float_form W16 n) h e i = let t = bits_there b at 2 (initial 7 25) (to_be_bytes w16 n) h.after h.is refl in (n, t.0, t.1, refl)
    by (simple_inside n) h e i = absurd (omega (arith, i, h.ok))
    by (simple_next n) h e i = absurd (omega arith)
    by (float_form W32 n) h e i = absurd (omega arith)
    by (float_form W64 n) h e i = absurd (omega arith)
    by _ h e i = absurd (omega arith)

pub single_there : (b : List ℕ) (at : ℕ) (f : Form) → IsFormAt b at f → get_or b at 0 / 32 ≡ 7 → get_or b at 0 % 32 ≡ 26 → (n : ℕ) × ((at + 1) + 4 ≤ length b) × (take 4 (drop (at + 1) b) ≡ to_be_bytes w32 n) × (meaning f ≡ float W32 n)
single_there b at f h m i = by f h ((form_byte b at f h).major ∙ m) ((form_byte b at f h).info ∙ i)
  where
    by : (f : Form) → IsFormAt b at f → form_major f ≡ 7 → form_info f ≡ 26 → (n : ℕ) × ((at + 1) + 4 ≤ length b) × (take 4 (drop (at + 1) b) ≡ to_be_bytes w32 n) × (meaning f ≡ float W32 n)
    by (float_form W32 n) h e i = let t = bits_there b at 4 (initial 7 26) (to_be_bytes w32 n) h.after h.is refl in (n, t.0, t.1, refl)
    by (simple_inside n) h e i = absurd (omega (arith, i, h.ok))
    by (simple_next n) h e i = absurd (omega arith)
    by (float_form W16 n) h e i = absurd (omega arith)
    by (float_form W64 n) h e i = absurd (omega arith)
    by _ h e i = absurd (omega arith)

pub double_there : (b : List ℕ) (at : ℕ) (f : Form) → IsFormAt b at f → get_or b at 0 / 32 ≡ 7 → get_or b at 0 % 32 ≡ 27 → (n : ℕ) × ((at + 1) + 8 ≤ length b) × (take 8 (drop (at + 1) b) ≡ to_be_bytes w64 n) × (meaning f ≡ float W64 n)
double_there b at f h m i = by f h ((form_byte b at f h).major ∙ m) ((form_byte b at f h).info ∙ i)
  where
    by : (f : Form) → IsFormAt b at f → form_major f ≡ 7 → form_info f ≡ 27 → (n : ℕ) × ((at + 1) + 8 ≤ length b) × (take 8 (drop (at + 1) b) ≡ to_be_bytes w64 n) × (meaning f ≡ float W64 n)
    by (float_form W64 n) h e i = let t = bits_there b at 8 (initial 7 27) (to_be_bytes w64 n) h.after h.is refl in (n, t.0, t.1, refl)
    by (simple_inside n) h e i = absurd (omega (arith, i, h.ok))
    by (simple_next n) h e i = absurd (omega arith)
    by (float_form W16 n) h e i = absurd (omega arith)
    by (float_form W32 n) h e i = absurd (omega arith)
    by _ h e i = absurd (omega arith)

-- what has parts

pub is_array : (b : List ℕ) (at : ℕ) (f : Form) → IsFormAt b at f → get_or b at 0 / 32 ≡ 4 → (xs : Values) × (meaning f ≡ array xs)
is_array b at f h m = by f ((form_byte b at f h).major ∙ m)
  where
    by : (f : Form) → form_major f ≡ 4 → (xs : Values) × (meaning f ≡ array xs)
    by (array_form p fs) e = (meanings fs, refl)
    by (array_to_break fs) e = (meanings fs, refl)
    by _ e = absurd (omega arith)

pub is_map : (b : List ℕ) (at : ℕ) (f : Form) → IsFormAt b at f → get_or b at 0 / 32 ≡ 5 → (ps : Pairs) × (meaning f ≡ pairs ps)
is_map b at f h m = by f ((form_byte b at f h).major ∙ m)
  where
    by : (f : Form) → form_major f ≡ 5 → (ps : Pairs) × (meaning f ≡ pairs ps)
    by (pairs_form p ps) e = (pair_meanings ps, refl)
    by (pairs_to_break ps) e = (pair_meanings ps, refl)
    by _ e = absurd (omega arith)

pub is_tag : (b : List ℕ) (at : ℕ) (f : Form) → IsFormAt b at f → get_or b at 0 / 32 ≡ 6 → (n : ℕ) × (x : Value) × IsHeadAt b at 6 n × (meaning f ≡ tag n x)
is_tag b at f h m = by f h ((form_byte b at f h).major ∙ m)
  where
    by : (f : Form) → IsFormAt b at f → form_major f ≡ 6 → (n : ℕ) × (x : Value) × IsHeadAt b at 6 n × (meaning f ≡ tag n x)
    by (tag_form p n g) h e = (n, meaning g, record { size = p; fits = h.ok.0; after = flat g ++ h.after; is = h.is ∙ append_assoc (head_in p 6 n) (flat g) h.after }, refl)
    by _ h e = absurd (omega arith)

-- a number or a string has a head, where it is in one part
pub plain_head : (b : List ℕ) (at : ℕ) (f : Form) → IsFormAt b at f → get_or b at 0 < 128 → (get_or b at 0 ≡ 95 → ⊥) → (get_or b at 0 ≡ 127 → ⊥) → (m : ℕ) × (n : ℕ) × IsHeadAt b at m n
plain_head b at f h plain no_bytes no_text = by f h (form_byte b at f h).major (form_byte b at f h).info
  where
    by : (f : Form) → IsFormAt b at f → form_major f ≡ get_or b at 0 / 32 → form_info f ≡ get_or b at 0 % 32 → (m : ℕ) × (n : ℕ) × IsHeadAt b at m n
    by (uint_form p n) h e i = (0, n, record { size = p; fits = h.ok; after = h.after; is = h.is })
    by (nint_form p n) h e i = (1, n, record { size = p; fits = h.ok; after = h.after; is = h.is })
    by (bytes_form p s) h e i = (2, length s, record { size = p; fits = h.ok.0; after = s ++ h.after; is = h.is ∙ append_assoc (head_in p 2 (length s)) s h.after })
    by (text_form p s) h e i = (3, length s, record { size = p; fits = h.ok.0; after = s ++ h.after; is = h.is ∙ append_assoc (head_in p 3 (length s)) s h.after })
    by (bytes_chunks cs) h e i = absurd (no_bytes (omega (arith, e, i)))
    by (text_chunks cs) h e i = absurd (no_text (omega (arith, e, i)))
    by _ h e i = absurd (omega arith)
