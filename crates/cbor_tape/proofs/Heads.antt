-- Heads, and the forms that begin with them.
use Rattle.std.proofs.Common.{◌≡◌, ℕ, suc, ◌+◌, ◌/◌, ◌%◌, ◌<◌, ◌≤◌, List, [], ◌∷◌, ◌++◌, length, take, drop, get_or, refl, sym, ap, ◌∙◌, arith, append_assoc, append-nil}
use Rattle.std.proofs.lemmas.List.{drop-drop, drop_at, take_at}
use Rattle.std.specs.Int.{to_be_bytes, w8, w16, w32, w64}
use Rattle.cbor_data.specs.Preferred.{initial}
use Rattle.cbor_data.specs.Value.{bytes, text, array, pairs, tag, Pairs, values_len, pairs_len}
use Rattle.cbor_data.specs.Forms.{ArgumentSize, inside, one, two, four, eight, head_in, FitsSize, Chunk, chunks_bytes, joined, Form, uint_form, bytes_form, bytes_chunks, text_form, text_chunks, array_form, array_to_break, pairs_form, pairs_to_break, tag_form, Forms, no_forms, form, PairForms, no_pair_forms, pair_form, forms_len, pair_forms_len, flat, forms_flat, pair_forms_flat, meaning, meanings, pair_meanings}
use Rattle.cbor_data.proofs.Lemmas.{one_form}
use Rattle.read_items.specs.Whole.Parts.{IsArgumentAt}
use Rattle.read_items.proofs.OfWhole.Lemmas.{is_info}
use Rattle.cbor_tape.specs.Contents.{AreChunksFrom, IsPieceAt}
use Rattle.cbor_tape.specs.Parted.{AreFormsFrom, IsFormAt}
use Rattle.cbor_tape.proofs.Forms.{info_of, info_below, head_first, form_major, form_info, form_byte}

-- the bytes of a head without its major type
abbrev lowered : List ℕ → List ℕ
lowered [] = []
lowered (x ∷ xs) = x % 32 ∷ xs

head_lowered : (p : ArgumentSize) (m n : ℕ) (r : List ℕ) → FitsSize p n → lowered (head_in p m n ++ r) ≡ head_in p 0 n ++ r
head_lowered inside m n r h = let e : initial m n % 32 ≡ initial 0 n = omega arith in ap (λ x. x ∷ r) e
head_lowered one m n r h = let e : initial m 24 % 32 ≡ initial 0 24 = omega arith in ap (λ x. x ∷ (to_be_bytes w8 n ++ r)) e
head_lowered two m n r h = let e : initial m 25 % 32 ≡ initial 0 25 = omega arith in ap (λ x. x ∷ (to_be_bytes w16 n ++ r)) e
head_lowered four m n r h = let e : initial m 26 % 32 ≡ initial 0 26 = omega arith in ap (λ x. x ∷ (to_be_bytes w32 n ++ r)) e
head_lowered eight m n r h = let e : initial m 27 % 32 ≡ initial 0 27 = omega arith in ap (λ x. x ∷ (to_be_bytes w64 n ++ r)) e

-- heads with which one list begins are one
pub same_head : (p q : ArgumentSize) (m k n l : ℕ) (r s : List ℕ) → FitsSize p n → FitsSize q l → head_in p m n ++ r ≡ head_in q k l ++ s → (m ≡ k) × (n ≡ l) × (r ≡ s)
same_head p q m k n l r s h g e =
    let first : initial m (info_of p n) ≡ initial k (info_of q l) = sym (head_first p m n r) ∙ (ap (λ bs. get_or bs 0 0) e ∙ head_first q k l s) in
    let small : info_of p n < 28 = info_below p n h in
    let small_too : info_of q l < 28 = info_below q l g in
    let low : flat (uint_form p n) ++ r ≡ flat (uint_form q l) ++ s = sym (head_lowered p m n r h) ∙ (ap lowered e ∙ head_lowered q k l s g) in
    let both : (uint_form p n ≡ uint_form q l) × (r ≡ s) = one_form (uint_form p n) (uint_form q l) r s h g low in
    let forms : uint_form p n ≡ uint_form q l = both.0 in
    let major : m ≡ k = omega arith in
    let argument : n ≡ l = cc in
    (major, argument, both.1)

-- a head is no break
no_break : (p : ArgumentSize) (m n : ℕ) (r s : List ℕ) → FitsSize p n → head_in p m n ++ r ≡ 255 ∷ s → m < 8 → ⊥
no_break p m n r s h e few =
    let first : initial m (info_of p n) ≡ 255 = sym (head_first p m n r) ∙ ap (λ bs. get_or bs 0 0) e in
    let small : info_of p n < 28 = info_below p n h in
    omega arith

pub values_counted : (fs : Forms) → values_len (meanings fs) ≡ forms_len fs
values_counted no_forms = refl
values_counted (form f fs) = ap suc (values_counted fs)

pub pairs_counted : (ps : PairForms) → pairs_len (pair_meanings ps) ≡ pair_forms_len ps
pairs_counted no_pair_forms = refl
pairs_counted (pair_form k v ps) = ap suc (pairs_counted ps)

-- what follows the head of an array, and how many pairs a map has, and what follows the head of a tag

pub array_parts : (b : List ℕ) (at n start : ℕ) (f : Form) (after : List ℕ) → IsFormAt b at f after → IsArgumentAt b at n start → get_or b at 0 / 32 ≡ 4 → (fs : Forms) × (meaning f ≡ array (meanings fs)) × AreFormsFrom b start fs after × (forms_len fs ≡ n)
array_parts b at n start f after h head m = by f h ((form_byte b at f after h).major ∙ m) (form_byte b at f after h).info
  where
    by : (f : Form) → IsFormAt b at f after → form_major f ≡ 4 → form_info f ≡ get_or b at 0 % 32 → (fs : Forms) × (meaning f ≡ array (meanings fs)) × AreFormsFrom b start fs after × (forms_len fs ≡ n)
    by (array_form p fs) h e i =
        let same = same_head p head.size 4 (get_or b at 0 / 32) (forms_len fs) n (forms_flat fs ++ after) (drop start b) h.ok.0 head.fits (sym (append_assoc (head_in p 4 (forms_len fs)) (forms_flat fs) after) ∙ (sym h.is ∙ head.is)) in
        (fs, refl, record { ok = h.ok.1; is = sym same.2 }, same.1)
    by (array_to_break fs) h e i = absurd (omega (arith, i, (is_info b at n start head).0))
    by _ h e i = absurd (omega arith)

pub map_pairs : (b : List ℕ) (at n start : ℕ) (f : Form) (after : List ℕ) → IsFormAt b at f after → IsArgumentAt b at n start → get_or b at 0 / 32 ≡ 5 → (ps : Pairs) × (meaning f ≡ pairs ps) × (pairs_len ps ≡ n)
map_pairs b at n start f after h head m = by f h ((form_byte b at f after h).major ∙ m) (form_byte b at f after h).info
  where
    by : (f : Form) → IsFormAt b at f after → form_major f ≡ 5 → form_info f ≡ get_or b at 0 % 32 → (ps : Pairs) × (meaning f ≡ pairs ps) × (pairs_len ps ≡ n)
    by (pairs_form p ps) h e i =
        let same = same_head p head.size 5 (get_or b at 0 / 32) (pair_forms_len ps) n (pair_forms_flat ps ++ after) (drop start b) h.ok.0 head.fits (sym (append_assoc (head_in p 5 (pair_forms_len ps)) (pair_forms_flat ps) after) ∙ (sym h.is ∙ head.is)) in
        (pair_meanings ps, refl, pairs_counted ps ∙ same.1)
    by (pairs_to_break ps) h e i = absurd (omega (arith, i, (is_info b at n start head).0))
    by _ h e i = absurd (omega arith)

pub tag_part : (b : List ℕ) (at n start : ℕ) (f : Form) (after : List ℕ) → IsFormAt b at f after → IsArgumentAt b at n start → get_or b at 0 / 32 ≡ 6 → (g : Form) × (meaning f ≡ tag n (meaning g)) × AreFormsFrom b start (form g no_forms) after
tag_part b at n start f after h head m = by f h ((form_byte b at f after h).major ∙ m)
  where
    by : (f : Form) → IsFormAt b at f after → form_major f ≡ 6 → (g : Form) × (meaning f ≡ tag n (meaning g)) × AreFormsFrom b start (form g no_forms) after
    by (tag_form p l g) h e =
        let same = same_head p head.size 6 (get_or b at 0 / 32) l n (flat g ++ after) (drop start b) h.ok.0 head.fits (sym (append_assoc (head_in p 6 l) (flat g) after) ∙ (sym h.is ∙ head.is)) in
        (g, ap (λ k. tag k (meaning g)) same.1, record { ok = (h.ok.1, tt); is = sym same.2 ∙ ap (λ r. r ++ after) (sym (append-nil (flat g))) })
    by _ h e = absurd (omega arith)

-- the chunks of a string

broken : (b : List ℕ) (at x : ℕ) (inner after : List ℕ) → drop at b ≡ (x ∷ (inner ++ 255 ∷ [])) ++ after → drop (at + 1) b ≡ inner ++ 255 ∷ after
broken b at x inner after is = sym (drop-drop 1 at b) ∙ (ap (drop 1) is ∙ append_assoc inner (255 ∷ []) after)

pub chunks_of_bytes : (b : List ℕ) (at : ℕ) (f : Form) (after : List ℕ) → IsFormAt b at f after → get_or b at 0 ≡ 95 → (cs : List Chunk) × (meaning f ≡ bytes (joined cs)) × AreChunksFrom b (at + 1) cs after
chunks_of_bytes b at f after h is = by f h (omega (arith, (form_byte b at f after h).major)) (omega (arith, (form_byte b at f after h).info))
  where
    by : (f : Form) → IsFormAt b at f after → form_major f ≡ 2 → form_info f ≡ 31 → (cs : List Chunk) × (meaning f ≡ bytes (joined cs)) × AreChunksFrom b (at + 1) cs after
    by (bytes_chunks cs) h e i = (cs, refl, record { major = 2; string = omega arith; ok = h.ok; is = broken b at 95 (chunks_bytes 2 cs) after h.is })
    by (bytes_form p s) h e i = absurd (omega (arith, i, info_below p (length s) h.ok.0))
    by _ h e i = absurd (omega arith)

pub chunks_of_text : (b : List ℕ) (at : ℕ) (f : Form) (after : List ℕ) → IsFormAt b at f after → get_or b at 0 ≡ 127 → (cs : List Chunk) × (meaning f ≡ text (joined cs)) × AreChunksFrom b (at + 1) cs after
chunks_of_text b at f after h is = by f h (omega (arith, (form_byte b at f after h).major)) (omega (arith, (form_byte b at f after h).info))
  where
    by : (f : Form) → IsFormAt b at f after → form_major f ≡ 3 → form_info f ≡ 31 → (cs : List Chunk) × (meaning f ≡ text (joined cs)) × AreChunksFrom b (at + 1) cs after
    by (text_chunks cs) h e i = (cs, refl, record { major = 3; string = omega arith; ok = h.ok; is = broken b at 127 (chunks_bytes 3 cs) after h.is })
    by (text_form p s) h e i = absurd (omega (arith, i, info_below p (length s) h.ok.0))
    by _ h e i = absurd (omega arith)

-- the first chunk, and those behind it
pub piece_there : (b : List ℕ) (at n start : ℕ) → IsArgumentAt b at n start → at < length b → get_or b at 0 < 256 → start + n ≤ length b → IsPieceAt b at (take n (drop start b)) (start + n)
piece_there b at n start head few byte within cs after h = by cs h
  where
    by : (cs : List Chunk) → AreChunksFrom b at cs after → (ds : List Chunk) × (joined cs ≡ take n (drop start b) ++ joined ds) × AreChunksFrom b (start + n) ds after
    by [] h = absurd (no_break head.size (get_or b at 0 / 32) n (drop start b) after head.fits (sym head.is ∙ h.is) (omega arith))
    by (c ∷ cs) h =
        let own = head_in c.size h.major (length c.content) in
        let rest = chunks_bytes h.major cs ++ 255 ∷ after in
        let split : drop at b ≡ own ++ (c.content ++ rest) = h.is ∙ (append_assoc (own ++ c.content) (chunks_bytes h.major cs) (255 ∷ after) ∙ append_assoc own c.content rest) in
        let same = same_head c.size head.size h.major (get_or b at 0 / 32) (length c.content) n (c.content ++ rest) (drop start b) h.ok.0.0 head.fits (sym split ∙ head.is) in
        let behind : drop start b ≡ c.content ++ rest = sym same.2 in
        let piece : take n (drop start b) ≡ c.content = ap (take n) behind ∙ take_at c.content rest n same.1 in (
          cs,
          ap (λ p. p ++ joined cs) (sym piece),
          record {
            major = h.major;
            string = h.string;
            ok = h.ok.1;
            is = sym (drop-drop n start b) ∙ (ap (drop n) behind ∙ drop_at c.content rest n same.1);
          },
        )
