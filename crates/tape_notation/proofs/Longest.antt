-- The notation of an item is at most twelve times as long as the item.
use Rattle.std.proofs.Common.{◌≡◌, ℕ, ◌+◌, ◌*◌, ◌^◌, ◌<◌, ◌≤◌, ◌==◌, Bool, true, false, List, [], ◌∷◌, ◌++◌, length, decimal, sym, ap, ◌∙◌, arith, length-append, if◌then◌else◌, ◌||◌}
use Rattle.std.specs.Prelude.{codes, flat_map, nat_lt}
use Rattle.std.specs.Int.{to_be_bytes, w16, w32, w64}
use Rattle.std.proofs.lemmas.Fmt.{length-decimal-le, length-decimal-le_wide}
use Rattle.std.proofs.lemmas.List.{length-take-le}
use Rattle.hex.specs.Hex.{encode_lower, lower_digits}
use Rattle.hex.proofs.HexLemmas.{length-encode_with}
use Rattle.cbor_data.specs.declared.Width.TheVariants.{W16, W32, W64}
use Rattle.cbor_data.specs.Notation.{notation, members_notation, further_members_notation, pairs_notation, further_pairs_notation, shown_byte, simple_notation}
use Rattle.cbor_data.specs.Forms.{ArgumentSize, inside, one, two, four, eight, head_in, FitsSize, Chunk, chunks_bytes, joined, Form, uint_form, nint_form, bytes_form, bytes_chunks, text_form, text_chunks, array_form, array_to_break, pairs_form, pairs_to_break, tag_form, simple_inside, simple_next, float_form, Forms, no_forms, form, PairForms, no_pair_forms, pair_form, flat, forms_flat, pair_forms_flat, forms_len, pair_forms_len, IsOk, AreFormsOk, ArePairFormsOk, meaning, meanings, pair_meanings}
use Rattle.cbor_data.proofs.Lemmas.{head_some}
use Rattle.cbor_tape.specs.declared.entry.Entry.{Entry}
use Rattle.cbor_tape.specs.Tape.{IsWholeTape}

-- a number as its argument is, or one more
digits_short : (p : ArgumentSize) (m n k : ℕ) → FitsSize p n → k ≤ n + 1 → length (decimal k) + 4 ≤ 12 * length (head_in p m n)
digits_short inside m n k fits most = omega (arith, length-decimal-le 2 k (omega arith) (omega arith) (omega arith))
digits_short one m n k fits most = omega (arith, length-decimal-le_wide 20 k (omega arith) (omega arith) (omega arith))
digits_short two m n k fits most = omega (arith, length-decimal-le_wide 20 k (omega arith) (omega arith) (omega arith))
digits_short four m n k fits most = omega (arith, length-decimal-le_wide 20 k (omega arith) (omega arith) (omega arith))
digits_short eight m n k fits most = omega (arith, length-decimal-le_wide 20 k (omega arith) (omega arith) (omega arith))

hex_long : (bs : List ℕ) → length (encode_lower bs) ≡ 2 * length bs
hex_long bs = length-encode_with lower_digits bs

shown_short : (b : ℕ) → length (shown_byte b) ≤ 6
shown_short b = by (b == 34) (b == 92) (nat_lt b 32 || b == 127)
  where
    by : (q s c : Bool) → length (if q then 92 ∷ 34 ∷ [] else (if s then 92 ∷ 92 ∷ [] else (if c then 92 ∷ (codes "u00" ++ encode_lower (b ∷ [])) else b ∷ []))) ≤ 6
    by true s c = omega arith
    by false true c = omega arith
    by false false true = omega (arith, hex_long (b ∷ []))
    by false false false = omega arith

text_short : (bs : List ℕ) → length (flat_map shown_byte bs) ≤ 6 * length bs
text_short [] = omega arith
text_short (b ∷ bs) = omega (arith, shown_short b, text_short bs, length-append (shown_byte b) (flat_map shown_byte bs))

chunks_short : (major : ℕ) (cs : List Chunk) → length (joined cs) ≤ length (chunks_bytes major cs)
chunks_short major [] = omega arith
chunks_short major (c ∷ cs) =
    let head = head_in c.size major (length c.content) in
    omega (arith, chunks_short major cs, length-append c.content (joined cs), length-append (head ++ c.content) (chunks_bytes major cs), length-append head c.content)

simple_short : (n k : ℕ) → 0 < k → n < 10 ^ k → n < 2 ^ 64 → length (simple_notation n) ≤ k + 8
simple_short n k some small fits = by (n == 20) (n == 21) (n == 22) (n == 23)
  where
    by : (a b c d : Bool) → length (if a then codes "false" else (if b then codes "true" else (if c then codes "null" else (if d then codes "undefined" else codes "simple(" ++ (decimal n ++ codes ")"))))) ≤ k + 8
    by true b c d = omega arith
    by false true c d = omega arith
    by false false true d = omega arith
    by false false false true = omega arith
    by false false false false = omega (arith, length-decimal-le k n some small fits, length-append (decimal n) (codes ")"))

mutual
  form_short : (f : Form) → IsOk f → length (notation (meaning f)) + 2 ≤ 12 * length (flat f)
  form_short (uint_form p n) ok = omega (arith, digits_short p 0 n n ok (omega arith))
  form_short (nint_form p n) ok = omega (arith, digits_short p 1 n (n + 1) ok (omega arith))
  form_short (bytes_form p s) ok =
      let head = head_in p 2 (length s) in
      omega (arith, head_some p 2 (length s), hex_long s, length-append (encode_lower s) (codes "'"), length-append head s)
  form_short (bytes_chunks cs) ok =
      omega (arith, chunks_short 2 cs, hex_long (joined cs), length-append (encode_lower (joined cs)) (codes "'"), length-append (chunks_bytes 2 cs) (255 ∷ []))
  form_short (text_form p s) ok =
      let head = head_in p 3 (length s) in
      omega (arith, head_some p 3 (length s), text_short s, length-append (flat_map shown_byte s) (34 ∷ []), length-append head s)
  form_short (text_chunks cs) ok =
      omega (arith, chunks_short 3 cs, text_short (joined cs), length-append (flat_map shown_byte (joined cs)) (34 ∷ []), length-append (chunks_bytes 3 cs) (255 ∷ []))
  form_short (array_form p fs) ok =
      let head = head_in p 4 (forms_len fs) in
      omega (arith, head_some p 4 (forms_len fs), members_short fs ok.1, length-append (members_notation (meanings fs)) (codes "]"), length-append head (forms_flat fs))
  form_short (array_to_break fs) ok =
      omega (arith, members_short fs ok, length-append (members_notation (meanings fs)) (codes "]"), length-append (forms_flat fs) (255 ∷ []))
  form_short (pairs_form p ps) ok =
      let head = head_in p 5 (pair_forms_len ps) in
      omega (arith, head_some p 5 (pair_forms_len ps), pairs_short ps ok.1, length-append (pairs_notation (pair_meanings ps)) (codes "}"), length-append head (pair_forms_flat ps))
  form_short (pairs_to_break ps) ok =
      omega (arith, pairs_short ps ok, length-append (pairs_notation (pair_meanings ps)) (codes "}"), length-append (pair_forms_flat ps) (255 ∷ []))
  form_short (tag_form p n f) ok =
      let content = notation (meaning f) in
      omega (arith, digits_short p 6 n n ok.0 (omega arith), form_short f ok.1, length-append (decimal n) (codes "(" ++ (content ++ codes ")")), length-append content (codes ")"), length-append (head_in p 6 n) (flat f))
  form_short (simple_inside n) ok = omega (arith, simple_short n 2 (omega arith) (omega arith) (omega arith))
  form_short (simple_next n) ok = omega (arith, simple_short n 3 (omega arith) (omega arith) (omega arith))
  form_short (float_form W16 n) ok = omega (arith, hex_long (to_be_bytes w16 n), length-append (encode_lower (to_be_bytes w16 n)) (codes "'"))
  form_short (float_form W32 n) ok = omega (arith, hex_long (to_be_bytes w32 n), length-append (encode_lower (to_be_bytes w32 n)) (codes "'"))
  form_short (float_form W64 n) ok = omega (arith, hex_long (to_be_bytes w64 n), length-append (encode_lower (to_be_bytes w64 n)) (codes "'"))

  members_short : (fs : Forms) → AreFormsOk fs → length (members_notation (meanings fs)) ≤ 12 * length (forms_flat fs)
  members_short no_forms ok = omega arith
  members_short (form f fs) ok =
      omega (arith, form_short f ok.0, further_short fs ok.1, length-append (notation (meaning f)) (further_members_notation (meanings fs)), length-append (flat f) (forms_flat fs))

  further_short : (fs : Forms) → AreFormsOk fs → length (further_members_notation (meanings fs)) ≤ 12 * length (forms_flat fs)
  further_short no_forms ok = omega arith
  further_short (form f fs) ok =
      omega (arith, form_short f ok.0, further_short fs ok.1, length-append (notation (meaning f)) (further_members_notation (meanings fs)), length-append (flat f) (forms_flat fs))

  pairs_short : (ps : PairForms) → ArePairFormsOk ps → length (pairs_notation (pair_meanings ps)) ≤ 12 * length (pair_forms_flat ps)
  pairs_short no_pair_forms ok = omega arith
  pairs_short (pair_form k v ps) ok =
      let key = notation (meaning k) in
      let content = notation (meaning v) in
      let more = further_pairs_notation (pair_meanings ps) in
      omega (arith, form_short k ok.0, form_short v ok.1, further_pairs_short ps ok.2, length-append key (codes ": " ++ (content ++ more)), length-append content more, length-append (flat k) (flat v ++ pair_forms_flat ps), length-append (flat v) (pair_forms_flat ps))

  further_pairs_short : (ps : PairForms) → ArePairFormsOk ps → length (further_pairs_notation (pair_meanings ps)) ≤ 12 * length (pair_forms_flat ps)
  further_pairs_short no_pair_forms ok = omega arith
  further_pairs_short (pair_form k v ps) ok =
      let key = notation (meaning k) in
      let content = notation (meaning v) in
      let more = further_pairs_notation (pair_meanings ps) in
      omega (arith, form_short k ok.0, form_short v ok.1, further_pairs_short ps ok.2, length-append key (codes ": " ++ (content ++ more)), length-append content more, length-append (flat k) (flat v ++ pair_forms_flat ps), length-append (flat v) (pair_forms_flat ps))

pub whole_short : (depth : ℕ) (b : List ℕ) (t : List Entry) (n : ℕ) → (w : IsWholeTape depth b t n) → length (notation w.value) ≤ 12 * n
whole_short depth b t n w =
    let s = w.whole.spells in
    let long : length (flat s.written) ≡ n = sym (ap length s.is) ∙ length-take-le n b w.whole.within in
    let same : length (notation w.value) ≡ length (notation (meaning s.written)) = ap (λ x. length (notation x)) s.meant in
    omega (arith, form_short s.written s.ok, long, same)
