-- Items that are the same have spellings of the same length: those of the parts, in another order.
use Rattle.std.proofs.Common.{◌≡◌, ℕ, suc, ◌+◌, [], ◌∷◌, ◌++◌, length, refl, sym, ap, ap₂, ◌∙◌, subst, arith, length-append}
use Rattle.cbor_data.specs.Value.{Value, array, pairs, tag, Values, value, Pairs, no_pairs, pair, values_len, pairs_len}
use Rattle.cbor_data.specs.Equivalence.{IsAdded, first, later, IsSame, same_uint, same_nint, same_bytes, same_text, same_array, same_map, same_tag, same_simple, same_float, AreSame, no_members, member, ArePairsSame, no_more, one_more}
use Rattle.cbor_data.specs.Forms.{Form, uint_form, nint_form, bytes_form, bytes_chunks, text_form, text_chunks, array_form, array_to_break, pairs_form, pairs_to_break, tag_form, simple_inside, simple_next, float_form, Forms, no_forms, form, PairForms, no_pair_forms, pair_form, flat, forms_flat, pair_forms_flat, forms_len, pair_forms_len, meaning, meanings, pair_meanings, IsOk, HasText, HaveText, HavePairsText, AreFormsOk, ArePairFormsOk, head_in, FitsSize}
use Rattle.cbor_data.specs.Sound.{HasShortSpelling}
use Rattle.cbor_data.proofs.Keeps.{as_many_members, as_many_pairs}

-- a form of so many bytes that means the item
record HasForm (x : Value) (n : ℕ) : Type 0 where
  written : Form
  ok : IsOk written
  text : HasText written
  is : length (flat written) ≡ n
  meant : meaning written ≡ x

record HaveForms (xs : Values) (n : ℕ) : Type 0 where
  written : Forms
  ok : AreFormsOk written
  text : HaveText written
  is : length (forms_flat written) ≡ n
  meant : meanings written ≡ xs

record HavePairForms (ps : Pairs) (n : ℕ) : Type 0 where
  written : PairForms
  ok : ArePairFormsOk written
  text : HavePairsText written
  is : length (pair_forms_flat written) ≡ n
  meant : pair_meanings written ≡ ps

-- a form of each key and each value, of so many bytes all together
data HaveParts : Pairs → ℕ → Type 0 where
  no_parts : {n : ℕ} → n ≡ 0 → HaveParts no_pairs n
  parts : {k v : Value} {ps : Pairs} {n : ℕ} (i j m : ℕ) → HasForm k i → HasForm v j → HaveParts ps m → n ≡ i + (j + m) → HaveParts (pair k v ps) n

parts_with : {k v : Value} {ps qs : Pairs} {i j m : ℕ} → IsAdded k v ps qs → HasForm k i → HasForm v j → HaveParts ps m → HaveParts qs (i + (j + m))
parts_with {i = i} {j = j} {m = m} first k v r = parts i j m k v r refl
parts_with {i = i} {j = j} (later a) k v (parts b c d l w r e) = parts b c (i + (j + d)) l w (parts_with a k v r) (omega (arith, e))

by_parts : {ps : Pairs} {n : ℕ} → HaveParts ps n → HavePairForms ps n
by_parts (no_parts e) = record { written = no_pair_forms; ok = tt; text = tt; is = sym e; meant = refl }
by_parts (parts {k = key} {v = held} i j m k v r e) =
    let t = by_parts r in
    record {
      written = pair_form k.written v.written t.written;
      ok = (k.ok, v.ok, t.ok);
      text = (k.text, v.text, t.text);
      is = omega (arith, e, k.is, v.is, t.is, length-append (flat k.written) (flat v.written ++ pair_forms_flat t.written), length-append (flat v.written) (pair_forms_flat t.written));
      meant = ap₂ (λ a b. pair a b (pair_meanings t.written)) k.meant v.meant ∙ ap (pair key held) t.meant;
    }

forms_meant : (fs : Forms) → values_len (meanings fs) ≡ forms_len fs
forms_meant no_forms = refl
forms_meant (form f fs) = ap suc (forms_meant fs)

pair_forms_meant : (ps : PairForms) → pairs_len (pair_meanings ps) ≡ pair_forms_len ps
pair_forms_meant no_pair_forms = refl
pair_forms_meant (pair_form k v ps) = ap suc (pair_forms_meant ps)

-- the form means the item itself
own : (f : Form) → IsOk f → HasText f → HasForm (meaning f) (length (flat f))
own f ok t = record { written = f; ok = ok; text = t; is = refl; meant = refl }

mutual
  same_form : (f : Form) {y : Value} → IsOk f → HasText f → IsSame (meaning f) y → HasForm y (length (flat f))
  same_form (uint_form p n) ok t same_uint = own (uint_form p n) ok t
  same_form (nint_form p n) ok t same_nint = own (nint_form p n) ok t
  same_form (bytes_form p s) ok t same_bytes = own (bytes_form p s) ok t
  same_form (bytes_chunks cs) ok t same_bytes = own (bytes_chunks cs) ok t
  same_form (text_form p s) ok t same_text = own (text_form p s) ok t
  same_form (text_chunks cs) ok t same_text = own (text_chunks cs) ok t
  same_form (array_form p fs) ok t (same_array {ys = ys} d) =
      let s = same_forms fs ok.1 t d in
      let len : forms_len fs ≡ forms_len s.written = sym (forms_meant fs) ∙ (as_many_members d ∙ (ap values_len (sym s.meant) ∙ forms_meant s.written)) in
      record {
        written = array_form p s.written;
        ok = (subst (FitsSize p) len ok.0, s.ok);
        text = s.text;
        is = omega (arith, s.is, ap (λ n. length (head_in p 4 n)) len, length-append (head_in p 4 (forms_len fs)) (forms_flat fs), length-append (head_in p 4 (forms_len s.written)) (forms_flat s.written));
        meant = ap array s.meant;
      }
  same_form (array_to_break fs) ok t (same_array d) =
      let s = same_forms fs ok t d in
      record { written = array_to_break s.written; ok = s.ok; text = s.text; is = omega (arith, s.is, length-append (forms_flat fs) (255 ∷ []), length-append (forms_flat s.written) (255 ∷ [])); meant = ap array s.meant }
  same_form (pairs_form p ps) ok t (same_map d) =
      let s = by_parts (same_parts ps ok.1 t d) in
      let len : pair_forms_len ps ≡ pair_forms_len s.written = sym (pair_forms_meant ps) ∙ (as_many_pairs d ∙ (ap pairs_len (sym s.meant) ∙ pair_forms_meant s.written)) in
      record {
        written = pairs_form p s.written;
        ok = (subst (FitsSize p) len ok.0, s.ok);
        text = s.text;
        is = omega (arith, s.is, ap (λ n. length (head_in p 5 n)) len, length-append (head_in p 5 (pair_forms_len ps)) (pair_forms_flat ps), length-append (head_in p 5 (pair_forms_len s.written)) (pair_forms_flat s.written));
        meant = ap pairs s.meant;
      }
  same_form (pairs_to_break ps) ok t (same_map d) =
      let s = by_parts (same_parts ps ok t d) in
      record { written = pairs_to_break s.written; ok = s.ok; text = s.text; is = omega (arith, s.is, length-append (pair_forms_flat ps) (255 ∷ []), length-append (pair_forms_flat s.written) (255 ∷ [])); meant = ap pairs s.meant }
  same_form (tag_form p n f) ok t (same_tag d) =
      let s = same_form f ok.1 t d in
      record { written = tag_form p n s.written; ok = (ok.0, s.ok); text = s.text; is = omega (arith, s.is, length-append (head_in p 6 n) (flat f), length-append (head_in p 6 n) (flat s.written)); meant = ap (tag n) s.meant }
  same_form (simple_inside n) ok t same_simple = own (simple_inside n) ok t
  same_form (simple_next n) ok t same_simple = own (simple_next n) ok t
  same_form (float_form w n) ok t same_float = own (float_form w n) ok t

  same_forms : (fs : Forms) {ys : Values} → AreFormsOk fs → HaveText fs → AreSame (meanings fs) ys → HaveForms ys (length (forms_flat fs))
  same_forms no_forms ok t no_members = record { written = no_forms; ok = ok; text = t; is = refl; meant = refl }
  same_forms (form f fs) ok t (member d e) =
      let x = same_form f ok.0 t.0 d in
      let s = same_forms fs ok.1 t.1 e in
      record {
        written = form x.written s.written;
        ok = (x.ok, s.ok);
        text = (x.text, s.text);
        is = omega (arith, x.is, s.is, length-append (flat f) (forms_flat fs), length-append (flat x.written) (forms_flat s.written));
        meant = ap₂ value x.meant s.meant;
      }

  same_parts : (ps : PairForms) {qs : Pairs} → ArePairFormsOk ps → HavePairsText ps → ArePairsSame (pair_meanings ps) qs → HaveParts qs (length (pair_forms_flat ps))
  same_parts no_pair_forms ok t no_more = no_parts refl
  same_parts (pair_form k v ps) {qs = qs} ok t (one_more d e a r) =
      let len : length (flat k) + (length (flat v) + length (pair_forms_flat ps)) ≡ length (flat k ++ (flat v ++ pair_forms_flat ps)) = omega (arith, length-append (flat k) (flat v ++ pair_forms_flat ps), length-append (flat v) (pair_forms_flat ps)) in
      subst (HaveParts qs) len (parts_with a (same_form k ok.0 t.0 d) (same_form v ok.1 t.1 e) (same_parts ps ok.2 t.2 r))

-- what is the same as an item with a short spelling has one too
pub same_short : {x y : Value} → IsSame x y → HasShortSpelling x → HasShortSpelling y
same_short {y = y} d h =
    let s = h.spells in
    let t = same_form s.written s.ok s.text (subst (λ z. IsSame z y) s.meant d) in
    record { spelling = flat t.written; spells = record { written = t.written; ok = t.ok; text = t.text; is = refl; meant = sym t.meant }; short = omega (arith, t.is, ap length s.is, h.short) }
