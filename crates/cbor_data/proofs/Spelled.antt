-- What has a spelling is in range, and has no more places than the spelling has bytes.
use Rattle.std.proofs.Common.{ℕ, ◌<◌, ◌≤◌, ◌^◌, List, [], ◌∷◌, ◌++◌, length, inl, inr, sym, subst, arith, length-append}
use Rattle.std.specs.Str.{IsUtf8}
use Rattle.std.proofs.lemmas.Str.{IsUtf8-nil, IsUtf8-append}
use Rattle.cbor_data.specs.declared.Width.{Width}
use Rattle.cbor_data.specs.declared.Width.TheVariants.{W16, W32, W64}
use Rattle.cbor_data.specs.Value.{Value, AreBytes, IsInRange, AreInRange, ArePairsInRange, FitsWidth, AreBitsFitting, AreValuesFitting, ArePairsFitting, AreSimplesAssignable, AreValuesAssignable, ArePairsAssignable, place_count, values_place_count, pairs_place_count}
use Rattle.cbor_data.specs.Forms.{ArgumentSize, inside, one, two, four, eight, FitsSize, Chunk, AreChunksOk, AllText, joined, head_in, Form, uint_form, nint_form, bytes_form, bytes_chunks, text_form, text_chunks, array_form, array_to_break, pairs_form, pairs_to_break, tag_form, simple_inside, simple_next, float_form, Forms, no_forms, form, PairForms, no_pair_forms, pair_form, forms_len, pair_forms_len, flat, forms_flat, pair_forms_flat, IsOk, AreFormsOk, ArePairFormsOk, HasText, HaveText, HavePairsText, meaning, meanings, pair_meanings, Spells}
use Rattle.cbor_data.proofs.PreferredSpells.{head_some, float_some, broken_len, form_some}

fits_word : (p : ArgumentSize) (n : ℕ) → FitsSize p n → n < 2 ^ 64
fits_word inside n h = omega (arith, h)
fits_word one n h = omega (arith, h)
fits_word two n h = omega (arith, h)
fits_word four n h = omega (arith, h)
fits_word eight n h = h

width_fits_word : (w : Width) (n : ℕ) → FitsWidth w n → n < 2 ^ 64
width_fits_word W16 n h = omega (arith, h)
width_fits_word W32 n h = omega (arith, h)
width_fits_word W64 n h = h

bytes_append : (a b : List ℕ) → AreBytes a → AreBytes b → AreBytes (a ++ b)
bytes_append [] b h k = k
bytes_append (x ∷ a) b h k = (h.0, bytes_append a b h.1 k)

joined_bytes : (cs : List Chunk) → AreChunksOk cs → AreBytes (joined cs)
joined_bytes [] ok = tt
joined_bytes (c ∷ cs) ok = bytes_append c.content (joined cs) ok.0.1 (joined_bytes cs ok.1)

joined_text : (cs : List Chunk) → AllText cs → IsUtf8 (joined cs)
joined_text [] t = IsUtf8-nil
joined_text (c ∷ cs) t = IsUtf8-append c.content (joined cs) t.0 (joined_text cs t.1)

mutual
  in_range : (f : Form) → IsOk f → HasText f → IsInRange (meaning f)
  in_range (uint_form p n) ok t = fits_word p n ok
  in_range (nint_form p n) ok t = fits_word p n ok
  in_range (bytes_form p s) ok t = ok.1
  in_range (bytes_chunks cs) ok t = joined_bytes cs ok
  in_range (text_form p s) ok t = (ok.1, t)
  in_range (text_chunks cs) ok t = (joined_bytes cs ok, joined_text cs t)
  in_range (array_form p fs) ok t = all_in_range fs ok.1 t
  in_range (array_to_break fs) ok t = all_in_range fs ok t
  in_range (pairs_form p ps) ok t = pairs_in_range ps ok.1 t
  in_range (pairs_to_break ps) ok t = pairs_in_range ps ok t
  in_range (tag_form p n f) ok t = (fits_word p n ok.0, in_range f ok.1 t)
  in_range (simple_inside n) ok t = omega (arith, ok)
  in_range (simple_next n) ok t = ok.1
  in_range (float_form w n) ok t = width_fits_word w n ok

  all_in_range : (fs : Forms) → AreFormsOk fs → HaveText fs → AreInRange (meanings fs)
  all_in_range no_forms ok t = tt
  all_in_range (form f fs) ok t = (in_range f ok.0 t.0, all_in_range fs ok.1 t.1)

  pairs_in_range : (ps : PairForms) → ArePairFormsOk ps → HavePairsText ps → ArePairsInRange (pair_meanings ps)
  pairs_in_range no_pair_forms ok t = tt
  pairs_in_range (pair_form k v ps) ok t = (in_range k ok.0 t.0, in_range v ok.1 t.1, pairs_in_range ps ok.2 t.2)

mutual
  assignable : (f : Form) → IsOk f → AreSimplesAssignable (meaning f)
  assignable (uint_form p n) ok = tt
  assignable (nint_form p n) ok = tt
  assignable (bytes_form p s) ok = tt
  assignable (bytes_chunks cs) ok = tt
  assignable (text_form p s) ok = tt
  assignable (text_chunks cs) ok = tt
  assignable (array_form p fs) ok = all_assignable fs ok.1
  assignable (array_to_break fs) ok = all_assignable fs ok
  assignable (pairs_form p ps) ok = pairs_assignable ps ok.1
  assignable (pairs_to_break ps) ok = pairs_assignable ps ok
  assignable (tag_form p n f) ok = assignable f ok.1
  assignable (simple_inside n) ok = inl ok
  assignable (simple_next n) ok = inr ok.0
  assignable (float_form w n) ok = tt

  all_assignable : (fs : Forms) → AreFormsOk fs → AreValuesAssignable (meanings fs)
  all_assignable no_forms ok = tt
  all_assignable (form f fs) ok = (assignable f ok.0, all_assignable fs ok.1)

  pairs_assignable : (ps : PairForms) → ArePairFormsOk ps → ArePairsAssignable (pair_meanings ps)
  pairs_assignable no_pair_forms ok = tt
  pairs_assignable (pair_form k v ps) ok = (assignable k ok.0, assignable v ok.1, pairs_assignable ps ok.2)

mutual
  fitting : (f : Form) → IsOk f → AreBitsFitting (meaning f)
  fitting (uint_form p n) ok = tt
  fitting (nint_form p n) ok = tt
  fitting (bytes_form p s) ok = tt
  fitting (bytes_chunks cs) ok = tt
  fitting (text_form p s) ok = tt
  fitting (text_chunks cs) ok = tt
  fitting (array_form p fs) ok = all_fitting fs ok.1
  fitting (array_to_break fs) ok = all_fitting fs ok
  fitting (pairs_form p ps) ok = pairs_fitting ps ok.1
  fitting (pairs_to_break ps) ok = pairs_fitting ps ok
  fitting (tag_form p n f) ok = fitting f ok.1
  fitting (simple_inside n) ok = tt
  fitting (simple_next n) ok = tt
  fitting (float_form w n) ok = ok

  all_fitting : (fs : Forms) → AreFormsOk fs → AreValuesFitting (meanings fs)
  all_fitting no_forms ok = tt
  all_fitting (form f fs) ok = (fitting f ok.0, all_fitting fs ok.1)

  pairs_fitting : (ps : PairForms) → ArePairFormsOk ps → ArePairsFitting (pair_meanings ps)
  pairs_fitting no_pair_forms ok = tt
  pairs_fitting (pair_form k v ps) ok = (fitting k ok.0, fitting v ok.1, pairs_fitting ps ok.2)

mutual
  places : (f : Form) → place_count (meaning f) ≤ length (flat f)
  places (uint_form p n) = omega (arith, form_some (uint_form p n))
  places (nint_form p n) = omega (arith, form_some (nint_form p n))
  places (bytes_form p s) = omega (arith, form_some (bytes_form p s))
  places (bytes_chunks cs) = omega arith
  places (text_form p s) = omega (arith, form_some (text_form p s))
  places (text_chunks cs) = omega arith
  places (array_form p fs) = omega (arith, head_some p 4 (forms_len fs), length-append (head_in p 4 (forms_len fs)) (forms_flat fs), all_places fs)
  places (array_to_break fs) = omega (arith, broken_len 4 (forms_flat fs), all_places fs)
  places (pairs_form p ps) = omega (arith, head_some p 5 (pair_forms_len ps), length-append (head_in p 5 (pair_forms_len ps)) (pair_forms_flat ps), pair_places ps)
  places (pairs_to_break ps) = omega (arith, broken_len 5 (pair_forms_flat ps), pair_places ps)
  places (tag_form p n f) = omega (arith, head_some p 6 n, length-append (head_in p 6 n) (flat f), places f)
  places (simple_inside n) = omega arith
  places (simple_next n) = omega arith
  places (float_form w n) = float_some w n

  all_places : (fs : Forms) → values_place_count (meanings fs) ≤ length (forms_flat fs)
  all_places no_forms = omega arith
  all_places (form f fs) = omega (arith, places f, all_places fs, length-append (flat f) (forms_flat fs))

  pair_places : (ps : PairForms) → pairs_place_count (pair_meanings ps) ≤ length (pair_forms_flat ps)
  pair_places no_pair_forms = omega arith
  pair_places (pair_form k v ps) =
      omega (arith, places k, places v, pair_places ps, length-append (flat k) (flat v ++ pair_forms_flat ps), length-append (flat v) (pair_forms_flat ps))

-- the numbers of what is spelled are in range, and its texts are UTF-8
pub spelled_in_range : (x : Value) (b : List ℕ) → Spells x b → IsInRange x
spelled_in_range x b s = subst IsInRange (sym s.meant) (in_range s.written s.ok s.text)

-- none of its simple values is reserved
pub spelled_assignable : (x : Value) (b : List ℕ) → Spells x b → AreSimplesAssignable x
spelled_assignable x b s = subst AreSimplesAssignable (sym s.meant) (assignable s.written s.ok)

-- the bits of its floats fit their widths
pub spelled_fitting : (x : Value) (b : List ℕ) → Spells x b → AreBitsFitting x
spelled_fitting x b s = subst AreBitsFitting (sym s.meant) (fitting s.written s.ok)

-- it has no more places than bytes
pub spelled_places : (x : Value) (b : List ℕ) → Spells x b → place_count x ≤ length b
spelled_places x b s =
    subst (λ y. place_count y ≤ length b) (sym s.meant) (subst (λ c. place_count (meaning s.written) ≤ length c) (sym s.is) (places s.written))
