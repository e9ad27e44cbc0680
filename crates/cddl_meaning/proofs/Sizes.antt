-- Sizes of items, of what is in them, and of their bytes; no item has more places than its size.
use Rattle.std.proofs.Common.{◌≡◌, ℕ, suc, ◌<◌, ◌≤◌, List, [], ◌∷◌, ◌++◌, length, refl, sym, ap, subst, arith, length-append}
use Rattle.std.specs.Prelude.{Option, Some, None}
use Rattle.cbor_data.specs.declared.Width.TheVariants.{W16, W32, W64}
use Rattle.cbor_data.specs.Value.{Value, uint, nint, bytes, text, array, pairs, tag, simple, float, Values, no_values, value, Pairs, no_pairs, pair, place_count, values_place_count, pairs_place_count}
use Rattle.cbor_data.specs.Forms.{Chunk, chunk_bytes, joined, Form, uint_form, nint_form, bytes_form, bytes_chunks, text_form, text_chunks, array_form, array_to_break, pairs_form, pairs_to_break, tag_form, simple_inside, simple_next, float_form, Forms, no_forms, form, PairForms, no_pair_forms, pair_form, chunks_bytes, flat, forms_flat, pair_forms_flat, forms_len, pair_forms_len, meaning, meanings, pair_meanings, Spells, head_in}
use Rattle.cbor_data.specs.Embedded.{EmbedsAll, none, one_more}
use Rattle.cbor_data.proofs.Lemmas.{broken_len, head_some}
use Rattle.cddl_meaning.specs.Forms.{list_of, members_in, pairs_in, bytes_in, tag_in, Content}
use Rattle.cddl_meaning.specs.Held.{Holds, item, items}
use Rattle.cddl_meaning.specs.Size.{size, values_size, pairs_size, list_size}

pub size_some : (x : Value) → 1 ≤ size x
size_some (uint n) = omega arith
size_some (nint n) = omega arith
size_some (bytes b) = omega arith
size_some (text b) = omega arith
size_some (array xs) = omega arith
size_some (pairs ps) = omega arith
size_some (tag n x) = omega arith
size_some (simple n) = omega arith
size_some (float w n) = omega arith

pub all_some : (xs : List Value) → 1 ≤ list_size xs
all_some [] = omega arith
all_some (x ∷ xs) = omega (arith, all_some xs)

size_of_members : (xs : Values) → list_size (list_of xs) ≡ suc (values_size xs)
size_of_members no_values = refl
size_of_members (value x xs) = omega (arith, size_of_members xs)

pub array_size : (x : Value) (xs : List Value) → members_in x ≡ Some xs → list_size xs ≤ size x
array_size (array ys) xs e =
    let h : list_of ys ≡ xs = cc e in
    omega (arith, size_of_members ys, ap list_size h)
array_size _ xs e = cc e

abbrev content_or : Value → Option (ℕ × Value) → Value
content_or z None = z
content_or z (Some q) = q.1

pub tag_size : (x y : Value) (n : ℕ) → tag_in x ≡ Some (n, y) → suc (size y) ≤ size x
tag_size (tag m z) y n e =
    let h : z ≡ y = ap (content_or z) e in
    omega (arith, ap size h)
tag_size _ y n e = cc e

pub map_size : (x : Value) (ps : Pairs) → pairs_in x ≡ Some ps → suc (pairs_size ps) ≤ size x
map_size (pairs qs) ps e =
    let h : qs ≡ ps = cc e in
    omega (arith, ap pairs_size h)
map_size _ ps e = cc e

pub string_size : (x : Value) (b : List ℕ) → bytes_in x ≡ Some b → size x ≡ suc (length b)
string_size (bytes c) b e =
    let h : c ≡ b = cc e in
    ap (λ d. suc (length d)) h
string_size _ b e = cc e

pub key_less : (k x : Value) (ps : Pairs) → size k < pairs_size (pair k x ps)
key_less k x ps = omega (arith, size_some x)

pub value_less : (k x : Value) (ps : Pairs) → size x < pairs_size (pair k x ps)
value_less k x ps = omega (arith, size_some k)

mutual
  pub few_places : (x : Value) → place_count x ≤ size x
  few_places (uint n) = omega arith
  few_places (nint n) = omega arith
  few_places (bytes b) = omega arith
  few_places (text b) = omega arith
  few_places (array xs) = omega (arith, values_few_places xs)
  few_places (pairs ps) = omega (arith, pairs_few_places ps)
  few_places (tag n x) = omega (arith, few_places x)
  few_places (simple n) = omega arith
  few_places (float w n) = omega arith

  values_few_places : (xs : Values) → values_place_count xs ≤ values_size xs
  values_few_places no_values = omega arith
  values_few_places (value x xs) = omega (arith, few_places x, values_few_places xs)

  pub pairs_few_places : (ps : Pairs) → pairs_place_count ps ≤ pairs_size ps
  pairs_few_places no_pairs = omega arith
  pairs_few_places (pair k v ps) = omega (arith, few_places k, few_places v, pairs_few_places ps)

joined_len : (m : ℕ) (cs : List Chunk) → length (joined cs) ≤ length (chunks_bytes m cs)
joined_len m [] = omega arith
joined_len m (c ∷ cs) =
    omega (arith, length-append c.content (joined cs), length-append (chunk_bytes m c) (chunks_bytes m cs), length-append (head_in c.size m (length c.content)) c.content, joined_len m cs)

mutual
  form_size : (f : Form) → size (meaning f) ≤ length (flat f)
  form_size (uint_form p n) = omega (arith, head_some p 0 n)
  form_size (nint_form p n) = omega (arith, head_some p 1 n)
  form_size (bytes_form p s) = omega (arith, head_some p 2 (length s), length-append (head_in p 2 (length s)) s)
  form_size (bytes_chunks cs) = omega (arith, joined_len 2 cs, broken_len 2 (chunks_bytes 2 cs))
  form_size (text_form p s) = omega (arith, head_some p 3 (length s), length-append (head_in p 3 (length s)) s)
  form_size (text_chunks cs) = omega (arith, joined_len 3 cs, broken_len 3 (chunks_bytes 3 cs))
  form_size (array_form p fs) = omega (arith, head_some p 4 (forms_len fs), length-append (head_in p 4 (forms_len fs)) (forms_flat fs), forms_size fs)
  form_size (array_to_break fs) = omega (arith, broken_len 4 (forms_flat fs), forms_size fs)
  form_size (pairs_form p ps) = omega (arith, head_some p 5 (pair_forms_len ps), length-append (head_in p 5 (pair_forms_len ps)) (pair_forms_flat ps), pair_forms_size ps)
  form_size (pairs_to_break ps) = omega (arith, broken_len 5 (pair_forms_flat ps), pair_forms_size ps)
  form_size (tag_form p n f) = omega (arith, head_some p 6 n, length-append (head_in p 6 n) (flat f), form_size f)
  form_size (simple_inside n) = omega arith
  form_size (simple_next n) = omega arith
  form_size (float_form W16 n) = omega arith
  form_size (float_form W32 n) = omega arith
  form_size (float_form W64 n) = omega arith

  forms_size : (fs : Forms) → values_size (meanings fs) ≤ length (forms_flat fs)
  forms_size no_forms = omega arith
  forms_size (form f fs) = omega (arith, form_size f, forms_size fs, length-append (flat f) (forms_flat fs))

  pair_forms_size : (ps : PairForms) → pairs_size (pair_meanings ps) ≤ length (pair_forms_flat ps)
  pair_forms_size no_pair_forms = omega arith
  pair_forms_size (pair_form k v ps) = omega (arith, form_size k, form_size v, pair_forms_size ps, length-append (flat k) (flat v ++ pair_forms_flat ps), length-append (flat v) (pair_forms_flat ps))

-- No item is larger than its bytes, in any spelling.
pub size_spelled : (x : Value) (b : List ℕ) → Spells x b → size x ≤ length b
size_spelled x b s = subst (λ y. size y ≤ length b) (sym s.meant) (subst (λ c. size (meaning s.written) ≤ length c) (sym s.is) (form_size s.written))

embedded_size : {b : List ℕ} {xs : Values} → EmbedsAll b xs → values_size xs ≤ length b
embedded_size none = omega arith
embedded_size (one_more {b = b} {c = c} {x = x} h t) = omega (arith, size_spelled x b h.spells, embedded_size t, length-append b c)

-- What a byte string holds is no larger than the string, and as one item it is smaller.
pub held_size : {c : Content} {b : List ℕ} {y : Value} → Holds c b y → size y ≤ suc (length b)
held_size {b = b} {y = y} (item h) = omega (arith, size_spelled y b h.spells)
held_size (items h) = omega (arith, embedded_size h)
