-- Forms with one more at their end.
use Rattle.std.proofs.Common.{◌≡◌, ℕ, suc, ◌≤◌, List, [], ◌∷◌, ◌++◌, length, refl, sym, ap, ◌∙◌, arith, append_assoc, append-nil}
use Rattle.std.specs.Str.{IsUtf8}
use Rattle.cbor_data.specs.Value.{Value, Values, no_values, value, Pairs, no_pairs, pair, AreBytes, depth_of, values_depth, pairs_depth}
use Rattle.cbor_data.specs.Forms.{Chunk, chunk_bytes, chunks_bytes, joined, AreChunksOk, AllText, FitsSize, Form, Forms, no_forms, form, PairForms, no_pair_forms, pair_form, forms_len, pair_forms_len, flat, forms_flat, pair_forms_flat, IsOk, AreFormsOk, ArePairFormsOk, meaning, meanings, pair_meanings, HasText, HaveText, HavePairsText}
use Rattle.item_nodes.specs.View.{view, values_view, pairs_view}
use Rattle.item_nodes.specs.declared.item.Item.{Item}

-- chunks

pub chunks_bytes-with : (m : ℕ) (cs : List Chunk) (c : Chunk) → chunks_bytes m (cs ++ c ∷ []) ≡ chunks_bytes m cs ++ chunk_bytes m c
chunks_bytes-with m [] c = append-nil (chunk_bytes m c)
chunks_bytes-with m (a ∷ cs) c = ap (λ b. chunk_bytes m a ++ b) (chunks_bytes-with m cs c) ∙ sym (append_assoc (chunk_bytes m a) (chunks_bytes m cs) (chunk_bytes m c))

pub joined-with : (cs : List Chunk) (c : Chunk) → joined (cs ++ c ∷ []) ≡ joined cs ++ c.content
joined-with [] c = append-nil c.content
joined-with (a ∷ cs) c = ap (λ b. a.content ++ b) (joined-with cs c) ∙ sym (append_assoc a.content (joined cs) c.content)

pub chunks_ok-with : (cs : List Chunk) (c : Chunk) → AreChunksOk cs → FitsSize c.size (length c.content) → AreBytes c.content → AreChunksOk (cs ++ c ∷ [])
chunks_ok-with [] c h fits bytes = ((fits, bytes), tt)
chunks_ok-with (a ∷ cs) c h fits bytes = (h.0, chunks_ok-with cs c h.1 fits bytes)

pub chunks_text-with : (cs : List Chunk) (c : Chunk) → AllText cs → IsUtf8 c.content → AllText (cs ++ c ∷ [])
chunks_text-with [] c h k = (k, tt)
chunks_text-with (a ∷ cs) c h k = (h.0, chunks_text-with cs c h.1 k)

-- members

abbrev pub with_form : Forms → Form → Forms
with_form no_forms g = form g no_forms
with_form (form f fs) g = form f (with_form fs g)

abbrev with_value : Values → Value → Values
with_value no_values y = value y no_values
with_value (value x xs) y = value x (with_value xs y)

pub forms_len-with : (fs : Forms) (g : Form) → forms_len (with_form fs g) ≡ suc (forms_len fs)
forms_len-with no_forms g = refl
forms_len-with (form f fs) g = ap suc (forms_len-with fs g)

pub forms_flat-with : (fs : Forms) (g : Form) → forms_flat (with_form fs g) ≡ forms_flat fs ++ flat g
forms_flat-with no_forms g = append-nil (flat g)
forms_flat-with (form f fs) g = ap (λ b. flat f ++ b) (forms_flat-with fs g) ∙ sym (append_assoc (flat f) (forms_flat fs) (flat g))

pub ok-with : (fs : Forms) (g : Form) → AreFormsOk fs → IsOk g → AreFormsOk (with_form fs g)
ok-with no_forms g h k = (k, tt)
ok-with (form f fs) g h k = (h.0, ok-with fs g h.1 k)

pub text-with : (fs : Forms) (g : Form) → HaveText fs → HasText g → HaveText (with_form fs g)
text-with no_forms g h k = (k, tt)
text-with (form f fs) g h k = (h.0, text-with fs g h.1 k)

pub depth-with : (d : ℕ) (fs : Forms) (g : Form) → values_depth (meanings fs) ≤ d → depth_of (meaning g) ≤ d → values_depth (meanings (with_form fs g)) ≤ d
depth-with d no_forms g h k = omega arith
depth-with d (form f fs) g h k = let rest : values_depth (meanings (with_form fs g)) ≤ d = depth-with d fs g (omega arith) k in omega arith

meanings-with : (fs : Forms) (g : Form) → meanings (with_form fs g) ≡ with_value (meanings fs) (meaning g)
meanings-with no_forms g = refl
meanings-with (form f fs) g = ap (value (meaning f)) (meanings-with fs g)

values_view-with : (xs : List Item) (x : Item) → values_view (xs ++ x ∷ []) ≡ with_value (values_view xs) (view x)
values_view-with [] x = refl
values_view-with (y ∷ xs) x = ap (value (view y)) (values_view-with xs x)

pub values-with : (xs : List Item) (x : Item) (fs : Forms) (g : Form) → values_view xs ≡ meanings fs → view x ≡ meaning g → values_view (xs ++ x ∷ []) ≡ meanings (with_form fs g)
values-with xs x fs g h k = values_view-with xs x ∙ (ap (λ vs. with_value vs (view x)) h ∙ (ap (with_value (meanings fs)) k ∙ sym (meanings-with fs g)))

-- pairs

abbrev pub with_pair_form : PairForms → Form → Form → PairForms
with_pair_form no_pair_forms k v = pair_form k v no_pair_forms
with_pair_form (pair_form i u ps) k v = pair_form i u (with_pair_form ps k v)

abbrev with_pair : Pairs → Value → Value → Pairs
with_pair no_pairs k v = pair k v no_pairs
with_pair (pair i u ps) k v = pair i u (with_pair ps k v)

pub pair_forms_len-with : (ps : PairForms) (k v : Form) → pair_forms_len (with_pair_form ps k v) ≡ suc (pair_forms_len ps)
pair_forms_len-with no_pair_forms k v = refl
pair_forms_len-with (pair_form i u ps) k v = ap suc (pair_forms_len-with ps k v)

pub pair_forms_flat-with : (ps : PairForms) (k v : Form) → pair_forms_flat (with_pair_form ps k v) ≡ pair_forms_flat ps ++ (flat k ++ flat v)
pair_forms_flat-with no_pair_forms k v = ap (λ b. flat k ++ b) (append-nil (flat v))
pair_forms_flat-with (pair_form i u ps) k v =
    ap (λ b. flat i ++ (flat u ++ b)) (pair_forms_flat-with ps k v)
    ∙ (ap (λ b. flat i ++ b) (sym (append_assoc (flat u) (pair_forms_flat ps) (flat k ++ flat v)))
    ∙ sym (append_assoc (flat i) (flat u ++ pair_forms_flat ps) (flat k ++ flat v)))

pub pairs_ok-with : (ps : PairForms) (k v : Form) → ArePairFormsOk ps → IsOk k → IsOk v → ArePairFormsOk (with_pair_form ps k v)
pairs_ok-with no_pair_forms k v h i j = (i, j, tt)
pairs_ok-with (pair_form l u ps) k v h i j = (h.0, h.1, pairs_ok-with ps k v h.2 i j)

pub pairs_text-with : (ps : PairForms) (k v : Form) → HavePairsText ps → HasText k → HasText v → HavePairsText (with_pair_form ps k v)
pairs_text-with no_pair_forms k v h i j = (i, j, tt)
pairs_text-with (pair_form l u ps) k v h i j = (h.0, h.1, pairs_text-with ps k v h.2 i j)

pub pairs_depth-with : (d : ℕ) (ps : PairForms) (k v : Form) → pairs_depth (pair_meanings ps) ≤ d → depth_of (meaning k) ≤ d → depth_of (meaning v) ≤ d → pairs_depth (pair_meanings (with_pair_form ps k v)) ≤ d
pairs_depth-with d no_pair_forms k v h i j = omega arith
pairs_depth-with d (pair_form l u ps) k v h i j =
    let rest : pairs_depth (pair_meanings (with_pair_form ps k v)) ≤ d = pairs_depth-with d ps k v (omega arith) i j in omega arith

pair_meanings-with : (ps : PairForms) (k v : Form) → pair_meanings (with_pair_form ps k v) ≡ with_pair (pair_meanings ps) (meaning k) (meaning v)
pair_meanings-with no_pair_forms k v = refl
pair_meanings-with (pair_form i u ps) k v = ap (pair (meaning i) (meaning u)) (pair_meanings-with ps k v)

pairs_view-with : (qs : List (Item × Item)) (p : Item × Item) → pairs_view (qs ++ p ∷ []) ≡ with_pair (pairs_view qs) (view p.0) (view p.1)
pairs_view-with [] p = refl
pairs_view-with (q ∷ qs) p = ap (pair (view q.0) (view q.1)) (pairs_view-with qs p)

pub pair_values-with : (qs : List (Item × Item)) (p : Item × Item) (ps : PairForms) (k v : Form) → pairs_view qs ≡ pair_meanings ps → view p.0 ≡ meaning k → view p.1 ≡ meaning v →
    pairs_view (qs ++ p ∷ []) ≡ pair_meanings (with_pair_form ps k v)
pair_values-with qs p ps k v h i j =
    pairs_view-with qs p ∙ (ap (λ us. with_pair us (view p.0) (view p.1)) h ∙ (ap (λ x. with_pair (pair_meanings ps) x (view p.1)) i
    ∙ (ap (with_pair (pair_meanings ps) (meaning k)) j ∙ sym (pair_meanings-with ps k v))))
