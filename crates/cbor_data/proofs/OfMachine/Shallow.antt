-- The machine that opens no container inside `depth` open ones reads just the items that are no deeper.
use Rattle.std.proofs.Common.{◌≡◌, ℕ, zero, suc, ◌+◌, ◌/◌, ◌<◌, ◌≤◌, max, List, [], ◌∷◌, ◌++◌, length, Option, Some, None, option_and_then, nat_lt, nat_le, cond, true, false, Bool, ◌&&◌, refl, sym, ap, ◌∙◌, arith, append_assoc, append-nil, inl, inr, ◌⊎◌}
use Rattle.std.proofs.lemmas.Nat.{from_be_bytes-to_be_bytes_2, from_be_bytes-to_be_bytes_4, from_be_bytes-to_be_bytes_8}
use Rattle.std.proofs.lemmas.Bool.Decides.{nat_tests}
use Rattle.lists.proofs.Lemmas.{test_at_most as le_true, test_greater as le_false, tested}
use Rattle.cbor_data.specs.declared.Width.{Width}
use Rattle.cbor_data.specs.declared.Width.TheVariants.{W16, W32, W64}
use Rattle.cbor_data.specs.Value.{depth_of, values_depth, pairs_depth}
use Rattle.cbor_data.specs.Preferred.{initial, float_bytes}
use Rattle.cbor_data.specs.Forms.{ArgumentSize, inside, one, two, four, eight, head_in, FitsSize, Form, uint_form, nint_form, bytes_form, bytes_chunks, text_form, text_chunks, array_form, array_to_break, pairs_form, pairs_to_break, tag_form, simple_inside, simple_next, float_form, Forms, no_forms, form, PairForms, no_pair_forms, pair_form, Chunk, chunk_bytes, chunks_bytes, AreChunksOk, forms_len, pair_forms_len, flat, forms_flat, pair_forms_flat, meaning, meanings, pair_meanings, IsOk, AreFormsOk, ArePairFormsOk, IsWellFormed}
use Rattle.cbor_data.specs.Faults.{BeginsWithin}
use Rattle.cbor_data.specs.Machine.Machine.{State, Frame, rest, until, until_key, until_value, item, argument, body, chunk, chunk_argument, chunk_body, simple, done, await_content, await_chunk_content, twice, ask, after, give, step, steps, start, info_of, more, opens_container, step_in, steps_in}
use Rattle.cbor_data.specs.Machine.Reads.{Leads, LeadsWithin}
use Rattle.cbor_data.proofs.OfMachine.Forward.{first, info_of-given, wide_is, give_rest, chunk_first, completes, Completes, AreQuiet}
use Rattle.cbor_data.proofs.OfMachine.Keeping.{done_whole, bytes-append}

-- states that are not in an item's place step as ever; strings, chunks and floats are read as before

major_of : (m i : ℕ) → i < 32 → initial m i / 32 ≡ m
major_of m i h = omega arith

plain_first : (d m i : ℕ) (K : List Frame) → i < 32 → (nat_lt 3 m && nat_lt m 7) ≡ false → step_in d (item K) (initial m i) ≡ start m (info_of i) K
plain_first d m i K h e =
    let t : opens_container (initial m i) ≡ false = ap (λ k. nat_lt 3 k && nat_lt k 7) (major_of m i h) ∙ e in
    rw t (first m i K h)

container_first : (d m i : ℕ) (K : List Frame) → i < 32 → (nat_lt 3 m && nat_lt m 7) ≡ true → length K < d → step_in d (item K) (initial m i) ≡ start m (info_of i) K
container_first d m i K h e room =
    let t : opens_container (initial m i) ≡ true = ap (λ k. nat_lt 3 k && nat_lt k 7) (major_of m i h) ∙ e in
    let u : nat_le d (length K) ≡ false = grind (arith, nat_tests) in
    rw (t, u) (first m i K h)

container_full : (d m i : ℕ) (K : List Frame) → i < 32 → (nat_lt 3 m && nat_lt m 7) ≡ true → d ≤ length K → step_in d (item K) (initial m i) ≡ None
container_full d m i K h e none =
    let t : opens_container (initial m i) ≡ true = ap (λ k. nat_lt 3 k && nat_lt k 7) (major_of m i h) ∙ e in
    let u : nat_le d (length K) ≡ true = grind (arith, nat_tests) in
    rw (t, u) refl

-- a head that the first step lets pass comes to the same in any width
passed : (d : ℕ) (p : ArgumentSize) (m n : ℕ) (K : List Frame) (r : List ℕ) → m < 7 → FitsSize p n → ((i : ℕ) → i < 32 → step_in d (item K) (initial m i) ≡ start m (info_of i) K) →
    steps_in d (item K) (head_in p m n ++ r) ≡ steps_in d (after m n K) r
passed d inside m n K r small h f = rw (f n (omega arith), info_of-given n h) refl
passed d one m n K r small h f = rw (f 24 (omega arith), wide_is m 0 K small) (ap (λ a. steps_in d (after m a K) r) (omega arith))
passed d two m n K r small h f = rw (f 25 (omega arith), wide_is m 1 K small) (ap (λ a. steps_in d (after m a K) r) (omega (arith, from_be_bytes-to_be_bytes_2 n h)))
passed d four m n K r small h f = rw (f 26 (omega arith), wide_is m 3 K small) (ap (λ a. steps_in d (after m a K) r) (omega (arith, from_be_bytes-to_be_bytes_4 n h)))
passed d eight m n K r small h f = rw (f 27 (omega arith), wide_is m 7 K small) (ap (λ a. steps_in d (after m a K) r) (omega (arith, from_be_bytes-to_be_bytes_8 n h)))

plain_head : (d : ℕ) (p : ArgumentSize) (m n : ℕ) (K : List Frame) (r : List ℕ) → m < 7 → FitsSize p n → (nat_lt 3 m && nat_lt m 7) ≡ false → steps_in d (item K) (head_in p m n ++ r) ≡ steps_in d (after m n K) r
plain_head d p m n K r small h e = passed d p m n K r small h (λ i few. plain_first d m i K few e)

container_head : (d : ℕ) (p : ArgumentSize) (m n : ℕ) (K : List Frame) (r : List ℕ) → m < 7 → FitsSize p n → (nat_lt 3 m && nat_lt m 7) ≡ true → length K < d → steps_in d (item K) (head_in p m n ++ r) ≡ steps_in d (after m n K) r
container_head d p m n K r small h e room = passed d p m n K r small h (λ i few. container_first d m i K few e room)

full_head : (d : ℕ) (p : ArgumentSize) (m n : ℕ) (K : List Frame) (r : List ℕ) → FitsSize p n → (nat_lt 3 m && nat_lt m 7) ≡ true → d ≤ length K → steps_in d (item K) (head_in p m n ++ r) ≡ None
full_head d inside m n K r h e none = rw (container_full d m n K (omega arith) e none) refl
full_head d one m n K r h e none = rw (container_full d m 24 K (omega arith) e none) refl
full_head d two m n K r h e none = rw (container_full d m 25 K (omega arith) e none) refl
full_head d four m n K r h e none = rw (container_full d m 26 K (omega arith) e none) refl
full_head d eight m n K r h e none = rw (container_full d m 27 K (omega arith) e none) refl

string_in : (d : ℕ) (s : List ℕ) (K : List Frame) (r : List ℕ) → steps_in d (await_content (length s) K) (s ++ r) ≡ steps_in d (give K) r
string_in d [] K r = refl
string_in d (b ∷ []) K r = refl
string_in d (b ∷ c ∷ s) K r = string_in d (c ∷ s) K r

chunk_head_in : (d : ℕ) (p : ArgumentSize) (m n : ℕ) (K : List Frame) (r : List ℕ) → m < 7 → FitsSize p n → steps_in d (chunk m K) (head_in p m n ++ r) ≡ steps_in d (await_chunk_content m n K) r
chunk_head_in d inside m n K r small h = rw (chunk_first m n K small (omega arith), info_of-given n h) refl
chunk_head_in d one m n K r small h = rw (chunk_first m 24 K small (omega arith)) (ap (λ a. steps_in d (await_chunk_content m a K) r) (omega arith))
chunk_head_in d two m n K r small h = rw (chunk_first m 25 K small (omega arith)) (ap (λ a. steps_in d (await_chunk_content m a K) r) (omega (arith, from_be_bytes-to_be_bytes_2 n h)))
chunk_head_in d four m n K r small h = rw (chunk_first m 26 K small (omega arith)) (ap (λ a. steps_in d (await_chunk_content m a K) r) (omega (arith, from_be_bytes-to_be_bytes_4 n h)))
chunk_head_in d eight m n K r small h = rw (chunk_first m 27 K small (omega arith)) (ap (λ a. steps_in d (await_chunk_content m a K) r) (omega (arith, from_be_bytes-to_be_bytes_8 n h)))

chunk_string_in : (d m : ℕ) (s : List ℕ) (K : List Frame) (r : List ℕ) → steps_in d (await_chunk_content m (length s) K) (s ++ r) ≡ steps_in d (chunk m K) r
chunk_string_in d m [] K r = refl
chunk_string_in d m (b ∷ []) K r = refl
chunk_string_in d m (b ∷ c ∷ s) K r = chunk_string_in d m (c ∷ s) K r

chunks_in : (d m : ℕ) (cs : List Chunk) (K : List Frame) (r : List ℕ) → m < 7 → AreChunksOk cs → steps_in d (chunk m K) (chunks_bytes m cs ++ r) ≡ steps_in d (chunk m K) r
chunks_in d m [] K r small ok = refl
chunks_in d m (c ∷ cs) K r small ok =
    ap (steps_in d (chunk m K)) (append_assoc (chunk_bytes m c) (chunks_bytes m cs) r ∙ append_assoc (head_in c.size m (length c.content)) c.content (chunks_bytes m cs ++ r))
    ∙ chunk_head_in d c.size m (length c.content) K (c.content ++ (chunks_bytes m cs ++ r)) small ok.0.0 ∙ chunk_string_in d m c.content K (chunks_bytes m cs ++ r) ∙ chunks_in d m cs K r small ok.1

float_in : (d : ℕ) (w : Width) (n : ℕ) (K : List Frame) (r : List ℕ) → steps_in d (item K) (float_bytes w n ++ r) ≡ steps_in d (give K) r
float_in d W16 n K r = refl
float_in d W32 n K r = refl
float_in d W64 n K r = refl

-- whether an item of this depth has room inside these containers

both_fit : (a b k d : ℕ) → (nat_le (a + k) d && nat_le (b + k) d) ≡ nat_le (max a b + k) d
both_fit a b k d = elim (tested (nat_le (a + k) d)) [
  | inl t ↦ elim (tested (nat_le (b + k) d)) [
    | inl u ↦
        let f : a + k ≤ d = grind (arith, nat_tests) in
        let g : b + k ≤ d = grind (arith, nat_tests) in
        let v : nat_le (max a b + k) d ≡ true = le_true (max a b + k) d (omega arith) in
        rw (t, u, v) refl
    | inr u ↦
        let g : d < b + k = grind (arith, nat_tests) in
        let v : nat_le (max a b + k) d ≡ false = le_false (max a b + k) d (omega arith) in
        rw (t, u, v) refl
  ]
  | inr t ↦
      let f : d < a + k = grind (arith, nat_tests) in
      let v : nat_le (max a b + k) d ≡ false = le_false (max a b + k) d (omega arith) in
      rw (t, v) refl
]

both_pass : (a b : Bool) (o : Option State) → cond a (cond b o None) None ≡ cond (a && b) o None
both_pass true b o = refl
both_pass false b o = refl

joined_fit : (a b k d : ℕ) (o : Option State) → cond (nat_le (a + k) d) (cond (nat_le (b + k) d) o None) None ≡ cond (nat_le (max a b + k) d) o None
joined_fit a b k d o = both_pass (nat_le (a + k) d) (nat_le (b + k) d) o ∙ ap (λ t. cond t o None) (both_fit a b k d)

flat_fits : (d : ℕ) (K : List Frame) (o : Option State) → length K ≤ d → o ≡ cond (nat_le (0 + length K) d) o None
flat_fits d K o h = let t : nat_le (0 + length K) d ≡ true = le_true (0 + length K) d (omega arith) in rw t refl

one_deeper : (a d : ℕ) (K : List Frame) (o : Option State) → cond (nat_le (a + suc (length K)) d) o None ≡ cond (nat_le (suc a + length K) d) o None
one_deeper a d K o = let e : a + suc (length K) ≡ suc a + length K = omega arith in ap (λ k. cond (nat_le k d) o None) e

no_room : (a d : ℕ) (K : List Frame) (o : Option State) → d ≤ length K → None ≡ cond (nat_le (suc a + length K) d) o None
no_room a d K o h = let t : nat_le (suc a + length K) d ≡ false = le_false (suc a + length K) d (omega arith) in rw t refl

pair_fit : (a b c k d : ℕ) (o : Option State) → cond (nat_le (a + k) d) (cond (nat_le (b + k) d) (cond (nat_le (c + k) d) o None) None) None ≡ cond (nat_le (max (max a b) c + k) d) o None
pair_fit a b c k d o = joined_fit a b k d (cond (nat_le (c + k) d) o None) ∙ joined_fit (max a b) c k d o

room_or_none : (a d : ℕ) → (a < d) ⊎ (d ≤ a)
room_or_none a d = elim (tested (nat_lt a d)) [ inl t ↦ inl (grind (arith, nat_tests)) | inr t ↦ inr (grind (arith, nat_tests)) ]

mutual
  -- a form is read to its end, or not at all where it is too deep
  pub item_in : (d : ℕ) (f : Form) (K : List Frame) (r : List ℕ) → IsOk f → length K ≤ d →
      steps_in d (item K) (flat f ++ r) ≡ cond (nat_le (depth_of (meaning f) + length K) d) (steps_in d (give K) r) None
  item_in d (uint_form p n) K r ok h = plain_head d p 0 n K r (omega arith) ok refl ∙ flat_fits d K (steps_in d (give K) r) h
  item_in d (nint_form p n) K r ok h = plain_head d p 1 n K r (omega arith) ok refl ∙ flat_fits d K (steps_in d (give K) r) h
  item_in d (bytes_form p s) K r ok h =
      ap (steps_in d (item K)) (append_assoc (head_in p 2 (length s)) s r) ∙ plain_head d p 2 (length s) K (s ++ r) (omega arith) ok.0 refl ∙ string_in d s K r ∙ flat_fits d K (steps_in d (give K) r) h
  item_in d (bytes_chunks cs) K r ok h =
      ap (steps_in d (chunk 2 K)) (append_assoc (chunks_bytes 2 cs) (255 ∷ []) r) ∙ chunks_in d 2 cs K (255 ∷ r) (omega arith) ok ∙ flat_fits d K (steps_in d (give K) r) h
  item_in d (text_form p s) K r ok h =
      ap (steps_in d (item K)) (append_assoc (head_in p 3 (length s)) s r) ∙ plain_head d p 3 (length s) K (s ++ r) (omega arith) ok.0 refl ∙ string_in d s K r ∙ flat_fits d K (steps_in d (give K) r) h
  item_in d (text_chunks cs) K r ok h =
      ap (steps_in d (chunk 3 K)) (append_assoc (chunks_bytes 3 cs) (255 ∷ []) r) ∙ chunks_in d 3 cs K (255 ∷ r) (omega arith) ok ∙ flat_fits d K (steps_in d (give K) r) h
  item_in d (array_form p fs) K r ok h =
      ap (steps_in d (item K)) (append_assoc (head_in p 4 (forms_len fs)) (forms_flat fs) r) ∙ elim (room_or_none (length K) d) [
        | inl room ↦ container_head d p 4 (forms_len fs) K (forms_flat fs ++ r) (omega arith) ok.0 refl room ∙ (forms_in d fs K r ok.1 room ∙ one_deeper (values_depth (meanings fs)) d K (steps_in d (give K) r))
        | inr none ↦ full_head d p 4 (forms_len fs) K (forms_flat fs ++ r) ok.0 refl none ∙ no_room (values_depth (meanings fs)) d K (steps_in d (give K) r) none
      ]
  item_in d (array_to_break fs) K r ok h = elim (room_or_none (length K) d) [
    | inl room ↦
        ap (option_and_then (λ t. steps_in d t ((forms_flat fs ++ 255 ∷ []) ++ r))) (container_first d 4 31 K (omega arith) refl room)
        ∙ (ap (steps_in d (item (until ∷ K))) (append_assoc (forms_flat fs) (255 ∷ []) r) ∙ (forms_to_break d fs K r ok room ∙ one_deeper (values_depth (meanings fs)) d K (steps_in d (give K) r)))
    | inr none ↦
        ap (option_and_then (λ t. steps_in d t ((forms_flat fs ++ 255 ∷ []) ++ r))) (container_full d 4 31 K (omega arith) refl none) ∙ no_room (values_depth (meanings fs)) d K (steps_in d (give K) r) none
  ]
  item_in d (pairs_form p ps) K r ok h =
      ap (steps_in d (item K)) (append_assoc (head_in p 5 (pair_forms_len ps)) (pair_forms_flat ps) r) ∙ elim (room_or_none (length K) d) [
        | inl room ↦ container_head d p 5 (pair_forms_len ps) K (pair_forms_flat ps ++ r) (omega arith) ok.0 refl room ∙ (pairs_in d ps K r ok.1 room ∙ one_deeper (pairs_depth (pair_meanings ps)) d K (steps_in d (give K) r))
        | inr none ↦ full_head d p 5 (pair_forms_len ps) K (pair_forms_flat ps ++ r) ok.0 refl none ∙ no_room (pairs_depth (pair_meanings ps)) d K (steps_in d (give K) r) none
      ]
  item_in d (pairs_to_break ps) K r ok h = elim (room_or_none (length K) d) [
    | inl room ↦
        ap (option_and_then (λ t. steps_in d t ((pair_forms_flat ps ++ 255 ∷ []) ++ r))) (container_first d 5 31 K (omega arith) refl room)
        ∙ (ap (steps_in d (item (until_key ∷ K))) (append_assoc (pair_forms_flat ps) (255 ∷ []) r) ∙ (pairs_to_break_in d ps K r ok room ∙ one_deeper (pairs_depth (pair_meanings ps)) d K (steps_in d (give K) r)))
    | inr none ↦
        ap (option_and_then (λ t. steps_in d t ((pair_forms_flat ps ++ 255 ∷ []) ++ r))) (container_full d 5 31 K (omega arith) refl none) ∙ no_room (pairs_depth (pair_meanings ps)) d K (steps_in d (give K) r) none
  ]
  item_in d (tag_form p n f) K r ok h =
      ap (steps_in d (item K)) (append_assoc (head_in p 6 n) (flat f) r) ∙ elim (room_or_none (length K) d) [
        | inl room ↦ container_head d p 6 n K (flat f ++ r) (omega arith) ok.0 refl room ∙ (item_in d f (rest 0 ∷ K) r ok.1 (omega arith) ∙ one_deeper (depth_of (meaning f)) d K (steps_in d (give K) r))
        | inr none ↦ full_head d p 6 n K (flat f ++ r) ok.0 refl none ∙ no_room (depth_of (meaning f)) d K (steps_in d (give K) r) none
      ]
  item_in d (simple_inside n) K r ok h = rw (plain_first d 7 n K (omega arith) refl, info_of-given n ok) (flat_fits d K (steps_in d (give K) r) h)
  item_in d (simple_next n) K r ok h = let wide_enough : nat_lt n 32 ≡ false = grind (arith, nat_tests) in rw wide_enough (flat_fits d K (steps_in d (give K) r) h)
  item_in d (float_form w n) K r ok h = float_in d w n K r ∙ flat_fits d K (steps_in d (give K) r) h

  pub forms_in : (d : ℕ) (fs : Forms) (K : List Frame) (r : List ℕ) → AreFormsOk fs → length K < d →
      steps_in d (ask (forms_len fs) K) (forms_flat fs ++ r) ≡ cond (nat_le (values_depth (meanings fs) + suc (length K)) d) (steps_in d (give K) r) None
  forms_in d no_forms K r ok h = let t : nat_le (0 + suc (length K)) d ≡ true = le_true (0 + suc (length K)) d (omega arith) in rw t refl
  forms_in d (form f fs) K r ok h =
      ap (steps_in d (item (rest (forms_len fs) ∷ K))) (append_assoc (flat f) (forms_flat fs) r) ∙ (item_in d f (rest (forms_len fs) ∷ K) (forms_flat fs ++ r) ok.0 (omega arith)
      ∙ (ap (λ o. cond (nat_le (depth_of (meaning f) + suc (length K)) d) o None) (ap (λ s. steps_in d s (forms_flat fs ++ r)) (give_rest (forms_len fs) K) ∙ forms_in d fs K r ok.1 h)
      ∙ joined_fit (depth_of (meaning f)) (values_depth (meanings fs)) (suc (length K)) d (steps_in d (give K) r)))

  pub forms_to_break : (d : ℕ) (fs : Forms) (K : List Frame) (r : List ℕ) → AreFormsOk fs → length K < d →
      steps_in d (item (until ∷ K)) (forms_flat fs ++ 255 ∷ r) ≡ cond (nat_le (values_depth (meanings fs) + suc (length K)) d) (steps_in d (give K) r) None
  forms_to_break d no_forms K r ok h = let t : nat_le (0 + suc (length K)) d ≡ true = le_true (0 + suc (length K)) d (omega arith) in rw t refl
  forms_to_break d (form f fs) K r ok h =
      ap (steps_in d (item (until ∷ K))) (append_assoc (flat f) (forms_flat fs) (255 ∷ r)) ∙ (item_in d f (until ∷ K) (forms_flat fs ++ 255 ∷ r) ok.0 (omega arith)
      ∙ (ap (λ o. cond (nat_le (depth_of (meaning f) + suc (length K)) d) o None) (forms_to_break d fs K r ok.1 h)
      ∙ joined_fit (depth_of (meaning f)) (values_depth (meanings fs)) (suc (length K)) d (steps_in d (give K) r)))

  pub pairs_in : (d : ℕ) (ps : PairForms) (K : List Frame) (r : List ℕ) → ArePairFormsOk ps → length K < d →
      steps_in d (ask (twice (pair_forms_len ps)) K) (pair_forms_flat ps ++ r) ≡ cond (nat_le (pairs_depth (pair_meanings ps) + suc (length K)) d) (steps_in d (give K) r) None
  pairs_in d no_pair_forms K r ok h = let t : nat_le (0 + suc (length K)) d ≡ true = le_true (0 + suc (length K)) d (omega arith) in rw t refl
  pairs_in d (pair_form k v ps) K r ok h =
      let n = twice (pair_forms_len ps) in
      let more_bytes = pair_forms_flat ps ++ r in
      let end = steps_in d (give K) r in
      ap (steps_in d (item (rest (suc n) ∷ K))) (append_assoc (flat k) (flat v ++ pair_forms_flat ps) r) ∙ (item_in d k (rest (suc n) ∷ K) ((flat v ++ pair_forms_flat ps) ++ r) ok.0 (omega arith)
      ∙ (ap (λ o. cond (nat_le (depth_of (meaning k) + suc (length K)) d) o None)
      (ap (steps_in d (item (rest n ∷ K))) (append_assoc (flat v) (pair_forms_flat ps) r) ∙ (item_in d v (rest n ∷ K) more_bytes ok.1 (omega arith)
      ∙ ap (λ o. cond (nat_le (depth_of (meaning v) + suc (length K)) d) o None) (ap (λ s. steps_in d s more_bytes) (give_rest n K) ∙ pairs_in d ps K r ok.2 h)))
      ∙ pair_fit (depth_of (meaning k)) (depth_of (meaning v)) (pairs_depth (pair_meanings ps)) (suc (length K)) d end))

  pub pairs_to_break_in : (d : ℕ) (ps : PairForms) (K : List Frame) (r : List ℕ) → ArePairFormsOk ps → length K < d →
      steps_in d (item (until_key ∷ K)) (pair_forms_flat ps ++ 255 ∷ r) ≡ cond (nat_le (pairs_depth (pair_meanings ps) + suc (length K)) d) (steps_in d (give K) r) None
  pairs_to_break_in d no_pair_forms K r ok h = let t : nat_le (0 + suc (length K)) d ≡ true = le_true (0 + suc (length K)) d (omega arith) in rw t refl
  pairs_to_break_in d (pair_form k v ps) K r ok h =
      let more_bytes = pair_forms_flat ps ++ 255 ∷ r in
      let end = steps_in d (give K) r in
      ap (steps_in d (item (until_key ∷ K))) (append_assoc (flat k) (flat v ++ pair_forms_flat ps) (255 ∷ r)) ∙ (item_in d k (until_key ∷ K) ((flat v ++ pair_forms_flat ps) ++ 255 ∷ r) ok.0 (omega arith)
      ∙ (ap (λ o. cond (nat_le (depth_of (meaning k) + suc (length K)) d) o None)
      (ap (steps_in d (item (until_value ∷ K))) (append_assoc (flat v) (pair_forms_flat ps) (255 ∷ r)) ∙ (item_in d v (until_value ∷ K) more_bytes ok.1 (omega arith)
      ∙ ap (λ o. cond (nat_le (depth_of (meaning v) + suc (length K)) d) o None) (pairs_to_break_in d ps K r ok.2 h)))
      ∙ pair_fit (depth_of (meaning k)) (depth_of (meaning v)) (pairs_depth (pair_meanings ps)) (suc (length K)) d end))

-- what the bounded machine does the other does too
restricts_step : (d : ℕ) (s t : State) (x : ℕ) → step_in d s x ≡ Some t → step s x ≡ Some t
restricts_step d (item K) t x e = elim (tested (opens_container x && nat_le d (length K))) [
  | inl u ↦ let e1 = rw u at e in absurd (cc)
  | inr u ↦ rw u at e
]
restricts_step d (argument m zero n K) t x e = e
restricts_step d (argument m (suc k) n K) t x e = e
restricts_step d (body zero K) t x e = e
restricts_step d (body (suc k) K) t x e = e
restricts_step d (chunk m K) t x e = e
restricts_step d (chunk_argument m zero n K) t x e = e
restricts_step d (chunk_argument m (suc k) n K) t x e = e
restricts_step d (chunk_body m zero K) t x e = e
restricts_step d (chunk_body m (suc k) K) t x e = e
restricts_step d (simple K) t x e = e
restricts_step d done t x e = e

restricted : (d : ℕ) (x : ℕ) (b : List ℕ) (s t : State) → (o : Option State) → step_in d s x ≡ o → steps_in d s (x ∷ b) ≡ Some t → ((u : State) → steps_in d u b ≡ Some t → steps u b ≡ Some t) → steps s (x ∷ b) ≡ Some t
restricted d x b s t None f e on = let none : None ≡ Some t = sym (ap (option_and_then (λ u. steps_in d u b)) f) ∙ e in absurd (cc)
restricted d x b s t (Some u) f e on =
    let next : steps_in d u b ≡ Some t = sym (ap (option_and_then (λ v. steps_in d v b)) f) ∙ e in
    ap (option_and_then (λ v. steps v b)) (restricts_step d s u x f) ∙ on u next

restricts : (d : ℕ) (b : List ℕ) (s t : State) → steps_in d s b ≡ Some t → steps s b ≡ Some t
restricts d [] s t e = e
restricts d (x ∷ b) s t e = restricted d x b s t (step_in d s x) refl e (λ u. restricts d b u t)

chained_in : (o : Option State) (f g h : State → Option State) → ((t : State) → f t ≡ option_and_then h (g t)) → option_and_then f o ≡ option_and_then h (option_and_then g o)
chained_in None f g h e = refl
chained_in (Some t) f g h e = e t

pub steps_in-append : (d : ℕ) (s : State) (a b : List ℕ) → steps_in d s (a ++ b) ≡ option_and_then (λ t. steps_in d t b) (steps_in d s a)
steps_in-append d s [] b = refl
steps_in-append d s (x ∷ a) b = chained_in (step_in d s x) (λ t. steps_in d t (a ++ b)) (λ t. steps_in d t a) (λ t. steps_in d t b) (λ t. steps_in-append d t a b)

quiet_step : (d : ℕ) (s : State) (x : ℕ) → opens_container x ≡ false → step_in d s x ≡ step s x
quiet_step d (item K) x e = rw e refl
quiet_step d (argument m zero n K) x e = refl
quiet_step d (argument m (suc k) n K) x e = refl
quiet_step d (body zero K) x e = refl
quiet_step d (body (suc k) K) x e = refl
quiet_step d (chunk m K) x e = refl
quiet_step d (chunk_argument m zero n K) x e = refl
quiet_step d (chunk_argument m (suc k) n K) x e = refl
quiet_step d (chunk_body m zero K) x e = refl
quiet_step d (chunk_body m (suc k) K) x e = refl
quiet_step d (simple K) x e = refl
quiet_step d done x e = refl

mapped : (f g : State → Option State) (o : Option State) → ((t : State) → f t ≡ g t) → option_and_then f o ≡ option_and_then g o
mapped f g None e = refl
mapped f g (Some t) e = e t

quiet_steps : (d : ℕ) (b : List ℕ) (s : State) → AreQuiet b → steps_in d s b ≡ steps s b
quiet_steps d [] s q = refl
quiet_steps d (x ∷ b) s q =
    ap (option_and_then (λ t. steps_in d t b)) (quiet_step d s x q.0) ∙ mapped (λ t. steps_in d t b) (λ t. steps t b) (step s x) (λ t. quiet_steps d b t q.1)

pub leads : (d : ℕ) (b : List ℕ) (s : State) → LeadsWithin d b s → Leads b s
leads d b s l = record { are = l.are; is = restricts d b (item []) s l.is }

to_end : (d : ℕ) (f : Form) → IsOk f → steps_in d (item []) (flat f) ≡ cond (nat_le (depth_of (meaning f) + 0) d) (Some done) None
to_end d f ok = ap (steps_in d (item [])) (sym (append-nil (flat f))) ∙ item_in d f [] [] ok (omega arith)

passes : (a d : ℕ) (o : Option State) (t : State) → cond (nat_le (a + 0) d) o None ≡ Some t → a ≤ d
passes a d o t e = elim (tested (nat_le (a + 0) d)) [
  | inl u ↦ let le : a + 0 ≤ d = grind (arith, nat_tests) in omega arith
  | inr u ↦ let e1 = rw u at e in absurd (cc)
]

-- what the bounded machine reads begins an item that is no deeper
pub leads_begins_within : (d : ℕ) (b : List ℕ) (s : State) → LeadsWithin d b s → BeginsWithin d b
leads_begins_within d b s l =
    let c : Completes s = completes s in
    let is : steps_in d (item []) (b ++ c.more) ≡ Some done =
    steps_in-append d (item []) b c.more ∙ (ap (option_and_then (λ t. steps_in d t c.more)) l.is ∙ (quiet_steps d c.more s c.quiet ∙ c.done)) in
    let whole : IsWellFormed (b ++ c.more) = done_whole (b ++ c.more) (bytes-append b c.more l.are c.bytes) (restricts d (b ++ c.more) (item []) done is) in
    let ended = sym (to_end d whole.written whole.ok) ∙ (ap (steps_in d (item [])) (sym whole.is) ∙ is) in
    record { more = c.more; written = whole.written; ok = whole.ok; is = whole.is; shallow = passes (depth_of (meaning whole.written)) d (Some done) done ended }

-- and what it refuses begins none
pub refused_within : (d : ℕ) (b : List ℕ) → steps_in d (item []) b ≡ None → BeginsWithin d b → ⊥
refused_within d b e w =
    let t : nat_le (depth_of (meaning w.written) + 0) d ≡ true = le_true (depth_of (meaning w.written) + 0) d (let h : depth_of (meaning w.written) ≤ d = w.shallow in omega arith) in
    let ends : steps_in d (item []) (flat w.written) ≡ Some done = to_end d w.written w.ok ∙ rw t refl in
    let none : steps_in d (item []) (b ++ w.more) ≡ None = steps_in-append d (item []) b w.more ∙ ap (option_and_then (λ t. steps_in d t w.more)) e in
    let same : steps_in d (item []) (b ++ w.more) ≡ Some done = ap (steps_in d (item [])) w.is ∙ ends in
    cc
