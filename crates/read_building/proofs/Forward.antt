-- The machine builds what the forms mean, and goes by their text chunks.
use Rattle.std.proofs.Common.{◌≡◌, ℕ, zero, suc, ◌+◌, ◌/◌, ◌%◌, ◌<◌, List, [], ◌∷◌, ◌++◌, length, nat_lt, ◌==◌, true, false, refl, sym, ap, ap₂, ◌∙◌, arith, append_assoc, append-nil, length-append}
use Rattle.std.proofs.lemmas.Nat.{from_be_bytes-to_be_bytes_2, from_be_bytes-to_be_bytes_4, from_be_bytes-to_be_bytes_8}
use Rattle.std.proofs.lemmas.Bool.Decides.{nat_tests}
use Rattle.cbor_data.specs.declared.Width.{Width}
use Rattle.cbor_data.specs.declared.Width.TheVariants.{W16, W32, W64}
use Rattle.cbor_data.specs.Value.{Value, bytes, text, array, pairs, tag, simple, float, Values, no_values, value, Pairs, no_pairs, pair, FitsWidth}
use Rattle.cbor_data.specs.Preferred.{initial, float_bytes}
use Rattle.cbor_data.specs.Forms.{ArgumentSize, inside, one, two, four, eight, head_in, FitsSize, Form, uint_form, nint_form, bytes_form, bytes_chunks, text_form, text_chunks, array_form, array_to_break, pairs_form, pairs_to_break, tag_form, simple_inside, simple_next, float_form, Forms, no_forms, form, PairForms, no_pair_forms, pair_form, Chunk, chunk_bytes, chunks_bytes, joined, AreChunksOk, forms_len, pair_forms_len, flat, forms_flat, pair_forms_flat, meaning, meanings, pair_meanings, IsOk, AreFormsOk, ArePairFormsOk}
use Rattle.cbor_data.specs.Machine.Machine.{given, info_of}
use Rattle.read_building.specs.Building.{Frame, member, until, content, key, worth, until_key, until_worth, State, item, argument, string, chunk, chunk_string, string_of, with_value, with_pair, give, ask, ask_pairs, await_string, await_chunk_string, after, wide, start, start_chunk, step, Text, text_ended, steps}
use Rattle.read_building.specs.Texts.{text_at, chunk_texts, texts_of, texts_among, texts_among_pairs}

major_of : (m i : ℕ) → i < 32 → initial m i / 32 ≡ m
major_of m i h = omega arith

info_in : (m i : ℕ) → i < 32 → initial m i % 32 ≡ i
info_in m i h = omega arith

first : (at m i : ℕ) (K : List Frame) → i < 32 → step at (item K) (initial m i) ≡ start at m (info_of i) K
first at m i K h = ap (λ a. start at a (info_of (initial m i % 32)) K) (major_of m i h) ∙ ap (λ a. start at m (info_of a) K) (info_in m i h)

info_of-given : (n : ℕ) → n < 24 → info_of n ≡ given n
info_of-given n h = grind (arith, nat_tests)

pub wide_is : (at m k : ℕ) (K : List Frame) → m < 7 → wide at m k K ≡ argument at m k 0 K
wide_is at zero k K h = refl
wide_is at (suc zero) k K h = refl
wide_is at (suc (suc zero)) k K h = refl
wide_is at (suc (suc (suc zero))) k K h = refl
wide_is at (suc (suc (suc (suc zero)))) k K h = refl
wide_is at (suc (suc (suc (suc (suc zero))))) k K h = refl
wide_is at (suc (suc (suc (suc (suc (suc zero)))))) k K h = refl
wide_is at (suc (suc (suc (suc (suc (suc (suc m))))))) k K h = absurd (omega arith)

-- the same at another name of the offset
moved : (a b : ℕ) (T : List Text) (s : State) (r : List ℕ) → a ≡ b → steps a T s r ≡ steps b T s r
moved a b T s r e = ap (λ n. steps n T s r) e

head : (p : ArgumentSize) (at m n : ℕ) (T : List Text) (K : List Frame) (r : List ℕ) → m < 7 → FitsSize p n → steps at T (item K) (head_in p m n ++ r) ≡ steps (at + length (head_in p m n)) T (after at m n K) r
head inside at m n T K r small h = rw (first at m n K (omega arith), info_of-given n h) (moved (suc at) (at + 1) T (after at m n K) r (omega arith))
head one at m n T K r small h = rw (first at m 24 K (omega arith), wide_is at m 0 K small) (ap₂ (λ i a. steps i T (after at m a K) r) (omega arith) (omega arith))
head two at m n T K r small h = rw (first at m 25 K (omega arith), wide_is at m 1 K small) (ap₂ (λ i a. steps i T (after at m a K) r) (omega arith) (omega (arith, from_be_bytes-to_be_bytes_2 n h)))
head four at m n T K r small h = rw (first at m 26 K (omega arith), wide_is at m 3 K small) (ap₂ (λ i a. steps i T (after at m a K) r) (omega arith) (omega (arith, from_be_bytes-to_be_bytes_4 n h)))
head eight at m n T K r small h = rw (first at m 27 K (omega arith), wide_is at m 7 K small) (ap₂ (λ i a. steps i T (after at m a K) r) (omega arith) (omega (arith, from_be_bytes-to_be_bytes_8 n h)))

-- the bytes of a string
string_rest : (from m b : ℕ) (c s : List ℕ) (at : ℕ) (T : List Text) (K : List Frame) (r : List ℕ) → steps at T (string from m (length c) s K) (b ∷ (c ++ r)) ≡ steps (at + suc (length c)) (text_ended m from (s ++ b ∷ c) T) (give (string_of m (s ++ b ∷ c)) K) r
string_rest from m b [] s at T K r = moved (suc at) (at + 1) (text_ended m from (s ++ b ∷ []) T) (give (string_of m (s ++ b ∷ [])) K) r (omega arith)
string_rest from m b (e ∷ c) s at T K r =
    string_rest from m e c (s ++ b ∷ []) (suc at) T K r
    ∙ ap₂ (λ i u. steps i (text_ended m from u T) (give (string_of m u) K) r) (omega arith) (append_assoc s (b ∷ []) (e ∷ c))

bytes_all : (from : ℕ) (s : List ℕ) (at : ℕ) (T : List Text) (K : List Frame) (r : List ℕ) → steps at T (await_string from 2 (length s) K) (s ++ r) ≡ steps (at + length s) T (give (bytes s) K) r
bytes_all from [] at T K r = moved at (at + 0) T (give (bytes []) K) r (omega arith)
bytes_all from (b ∷ c) at T K r = string_rest from 2 b c [] at T K r

text_all : (from : ℕ) (s : List ℕ) (at : ℕ) (T : List Text) (K : List Frame) (r : List ℕ) → steps at T (await_string from 3 (length s) K) (s ++ r) ≡ steps (at + length s) (text_at from s T) (give (text s) K) r
text_all from [] at T K r = moved at (at + 0) T (give (text []) K) r (omega arith)
text_all from (b ∷ c) at T K r = string_rest from 3 b c [] at T K r

-- chunks

chunk_first : (at m i : ℕ) (s : List ℕ) (K : List Frame) → m < 7 → i < 32 → step at (chunk m s K) (initial m i) ≡ start_chunk at m (info_of i) s K
chunk_first at m i s K small h =
    let other : (initial m i == 255) ≡ false = grind (arith, nat_tests) in
    let same : (m == m) ≡ true = grind (arith, nat_tests) in
    rw (other, major_of m i h, info_in m i h, same) refl

chunk_head : (p : ArgumentSize) (at m n : ℕ) (T : List Text) (s : List ℕ) (K : List Frame) (r : List ℕ) → m < 7 → FitsSize p n → steps at T (chunk m s K) (head_in p m n ++ r) ≡ steps (at + length (head_in p m n)) T (await_chunk_string at m n s K) r
chunk_head inside at m n T s K r small h = rw (chunk_first at m n s K small (omega arith), info_of-given n h) (moved (suc at) (at + 1) T (await_chunk_string at m n s K) r (omega arith))
chunk_head one at m n T s K r small h = rw (chunk_first at m 24 s K small (omega arith)) (ap₂ (λ i a. steps i T (await_chunk_string at m a s K) r) (omega arith) (omega arith))
chunk_head two at m n T s K r small h = rw (chunk_first at m 25 s K small (omega arith)) (ap₂ (λ i a. steps i T (await_chunk_string at m a s K) r) (omega arith) (omega (arith, from_be_bytes-to_be_bytes_2 n h)))
chunk_head four at m n T s K r small h = rw (chunk_first at m 26 s K small (omega arith)) (ap₂ (λ i a. steps i T (await_chunk_string at m a s K) r) (omega arith) (omega (arith, from_be_bytes-to_be_bytes_4 n h)))
chunk_head eight at m n T s K r small h = rw (chunk_first at m 27 s K small (omega arith)) (ap₂ (λ i a. steps i T (await_chunk_string at m a s K) r) (omega arith) (omega (arith, from_be_bytes-to_be_bytes_8 n h)))

chunk_rest : (from m b : ℕ) (c s d : List ℕ) (at : ℕ) (T : List Text) (K : List Frame) (r : List ℕ) → steps at T (chunk_string from m (length c) s d K) (b ∷ (c ++ r)) ≡ steps (at + suc (length c)) (text_ended m from (d ++ b ∷ c) T) (chunk m (s ++ (d ++ b ∷ c)) K) r
chunk_rest from m b [] s d at T K r = moved (suc at) (at + 1) (text_ended m from (d ++ b ∷ []) T) (chunk m (s ++ (d ++ b ∷ [])) K) r (omega arith)
chunk_rest from m b (e ∷ c) s d at T K r =
    chunk_rest from m e c s (d ++ b ∷ []) (suc at) T K r
    ∙ ap₂ (λ i u. steps i (text_ended m from u T) (chunk m (s ++ u) K) r) (omega arith) (append_assoc d (b ∷ []) (e ∷ c))

abbrev told : ℕ → ℕ → List ℕ → List Text → List Text
told m from [] T = T
told m from (b ∷ c) T = text_ended m from (b ∷ c) T

chunk_all : (from m : ℕ) (c s : List ℕ) (at : ℕ) (T : List Text) (K : List Frame) (r : List ℕ) → steps at T (await_chunk_string from m (length c) s K) (c ++ r) ≡ steps (at + length c) (told m from c T) (chunk m (s ++ c) K) r
chunk_all from m [] s at T K r = ap₂ (λ i u. steps i T (chunk m u K) r) (omega arith) (sym (append-nil s))
chunk_all from m (b ∷ c) s at T K r = chunk_rest from m b c s [] at T K r

abbrev told_chunks : ℕ → ℕ → List Chunk → List Text → List Text
told_chunks m at [] T = T
told_chunks m at (c ∷ cs) T = told_chunks m (at + length (chunk_bytes m c)) cs (told m at c.content T)

chunks_forward : (m : ℕ) (cs : List Chunk) (at : ℕ) (T : List Text) (s : List ℕ) (K : List Frame) (r : List ℕ) → m < 7 → AreChunksOk cs → steps at T (chunk m s K) (chunks_bytes m cs ++ r) ≡ steps (at + length (chunks_bytes m cs)) (told_chunks m at cs T) (chunk m (s ++ joined cs) K) r
chunks_forward m [] at T s K r small ok = ap₂ (λ i u. steps i T (chunk m u K) r) (omega arith) (sym (append-nil s))
chunks_forward m (c ∷ cs) at T s K r small ok =
    let h = head_in c.size m (length c.content) in
    let T' = told m at c.content T in
    let there : (at + length h) + length c.content ≡ at + length (chunk_bytes m c) = omega (arith, length-append h c.content) in
    ap (steps at T (chunk m s K)) (append_assoc (chunk_bytes m c) (chunks_bytes m cs) r ∙ append_assoc h c.content (chunks_bytes m cs ++ r))
    ∙ (chunk_head c.size at m (length c.content) T s K (c.content ++ (chunks_bytes m cs ++ r)) small ok.0.0
    ∙ (chunk_all at m c.content s (at + length h) T K (chunks_bytes m cs ++ r)
    ∙ (moved _ _ T' (chunk m (s ++ c.content) K) (chunks_bytes m cs ++ r) there
    ∙ (chunks_forward m cs (at + length (chunk_bytes m c)) T' (s ++ c.content) K r small ok.1
    ∙ ap₂ (λ i u. steps i (told_chunks m at (c ∷ cs) T) (chunk m u K) r) (omega (arith, length-append (chunk_bytes m c) (chunks_bytes m cs))) (append_assoc s c.content (joined cs))))))

told_bytes : (at : ℕ) (cs : List Chunk) (T : List Text) → told_chunks 2 at cs T ≡ T
told_bytes at [] T = refl
told_bytes at (c ∷ cs) T = told_bytes (at + length (chunk_bytes 2 c)) cs (told 2 at c.content T) ∙ none c.content
  where
    none : (s : List ℕ) → told 2 at s T ≡ T
    none [] = refl
    none (b ∷ s) = refl

told_text : (at : ℕ) (cs : List Chunk) (T : List Text) → told_chunks 3 at cs T ≡ chunk_texts at cs T
told_text at [] T = refl
told_text at (c ∷ cs) T = told_text (at + length (chunk_bytes 3 c)) cs (told 3 at c.content T) ∙ ap (chunk_texts (at + length (chunk_bytes 3 c)) cs) (same c.content)
  where
    same : (s : List ℕ) → told 3 at s T ≡ text_at at s T
    same [] = refl
    same (b ∷ s) = refl

-- one after another at the end of others
abbrev values_and : Values → Values → Values
values_and no_values ys = ys
values_and (value x xs) ys = value x (values_and xs ys)

abbrev pairs_and : Pairs → Pairs → Pairs
pairs_and no_pairs qs = qs
pairs_and (pair k v ps) qs = pair k v (pairs_and ps qs)

values_and-none : (xs : Values) → values_and xs no_values ≡ xs
values_and-none no_values = refl
values_and-none (value x xs) = ap (value x) (values_and-none xs)

values_and-with : (xs : Values) (x : Value) (ys : Values) → values_and (with_value xs x) ys ≡ values_and xs (value x ys)
values_and-with no_values x ys = refl
values_and-with (value y xs) x ys = ap (value y) (values_and-with xs x ys)

pairs_and-none : (ps : Pairs) → pairs_and ps no_pairs ≡ ps
pairs_and-none no_pairs = refl
pairs_and-none (pair k v ps) = ap (pair k v) (pairs_and-none ps)

pairs_and-with : (ps : Pairs) (k v : Value) (qs : Pairs) → pairs_and (with_pair ps k v) qs ≡ pairs_and ps (pair k v qs)
pairs_and-with no_pairs k v qs = refl
pairs_and-with (pair j u ps) k v qs = ap (pair j u) (pairs_and-with ps k v qs)

give_member : (n : ℕ) (x : Value) (xs : Values) (K : List Frame) → give x (member n xs ∷ K) ≡ ask n (with_value xs x) K
give_member zero x xs K = refl
give_member (suc n) x xs K = refl

give_worth : (n : ℕ) (k x : Value) (ps : Pairs) (K : List Frame) → give x (worth n ps k ∷ K) ≡ ask_pairs n (with_pair ps k x) K
give_worth zero k x ps K = refl
give_worth (suc n) k x ps K = refl

float_forward : (w : Width) (n at : ℕ) (T : List Text) (K : List Frame) (r : List ℕ) → FitsWidth w n → steps at T (item K) (float_bytes w n ++ r) ≡ steps (at + length (float_bytes w n)) T (give (float w n) K) r
float_forward W16 n at T K r h = ap₂ (λ i a. steps i T (give (float W16 a) K) r) (omega arith) (omega (arith, from_be_bytes-to_be_bytes_2 n h))
float_forward W32 n at T K r h = ap₂ (λ i a. steps i T (give (float W32 a) K) r) (omega arith) (omega (arith, from_be_bytes-to_be_bytes_4 n h))
float_forward W64 n at T K r h = ap₂ (λ i a. steps i T (give (float W64 a) K) r) (omega arith) (omega (arith, from_be_bytes-to_be_bytes_8 n h))

mutual
  -- a form in any place is built there
  pub forward : (f : Form) (at : ℕ) (T : List Text) (K : List Frame) (r : List ℕ) → IsOk f → steps at T (item K) (flat f ++ r) ≡ steps (at + length (flat f)) (texts_of at f T) (give (meaning f) K) r
  forward (uint_form p n) at T K r ok = head p at 0 n T K r (omega arith) ok
  forward (nint_form p n) at T K r ok = head p at 1 n T K r (omega arith) ok
  forward (bytes_form p s) at T K r ok =
      let h = head_in p 2 (length s) in
      ap (steps at T (item K)) (append_assoc h s r) ∙ (head p at 2 (length s) T K (s ++ r) (omega arith) ok.0 ∙ (bytes_all at s (at + length h) T K r
      ∙ moved _ _ T (give (bytes s) K) r (omega (arith, length-append h s))))
  forward (bytes_chunks cs) at T K r ok =
      ap (steps (suc at) T (chunk 2 [] K)) (append_assoc (chunks_bytes 2 cs) (255 ∷ []) r) ∙ (chunks_forward 2 cs (suc at) T [] K (255 ∷ r) (omega arith) ok
      ∙ ap₂ (λ i U. steps i U (give (bytes (joined cs)) K) r) (omega (arith, length-append (chunks_bytes 2 cs) (255 ∷ []))) (told_bytes (suc at) cs T))
  forward (text_form p s) at T K r ok =
      let h = head_in p 3 (length s) in
      ap (steps at T (item K)) (append_assoc h s r) ∙ (head p at 3 (length s) T K (s ++ r) (omega arith) ok.0 ∙ (text_all at s (at + length h) T K r
      ∙ moved _ _ (text_at at s T) (give (text s) K) r (omega (arith, length-append h s))))
  forward (text_chunks cs) at T K r ok =
      ap (steps (suc at) T (chunk 3 [] K)) (append_assoc (chunks_bytes 3 cs) (255 ∷ []) r) ∙ (chunks_forward 3 cs (suc at) T [] K (255 ∷ r) (omega arith) ok
      ∙ ap₂ (λ i U. steps i U (give (text (joined cs)) K) r) (omega (arith, length-append (chunks_bytes 3 cs) (255 ∷ []))) (told_text (suc at) cs T))
  forward (array_form p fs) at T K r ok =
      let h = head_in p 4 (forms_len fs) in
      ap (steps at T (item K)) (append_assoc h (forms_flat fs) r) ∙ (head p at 4 (forms_len fs) T K (forms_flat fs ++ r) (omega arith) ok.0 ∙ (forms_forward fs (at + length h) T no_values K r ok.1
      ∙ moved _ _ (texts_among (at + length h) fs T) (give (array (meanings fs)) K) r (omega (arith, length-append h (forms_flat fs)))))
  forward (array_to_break fs) at T K r ok =
      ap (steps (suc at) T (item (until no_values ∷ K))) (append_assoc (forms_flat fs) (255 ∷ []) r) ∙ (to_end fs (suc at) T no_values K r ok
      ∙ moved _ _ (texts_among (suc at) fs T) (give (array (meanings fs)) K) r (omega (arith, length-append (forms_flat fs) (255 ∷ []))))
  forward (pairs_form p ps) at T K r ok =
      let h = head_in p 5 (pair_forms_len ps) in
      ap (steps at T (item K)) (append_assoc h (pair_forms_flat ps) r) ∙ (head p at 5 (pair_forms_len ps) T K (pair_forms_flat ps ++ r) (omega arith) ok.0 ∙ (pairs_forward ps (at + length h) T no_pairs K r ok.1
      ∙ moved _ _ (texts_among_pairs (at + length h) ps T) (give (pairs (pair_meanings ps)) K) r (omega (arith, length-append h (pair_forms_flat ps)))))
  forward (pairs_to_break ps) at T K r ok =
      ap (steps (suc at) T (item (until_key no_pairs ∷ K))) (append_assoc (pair_forms_flat ps) (255 ∷ []) r) ∙ (pairs_to_end ps (suc at) T no_pairs K r ok
      ∙ moved _ _ (texts_among_pairs (suc at) ps T) (give (pairs (pair_meanings ps)) K) r (omega (arith, length-append (pair_forms_flat ps) (255 ∷ []))))
  forward (tag_form p n f) at T K r ok =
      let h = head_in p 6 n in
      ap (steps at T (item K)) (append_assoc h (flat f) r) ∙ (head p at 6 n T K (flat f ++ r) (omega arith) ok.0 ∙ (forward f (at + length h) T (content n ∷ K) r ok.1
      ∙ moved _ _ (texts_of (at + length h) f T) (give (tag n (meaning f)) K) r (omega (arith, length-append h (flat f)))))
  forward (simple_inside n) at T K r ok = rw (first at 7 n K (omega arith), info_of-given n ok) (moved (suc at) (at + 1) T (give (simple n) K) r (omega arith))
  forward (simple_next n) at T K r ok = let wide_enough : nat_lt n 32 ≡ false = grind (arith, nat_tests) in rw wide_enough (moved (suc (suc at)) (at + 2) T (give (simple n) K) r (omega arith))
  forward (float_form w n) at T K r ok = float_forward w n at T K r ok

  pub forms_forward : (fs : Forms) (at : ℕ) (T : List Text) (xs : Values) (K : List Frame) (r : List ℕ) → AreFormsOk fs → steps at T (ask (forms_len fs) xs K) (forms_flat fs ++ r) ≡ steps (at + length (forms_flat fs)) (texts_among at fs T) (give (array (values_and xs (meanings fs))) K) r
  forms_forward no_forms at T xs K r ok = ap₂ (λ i ys. steps i T (give (array ys) K) r) (omega arith) (sym (values_and-none xs))
  forms_forward (form f fs) at T xs K r ok =
      let n = forms_len fs in
      let b = forms_flat fs ++ r in
      let i = at + length (flat f) in
      let T' = texts_of at f T in
      ap (steps at T (item (member n xs ∷ K))) (append_assoc (flat f) (forms_flat fs) r) ∙ (forward f at T (member n xs ∷ K) b ok.0
      ∙ (ap (λ s. steps i T' s b) (give_member n (meaning f) xs K) ∙ (forms_forward fs i T' (with_value xs (meaning f)) K r ok.1
      ∙ ap₂ (λ j ys. steps j (texts_among i fs T') (give (array ys) K) r) (omega (arith, length-append (flat f) (forms_flat fs))) (values_and-with xs (meaning f) (meanings fs)))))

  pub to_end : (fs : Forms) (at : ℕ) (T : List Text) (xs : Values) (K : List Frame) (r : List ℕ) → AreFormsOk fs → steps at T (item (until xs ∷ K)) (forms_flat fs ++ 255 ∷ r) ≡ steps (at + length (forms_flat fs) + 1) (texts_among at fs T) (give (array (values_and xs (meanings fs))) K) r
  to_end no_forms at T xs K r ok = ap₂ (λ i ys. steps i T (give (array ys) K) r) (omega arith) (sym (values_and-none xs))
  to_end (form f fs) at T xs K r ok =
      let b = forms_flat fs ++ 255 ∷ r in
      let i = at + length (flat f) in
      let T' = texts_of at f T in
      ap (steps at T (item (until xs ∷ K))) (append_assoc (flat f) (forms_flat fs) (255 ∷ r)) ∙ (forward f at T (until xs ∷ K) b ok.0
      ∙ (to_end fs i T' (with_value xs (meaning f)) K r ok.1
      ∙ ap₂ (λ j ys. steps j (texts_among i fs T') (give (array ys) K) r) (omega (arith, length-append (flat f) (forms_flat fs))) (values_and-with xs (meaning f) (meanings fs))))

  pub pairs_forward : (ps : PairForms) (at : ℕ) (T : List Text) (qs : Pairs) (K : List Frame) (r : List ℕ) → ArePairFormsOk ps → steps at T (ask_pairs (pair_forms_len ps) qs K) (pair_forms_flat ps ++ r) ≡ steps (at + length (pair_forms_flat ps)) (texts_among_pairs at ps T) (give (pairs (pairs_and qs (pair_meanings ps))) K) r
  pairs_forward no_pair_forms at T qs K r ok = ap₂ (λ i ys. steps i T (give (pairs ys) K) r) (omega arith) (sym (pairs_and-none qs))
  pairs_forward (pair_form k v ps) at T qs K r ok =
      let n = pair_forms_len ps in
      let b = pair_forms_flat ps ++ r in
      let i = at + length (flat k) in
      let j = i + length (flat v) in
      let T' = texts_of at k T in
      let T'' = texts_of i v T' in
      ap (steps at T (item (key n qs ∷ K))) (append_assoc (flat k) (flat v ++ pair_forms_flat ps) r) ∙ (forward k at T (key n qs ∷ K) ((flat v ++ pair_forms_flat ps) ++ r) ok.0
      ∙ (ap (steps i T' (item (worth n qs (meaning k) ∷ K))) (append_assoc (flat v) (pair_forms_flat ps) r) ∙ (forward v i T' (worth n qs (meaning k) ∷ K) b ok.1
      ∙ (ap (λ s. steps j T'' s b) (give_worth n (meaning k) (meaning v) qs K) ∙ (pairs_forward ps j T'' (with_pair qs (meaning k) (meaning v)) K r ok.2
      ∙ ap₂ (λ a ys. steps a (texts_among_pairs j ps T'') (give (pairs ys) K) r) (omega (arith, length-append (flat k) (flat v ++ pair_forms_flat ps), length-append (flat v) (pair_forms_flat ps))) (pairs_and-with qs (meaning k) (meaning v) (pair_meanings ps)))))))

  pub pairs_to_end : (ps : PairForms) (at : ℕ) (T : List Text) (qs : Pairs) (K : List Frame) (r : List ℕ) → ArePairFormsOk ps → steps at T (item (until_key qs ∷ K)) (pair_forms_flat ps ++ 255 ∷ r) ≡ steps (at + length (pair_forms_flat ps) + 1) (texts_among_pairs at ps T) (give (pairs (pairs_and qs (pair_meanings ps))) K) r
  pairs_to_end no_pair_forms at T qs K r ok = ap₂ (λ i ys. steps i T (give (pairs ys) K) r) (omega arith) (sym (pairs_and-none qs))
  pairs_to_end (pair_form k v ps) at T qs K r ok =
      let b = pair_forms_flat ps ++ 255 ∷ r in
      let i = at + length (flat k) in
      let j = i + length (flat v) in
      let T' = texts_of at k T in
      let T'' = texts_of i v T' in
      ap (steps at T (item (until_key qs ∷ K))) (append_assoc (flat k) (flat v ++ pair_forms_flat ps) (255 ∷ r)) ∙ (forward k at T (until_key qs ∷ K) ((flat v ++ pair_forms_flat ps) ++ 255 ∷ r) ok.0
      ∙ (ap (steps i T' (item (until_worth qs (meaning k) ∷ K))) (append_assoc (flat v) (pair_forms_flat ps) (255 ∷ r)) ∙ (forward v i T' (until_worth qs (meaning k) ∷ K) b ok.1
      ∙ (pairs_to_end ps j T'' (with_pair qs (meaning k) (meaning v)) K r ok.2
      ∙ ap₂ (λ a ys. steps a (texts_among_pairs j ps T'') (give (pairs ys) K) r) (omega (arith, length-append (flat k) (flat v ++ pair_forms_flat ps), length-append (flat v) (pair_forms_flat ps))) (pairs_and-with qs (meaning k) (meaning v) (pair_meanings ps))))))
