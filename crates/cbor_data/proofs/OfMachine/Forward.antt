-- The machine reads each form to its end.
use Rattle.std.proofs.Common.{◌≡◌, ℕ, zero, suc, ◌+◌, ◌*◌, ◌/◌, ◌%◌, ◌<◌, ◌≤◌, ◌^◌, List, [], ◌∷◌, ◌++◌, length, Option, Some, None, option_and_then, subst, append-nil, nat_lt, cond, true, false, ◌==◌, refl, sym, ap, ◌∙◌, arith, append_assoc}
use Rattle.std.specs.Int.{to_be_bytes, w8, w16, w32, w64}
use Rattle.std.proofs.lemmas.Nat.{from_be_bytes-to_be_bytes_2, from_be_bytes-to_be_bytes_4, from_be_bytes-to_be_bytes_8}
use Rattle.std.proofs.lemmas.Bool.Decides.{nat_tests}
use Rattle.cbor_data.specs.Preferred.{initial, float_bytes}
use Rattle.cbor_data.specs.declared.Width.{Width}
use Rattle.cbor_data.specs.declared.Width.TheVariants.{W16, W32, W64}
use Rattle.cbor_data.specs.Value.{AreBytes}
use Rattle.cbor_data.specs.Forms.{Form, uint_form, nint_form, bytes_form, bytes_chunks, text_form, text_chunks, array_form, array_to_break, pairs_form, pairs_to_break, tag_form, simple_inside, simple_next, float_form, Forms, no_forms, form, PairForms, no_pair_forms, pair_form, flat, forms_flat, pair_forms_flat, forms_len, pair_forms_len, IsOk, IsWellFormed, Begins, AreFormsOk, ArePairFormsOk, Chunk, chunk_bytes, chunks_bytes, AreChunksOk, ArgumentSize, inside, one, two, four, eight, head_in, FitsSize}
use Rattle.cbor_data.specs.Machine.Machine.{State, Frame, rest, until, until_key, until_value, item, argument, body, chunk, chunk_argument, chunk_body, simple, done, await_content, await_chunk_content, start_chunk, twice, ask, wide, after, give, step, steps, start, info_of, given, more, opens_container}

major_of : (m i : ℕ) → i < 32 → initial m i / 32 ≡ m
major_of m i h = omega arith

info_in : (m i : ℕ) → i < 32 → initial m i % 32 ≡ i
info_in m i h = omega arith

-- what the machine does at an initial byte
pub first : (m i : ℕ) (K : List Frame) → i < 32 → step (item K) (initial m i) ≡ start m (info_of i) K
first m i K h = ap (λ a. start a (info_of (initial m i % 32)) K) (major_of m i h) ∙ ap (λ a. start m (info_of a) K) (info_in m i h)

pub info_of-given : (n : ℕ) → n < 24 → info_of n ≡ given n
info_of-given n h = grind (arith, nat_tests)

pub wide_is : (m k : ℕ) (K : List Frame) → m < 7 → wide m k K ≡ argument m k 0 K
wide_is zero k K h = refl
wide_is (suc zero) k K h = refl
wide_is (suc (suc zero)) k K h = refl
wide_is (suc (suc (suc zero))) k K h = refl
wide_is (suc (suc (suc (suc zero)))) k K h = refl
wide_is (suc (suc (suc (suc (suc zero))))) k K h = refl
wide_is (suc (suc (suc (suc (suc (suc zero)))))) k K h = refl
wide_is (suc (suc (suc (suc (suc (suc (suc m))))))) k K h = absurd (omega arith)

-- a head in any width comes to the same
pub head : (p : ArgumentSize) (m n : ℕ) (K : List Frame) (r : List ℕ) → m < 7 → FitsSize p n → steps (item K) (head_in p m n ++ r) ≡ steps (after m n K) r
head inside m n K r small h = rw (first m n K (omega arith), info_of-given n h) refl
head one m n K r small h = rw (first m 24 K (omega arith), wide_is m 0 K small) (ap (λ a. steps (after m a K) r) (omega arith))
head two m n K r small h = rw (first m 25 K (omega arith), wide_is m 1 K small) (ap (λ a. steps (after m a K) r) (omega (arith, from_be_bytes-to_be_bytes_2 n h)))
head four m n K r small h = rw (first m 26 K (omega arith), wide_is m 3 K small) (ap (λ a. steps (after m a K) r) (omega (arith, from_be_bytes-to_be_bytes_4 n h)))
head eight m n K r small h = rw (first m 27 K (omega arith), wide_is m 7 K small) (ap (λ a. steps (after m a K) r) (omega (arith, from_be_bytes-to_be_bytes_8 n h)))

-- the bytes of a string
pub string : (s : List ℕ) (K : List Frame) (r : List ℕ) → steps (await_content (length s) K) (s ++ r) ≡ steps (give K) r
string [] K r = refl
string (b ∷ []) K r = refl
string (b ∷ c ∷ s) K r = string (c ∷ s) K r

pub give_rest : (n : ℕ) (K : List Frame) → give (rest n ∷ K) ≡ ask n K
give_rest zero K = refl
give_rest (suc n) K = refl

pub chunk_first : (m i : ℕ) (K : List Frame) → m < 7 → i < 32 → step (chunk m K) (initial m i) ≡ start_chunk m (info_of i) K
chunk_first m i K small h =
    let other : (initial m i == 255) ≡ false = grind (arith, nat_tests) in
    let same : (m == m) ≡ true = grind (arith, nat_tests) in
    rw (other, major_of m i h, info_in m i h, same) refl

chunk_head : (p : ArgumentSize) (m n : ℕ) (K : List Frame) (r : List ℕ) → m < 7 → FitsSize p n → steps (chunk m K) (head_in p m n ++ r) ≡ steps (await_chunk_content m n K) r
chunk_head inside m n K r small h = rw (chunk_first m n K small (omega arith), info_of-given n h) refl
chunk_head one m n K r small h = rw (chunk_first m 24 K small (omega arith)) (ap (λ a. steps (await_chunk_content m a K) r) (omega arith))
chunk_head two m n K r small h = rw (chunk_first m 25 K small (omega arith)) (ap (λ a. steps (await_chunk_content m a K) r) (omega (arith, from_be_bytes-to_be_bytes_2 n h)))
chunk_head four m n K r small h = rw (chunk_first m 26 K small (omega arith)) (ap (λ a. steps (await_chunk_content m a K) r) (omega (arith, from_be_bytes-to_be_bytes_4 n h)))
chunk_head eight m n K r small h = rw (chunk_first m 27 K small (omega arith)) (ap (λ a. steps (await_chunk_content m a K) r) (omega (arith, from_be_bytes-to_be_bytes_8 n h)))

chunk_string : (m : ℕ) (s : List ℕ) (K : List Frame) (r : List ℕ) → steps (await_chunk_content m (length s) K) (s ++ r) ≡ steps (chunk m K) r
chunk_string m [] K r = refl
chunk_string m (b ∷ []) K r = refl
chunk_string m (b ∷ c ∷ s) K r = chunk_string m (c ∷ s) K r

chunks_forward : (m : ℕ) (cs : List Chunk) (K : List Frame) (r : List ℕ) → m < 7 → AreChunksOk cs → steps (chunk m K) (chunks_bytes m cs ++ r) ≡ steps (chunk m K) r
chunks_forward m [] K r small ok = refl
chunks_forward m (c ∷ cs) K r small ok =
    ap (steps (chunk m K)) (append_assoc (chunk_bytes m c) (chunks_bytes m cs) r ∙ append_assoc (head_in c.size m (length c.content)) c.content (chunks_bytes m cs ++ r))
    ∙ chunk_head c.size m (length c.content) K (c.content ++ (chunks_bytes m cs ++ r)) small ok.0.0 ∙ chunk_string m c.content K (chunks_bytes m cs ++ r) ∙ chunks_forward m cs K r small ok.1

float_forward : (w : Width) (n : ℕ) (K : List Frame) (r : List ℕ) → steps (item K) (float_bytes w n ++ r) ≡ steps (give K) r
float_forward W16 n K r = refl
float_forward W32 n K r = refl
float_forward W64 n K r = refl

mutual
  -- a form in any place comes to its end there
  pub forward : (f : Form) (K : List Frame) (r : List ℕ) → IsOk f → steps (item K) (flat f ++ r) ≡ steps (give K) r
  forward (uint_form p n) K r ok = head p 0 n K r (omega arith) ok
  forward (nint_form p n) K r ok = head p 1 n K r (omega arith) ok
  forward (bytes_form p s) K r ok = ap (steps (item K)) (append_assoc (head_in p 2 (length s)) s r) ∙ head p 2 (length s) K (s ++ r) (omega arith) ok.0 ∙ string s K r
  forward (bytes_chunks cs) K r ok = ap (steps (chunk 2 K)) (append_assoc (chunks_bytes 2 cs) (255 ∷ []) r) ∙ chunks_forward 2 cs K (255 ∷ r) (omega arith) ok
  forward (text_form p s) K r ok = ap (steps (item K)) (append_assoc (head_in p 3 (length s)) s r) ∙ head p 3 (length s) K (s ++ r) (omega arith) ok.0 ∙ string s K r
  forward (text_chunks cs) K r ok = ap (steps (chunk 3 K)) (append_assoc (chunks_bytes 3 cs) (255 ∷ []) r) ∙ chunks_forward 3 cs K (255 ∷ r) (omega arith) ok
  forward (array_form p fs) K r ok = ap (steps (item K)) (append_assoc (head_in p 4 (forms_len fs)) (forms_flat fs) r) ∙ head p 4 (forms_len fs) K (forms_flat fs ++ r) (omega arith) ok.0 ∙ forms_forward fs K r ok.1
  forward (array_to_break fs) K r ok = ap (steps (item (until ∷ K))) (append_assoc (forms_flat fs) (255 ∷ []) r) ∙ to_end fs K r ok
  forward (pairs_form p ps) K r ok = ap (steps (item K)) (append_assoc (head_in p 5 (pair_forms_len ps)) (pair_forms_flat ps) r) ∙ head p 5 (pair_forms_len ps) K (pair_forms_flat ps ++ r) (omega arith) ok.0 ∙ pairs_forward ps K r ok.1
  forward (pairs_to_break ps) K r ok = ap (steps (item (until_key ∷ K))) (append_assoc (pair_forms_flat ps) (255 ∷ []) r) ∙ pairs_to_end ps K r ok
  forward (tag_form p n f) K r ok = ap (steps (item K)) (append_assoc (head_in p 6 n) (flat f) r) ∙ head p 6 n K (flat f ++ r) (omega arith) ok.0 ∙ forward f (rest 0 ∷ K) r ok.1
  forward (simple_inside n) K r ok = rw (first 7 n K (omega arith), info_of-given n ok) refl
  forward (simple_next n) K r ok = let wide_enough : nat_lt n 32 ≡ false = grind (arith, nat_tests) in rw wide_enough refl
  forward (float_form w n) K r ok = float_forward w n K r

  pub forms_forward : (fs : Forms) (K : List Frame) (r : List ℕ) → AreFormsOk fs → steps (ask (forms_len fs) K) (forms_flat fs ++ r) ≡ steps (give K) r
  forms_forward no_forms K r ok = refl
  forms_forward (form f fs) K r ok =
      ap (steps (item (rest (forms_len fs) ∷ K))) (append_assoc (flat f) (forms_flat fs) r) ∙ forward f (rest (forms_len fs) ∷ K) (forms_flat fs ++ r) ok.0
      ∙ ap (λ s. steps s (forms_flat fs ++ r)) (give_rest (forms_len fs) K) ∙ forms_forward fs K r ok.1

  pub to_end : (fs : Forms) (K : List Frame) (r : List ℕ) → AreFormsOk fs → steps (item (until ∷ K)) (forms_flat fs ++ 255 ∷ r) ≡ steps (give K) r
  to_end no_forms K r ok = refl
  to_end (form f fs) K r ok = ap (steps (item (until ∷ K))) (append_assoc (flat f) (forms_flat fs) (255 ∷ r)) ∙ forward f (until ∷ K) (forms_flat fs ++ 255 ∷ r) ok.0 ∙ to_end fs K r ok.1

  pub pairs_forward : (ps : PairForms) (K : List Frame) (r : List ℕ) → ArePairFormsOk ps → steps (ask (twice (pair_forms_len ps)) K) (pair_forms_flat ps ++ r) ≡ steps (give K) r
  pairs_forward no_pair_forms K r ok = refl
  pairs_forward (pair_form k v ps) K r ok =
      let n = twice (pair_forms_len ps) in
      let more_bytes = pair_forms_flat ps ++ r in
      ap (steps (item (rest (suc n) ∷ K))) (append_assoc (flat k) (flat v ++ pair_forms_flat ps) r) ∙ forward k (rest (suc n) ∷ K) ((flat v ++ pair_forms_flat ps) ++ r) ok.0
      ∙ ap (steps (item (rest n ∷ K))) (append_assoc (flat v) (pair_forms_flat ps) r) ∙ forward v (rest n ∷ K) more_bytes ok.1
      ∙ ap (λ s. steps s more_bytes) (give_rest n K) ∙ pairs_forward ps K r ok.2

  pub pairs_to_end : (ps : PairForms) (K : List Frame) (r : List ℕ) → ArePairFormsOk ps → steps (item (until_key ∷ K)) (pair_forms_flat ps ++ 255 ∷ r) ≡ steps (give K) r
  pairs_to_end no_pair_forms K r ok = refl
  pairs_to_end (pair_form k v ps) K r ok =
      let more_bytes = pair_forms_flat ps ++ 255 ∷ r in
      ap (steps (item (until_key ∷ K))) (append_assoc (flat k) (flat v ++ pair_forms_flat ps) (255 ∷ r)) ∙ forward k (until_key ∷ K) ((flat v ++ pair_forms_flat ps) ++ 255 ∷ r) ok.0
      ∙ ap (steps (item (until_value ∷ K))) (append_assoc (flat v) (pair_forms_flat ps) (255 ∷ r)) ∙ forward v (until_value ∷ K) more_bytes ok.1
      ∙ pairs_to_end ps K r ok.2

-- every live state can be completed

-- none is the initial byte of a container
abbrev pub AreQuiet : List ℕ → Type 0
AreQuiet [] = Unit {0}
AreQuiet (b ∷ bs) = (opens_container b ≡ false) × AreQuiet bs

pub record Completes (s : State) : Type 0 where
  pub more : List ℕ
  pub bytes : AreBytes more
  pub quiet : AreQuiet more
  pub done : steps s more ≡ Some done

by : (s t : State) (b : ℕ) → b < 256 → opens_container b ≡ false → step s b ≡ Some t → Completes t → Completes s
by s t b small still e c = record { more = b ∷ c.more; bytes = (small, c.bytes); quiet = (still, c.quiet); done = ap (option_and_then (λ u. steps u c.more)) e ∙ c.done }

ask_completes : (n : ℕ) (K : List Frame) → Completes (give K) → Completes (ask n K)
ask_completes zero K c = c
ask_completes (suc n) K c = by _ (give (rest n ∷ K)) 0 (omega arith) refl refl (subst Completes (sym (give_rest n K)) (ask_completes n K c))

give_completes : (K : List Frame) → Completes (give K)
give_completes [] = record { more = []; bytes = tt; quiet = tt; done = refl }
give_completes (rest n ∷ K) = subst Completes (sym (give_rest n K)) (ask_completes n K (give_completes K))
give_completes (until ∷ K) = by _ (give K) 255 (omega arith) refl refl (give_completes K)
give_completes (until_key ∷ K) = by _ (item (until_key ∷ K)) 0 (omega arith) refl refl (by _ (give K) 255 (omega arith) refl refl (give_completes K))
give_completes (until_value ∷ K) = by _ (give K) 255 (omega arith) refl refl (give_completes K)

body_completes : (n : ℕ) (K : List Frame) → Completes (body n K)
body_completes zero K = by _ (give K) 0 (omega arith) refl refl (give_completes K)
body_completes (suc n) K = by _ (body n K) 0 (omega arith) refl refl (body_completes n K)

content_completes : (n : ℕ) (K : List Frame) → Completes (await_content n K)
content_completes zero K = give_completes K
content_completes (suc n) K = body_completes n K

chunk_completes : (m : ℕ) (K : List Frame) → Completes (chunk m K)
chunk_completes m K = by _ (give K) 255 (omega arith) refl refl (give_completes K)

chunk_body_completes : (m n : ℕ) (K : List Frame) → Completes (chunk_body m n K)
chunk_body_completes m zero K = by _ (chunk m K) 0 (omega arith) refl refl (chunk_completes m K)
chunk_body_completes m (suc n) K = by _ (chunk_body m n K) 0 (omega arith) refl refl (chunk_body_completes m n K)

chunk_content_completes : (m n : ℕ) (K : List Frame) → Completes (await_chunk_content m n K)
chunk_content_completes m zero K = chunk_completes m K
chunk_content_completes m (suc n) K = chunk_body_completes m n K

after_completes : (m n : ℕ) (K : List Frame) → Completes (after m n K)
after_completes zero n K = give_completes K
after_completes (suc zero) n K = give_completes K
after_completes (suc (suc zero)) n K = content_completes n K
after_completes (suc (suc (suc zero))) n K = content_completes n K
after_completes (suc (suc (suc (suc zero)))) n K = ask_completes n K (give_completes K)
after_completes (suc (suc (suc (suc (suc zero))))) n K = ask_completes (twice n) K (give_completes K)
after_completes (suc (suc (suc (suc (suc (suc zero)))))) n K = ask_completes 1 K (give_completes K)
after_completes (suc (suc (suc (suc (suc (suc (suc m))))))) n K = give_completes K

argument_completes : (k m n : ℕ) (K : List Frame) → Completes (argument m k n K)
argument_completes zero m n K = by _ (after m (n * 256 + 0) K) 0 (omega arith) refl refl (after_completes m (n * 256 + 0) K)
argument_completes (suc k) m n K = by _ (argument m k (n * 256 + 0) K) 0 (omega arith) refl refl (argument_completes k m (n * 256 + 0) K)

chunk_argument_completes : (k m n : ℕ) (K : List Frame) → Completes (chunk_argument m k n K)
chunk_argument_completes zero m n K = by _ (await_chunk_content m (n * 256 + 0) K) 0 (omega arith) refl refl (chunk_content_completes m (n * 256 + 0) K)
chunk_argument_completes (suc k) m n K = by _ (chunk_argument m k (n * 256 + 0) K) 0 (omega arith) refl refl (chunk_argument_completes k m (n * 256 + 0) K)

-- whatever is in the stack
pub completes : (s : State) → Completes s
completes (item K) = by _ (give K) 0 (omega arith) refl refl (give_completes K)
completes (argument m k n K) = argument_completes k m n K
completes (body n K) = body_completes n K
completes (chunk m K) = chunk_completes m K
completes (chunk_argument m k n K) = chunk_argument_completes k m n K
completes (chunk_body m n K) = chunk_body_completes m n K
completes (simple K) = by _ (give K) 32 (omega arith) refl refl (give_completes K)
completes done = record { more = []; bytes = tt; quiet = tt; done = refl }

chained : (o : Option State) (f g h : State → Option State) → ((t : State) → f t ≡ option_and_then h (g t)) → option_and_then f o ≡ option_and_then h (option_and_then g o)
chained None f g h e = refl
chained (Some t) f g h e = e t

pub steps-append : (s : State) (a b : List ℕ) → steps s (a ++ b) ≡ option_and_then (λ t. steps t b) (steps s a)
steps-append s [] b = refl
steps-append s (x ∷ a) b = chained (step s x) (λ t. steps t (a ++ b)) (λ t. steps t a) (λ t. steps t b) (λ t. steps-append t a b)

-- a byte that the machine refuses begins no item, however it goes on
pub refused : (b : List ℕ) → steps (item []) b ≡ None → Begins b → ⊥
refused b e w =
    let reads : steps (item []) (b ++ w.0) ≡ Some done = ap (steps (item [])) (w.1.is ∙ sym (append-nil (flat w.1.written))) ∙ forward w.1.written [] [] w.1.ok in
    let none : steps (item []) (b ++ w.0) ≡ None = steps-append (item []) b w.0 ∙ ap (option_and_then (λ t. steps t w.0)) e in
    cc
