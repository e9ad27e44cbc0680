-- What the machine has read is written so: each step keeps it, and a machine that is done has read a well-formed item.
use Rattle.std.proofs.Common.{◌≡◌, ◌≢◌, ℕ, zero, suc, ◌+◌, ◌*◌, ◌/◌, ◌%◌, ◌<◌, ◌≤◌, ◌^◌, List, [], ◌∷◌, ◌++◌, length, Option, Some, None, option_and_then, nat_lt, ◌==◌, true, false, ◌⊎◌, inl, inr, refl, sym, ap, ◌∙◌, subst, arith, append_assoc, append-nil, length-append, get_or}
use Rattle.std.specs.Int.{from_be_bytes, w16, w32, w64}
use Rattle.std.proofs.lemmas.Nat.{be_bytes_2, be_bytes_4, be_bytes_8}
use Rattle.std.proofs.lemmas.Bool.Decides.{nat_tests}
use Rattle.lists.proofs.Lemmas.{tested}
use Rattle.cbor_data.specs.declared.Width.{Width}
use Rattle.cbor_data.specs.declared.Width.TheVariants.{W16, W32, W64}
use Rattle.cbor_data.specs.Value.{AreBytes}
use Rattle.cbor_data.specs.Preferred.{initial}
use Rattle.cbor_data.specs.Forms.{ArgumentSize, inside, one, two, four, eight, head_in, FitsSize, Form, uint_form, nint_form, bytes_form, bytes_chunks, text_form, text_chunks, array_form, array_to_break, pairs_form, pairs_to_break, tag_form, simple_inside, simple_next, float_form, Forms, no_forms, form, PairForms, no_pair_forms, pair_form, Chunk, chunk_bytes, chunks_bytes, AreChunksOk, forms_len, pair_forms_len, flat, forms_flat, pair_forms_flat, IsOk, AreFormsOk, ArePairFormsOk, IsWellFormed}
use Rattle.cbor_data.specs.Machine.Machine.{State, Frame, rest, until, until_key, until_value, item, argument, body, chunk, chunk_argument, chunk_body, simple, done, await_content, await_chunk_content, start_chunk, twice, ask, wide, after, give, step, steps, start, info_of, given, more, indefinite, reserved, open_indefinite, break}

-- one more form at the end
abbrev pub forms_and : Forms → Form → Forms
forms_and no_forms f = form f no_forms
forms_and (form g gs) f = form g (forms_and gs f)

abbrev pub pairs_and : PairForms → Form → Form → PairForms
pairs_and no_pair_forms k v = pair_form k v no_pair_forms
pairs_and (pair_form l w ps) k v = pair_form l w (pairs_and ps k v)

forms_and-flat : (gs : Forms) (f : Form) → forms_flat (forms_and gs f) ≡ forms_flat gs ++ flat f
forms_and-flat no_forms f = append-nil (flat f)
forms_and-flat (form g gs) f = ap (λ b. flat g ++ b) (forms_and-flat gs f) ∙ sym (append_assoc (flat g) (forms_flat gs) (flat f))

forms_and-len : (gs : Forms) (f : Form) → forms_len (forms_and gs f) ≡ suc (forms_len gs)
forms_and-len no_forms f = refl
forms_and-len (form g gs) f = ap suc (forms_and-len gs f)

forms_and-ok : (gs : Forms) (f : Form) → AreFormsOk gs → IsOk f → AreFormsOk (forms_and gs f)
forms_and-ok no_forms f a b = (b, tt)
forms_and-ok (form g gs) f a b = (a.0, forms_and-ok gs f a.1 b)

pairs_and-flat : (ps : PairForms) (k v : Form) → pair_forms_flat (pairs_and ps k v) ≡ (pair_forms_flat ps ++ flat k) ++ flat v
pairs_and-flat no_pair_forms k v = ap (λ b. flat k ++ b) (append-nil (flat v))
pairs_and-flat (pair_form l w ps) k v =
    ap (λ b. flat l ++ (flat w ++ b)) (pairs_and-flat ps k v)
    ∙ sym (append_assoc (flat l ++ (flat w ++ pair_forms_flat ps)) (flat k) (flat v)
    ∙ (append_assoc (flat l) (flat w ++ pair_forms_flat ps) (flat k ++ flat v)
    ∙ ap (λ b. flat l ++ b) (append_assoc (flat w) (pair_forms_flat ps) (flat k ++ flat v) ∙ ap (λ b. flat w ++ b) (sym (append_assoc (pair_forms_flat ps) (flat k) (flat v))))))

pairs_and-len : (ps : PairForms) (k v : Form) → pair_forms_len (pairs_and ps k v) ≡ suc (pair_forms_len ps)
pairs_and-len no_pair_forms k v = refl
pairs_and-len (pair_form l w ps) k v = ap suc (pairs_and-len ps k v)

pairs_and-ok : (ps : PairForms) (k v : Form) → ArePairFormsOk ps → IsOk k → IsOk v → ArePairFormsOk (pairs_and ps k v)
pairs_and-ok no_pair_forms k v a b c = (b, c, tt)
pairs_and-ok (pair_form l w ps) k v a b c = (a.0, a.1, pairs_and-ok ps k v a.2 b c)

-- The bytes c lead into these open containers, up to where an item is awaited in the innermost.
pub data Within : List Frame → List ℕ → Type 0 where
  nowhere : {c : List ℕ} → c ≡ [] → Within [] c
  in_array : {K : List Frame} {r : ℕ} {c : List ℕ} (b : List ℕ) (p : ArgumentSize) (n : ℕ) (fs : Forms) → Within K b → FitsSize p n → AreFormsOk fs → forms_len fs + suc r ≡ n →
      c ≡ b ++ (head_in p 4 n ++ forms_flat fs) → Within (rest r ∷ K) c
  in_open_array : {K : List Frame} {c : List ℕ} (b : List ℕ) (fs : Forms) → Within K b → AreFormsOk fs → c ≡ b ++ (initial 4 31 ∷ forms_flat fs) → Within (until ∷ K) c
  at_key : {K : List Frame} {r : ℕ} {c : List ℕ} (b : List ℕ) (p : ArgumentSize) (n m : ℕ) (ps : PairForms) → Within K b → FitsSize p n → ArePairFormsOk ps → pair_forms_len ps + suc m ≡ n → r ≡ suc (twice m) →
      c ≡ b ++ (head_in p 5 n ++ pair_forms_flat ps) → Within (rest r ∷ K) c
  at_value : {K : List Frame} {r : ℕ} {c : List ℕ} (b : List ℕ) (p : ArgumentSize) (n m : ℕ) (ps : PairForms) (k : Form) → Within K b → FitsSize p n → ArePairFormsOk ps → IsOk k → pair_forms_len ps + suc m ≡ n → r ≡ twice m →
      c ≡ b ++ (head_in p 5 n ++ (pair_forms_flat ps ++ flat k)) → Within (rest r ∷ K) c
  at_open_key : {K : List Frame} {c : List ℕ} (b : List ℕ) (ps : PairForms) → Within K b → ArePairFormsOk ps → c ≡ b ++ (initial 5 31 ∷ pair_forms_flat ps) → Within (until_key ∷ K) c
  at_open_value : {K : List Frame} {c : List ℕ} (b : List ℕ) (ps : PairForms) (k : Form) → Within K b → ArePairFormsOk ps → IsOk k → c ≡ b ++ (initial 5 31 ∷ (pair_forms_flat ps ++ flat k)) → Within (until_value ∷ K) c
  in_tag : {K : List Frame} {r : ℕ} {c : List ℕ} (b : List ℕ) (p : ArgumentSize) (n : ℕ) → Within K b → FitsSize p n → r ≡ 0 → c ≡ b ++ head_in p 6 n → Within (rest r ∷ K) c

-- how many bytes an argument of this size has after the initial byte
abbrev pub size_len : ArgumentSize → ℕ
size_len inside = 0
size_len one = 1
size_len two = 2
size_len four = 4
size_len eight = 8

-- the additional information of a size, of which `inside` has none of its own
abbrev pub width_info : ArgumentSize → ℕ
width_info inside = 0
width_info one = 24
width_info two = 25
width_info four = 26
width_info eight = 27

abbrev pub float_size : Width → ArgumentSize
float_size W16 = two
float_size W32 = four
float_size W64 = eight

-- the number whose bytes, highest first, come after those of n
abbrev pub number_after : ℕ → List ℕ → ℕ
number_after n [] = n
number_after n (x ∷ xs) = number_after (n * 256 + x) xs

abbrev pub IsString : ℕ → Type 0
IsString m = (m ≡ 2) ⊎ (m ≡ 3)

-- a part of the bytes after an initial byte: with `suc left` more the argument is full
pub record PartRead (p : ArgumentSize) (left n : ℕ) (s : List ℕ) : Type 0 where
  pub are : AreBytes s
  pub len : length s + suc left ≡ size_len p
  pub number : n ≡ number_after 0 s

pub data BodyRead (left : ℕ) (K : List Frame) (c : List ℕ) : Type 0 where
  of_string : (b : List ℕ) (p : ArgumentSize) (m n : ℕ) (s : List ℕ) → Within K b → IsString m → FitsSize p n → AreBytes s → length s + suc left ≡ n → c ≡ b ++ (head_in p m n ++ s) → BodyRead left K c
  of_float : (b : List ℕ) (w : Width) (s : List ℕ) → Within K b → AreBytes s → length s + suc left ≡ size_len (float_size w) → c ≡ b ++ (initial 7 (width_info (float_size w)) ∷ s) → BodyRead left K c

-- The chunks so far of an open string.
pub record ChunksRead (m : ℕ) (K : List Frame) (c : List ℕ) : Type 0 where
  pub before : List ℕ
  pub chunks : List Chunk
  pub within : Within K before
  pub string : IsString m
  pub ok : AreChunksOk chunks
  pub is : c ≡ before ++ (initial m 31 ∷ chunks_bytes m chunks)

-- What the bytes c are where the machine is in this state.
abbrev pub Reached : State → List ℕ → Type 0
Reached (item K) c = Within K c
Reached (argument m left n K) c = (b : List ℕ) × (p : ArgumentSize) × (s : List ℕ) × Within K b × (m < 7) × PartRead p left n s × (c ≡ b ++ (initial m (width_info p) ∷ s))
Reached (body left K) c = BodyRead left K c
Reached (chunk m K) c = ChunksRead m K c
Reached (chunk_argument m left n K) c = (b : List ℕ) × (p : ArgumentSize) × (s : List ℕ) × ChunksRead m K b × PartRead p left n s × (c ≡ b ++ (initial m (width_info p) ∷ s))
Reached (chunk_body m left K) c = (b : List ℕ) × (p : ArgumentSize) × (n : ℕ) × (s : List ℕ) × ChunksRead m K b × FitsSize p n × AreBytes s × (length s + suc left ≡ n) × (c ≡ b ++ (head_in p m n ++ s))
Reached (simple K) c = (b : List ℕ) × Within K b × (c ≡ b ++ (initial 7 24 ∷ []))
Reached done c = IsWellFormed c

-- lists

longer : (a b c d : List ℕ) → (a ++ (b ++ c)) ++ d ≡ a ++ (b ++ (c ++ d))
longer a b c d = append_assoc a (b ++ c) d ∙ ap (λ x. a ++ x) (append_assoc b c d)

written_array : (b h g f t : List ℕ) → t ≡ g ++ f → (b ++ (h ++ g)) ++ f ≡ b ++ (h ++ t)
written_array b h g f t e = longer b h g f ∙ ap (λ x. b ++ (h ++ x)) (sym e)

-- an item is whole, and its container goes on or is whole too
give_keeps : (K : List Frame) (b c : List ℕ) (f : Form) → Within K b → IsOk f → c ≡ b ++ flat f → Reached (give K) c
give_keeps _ b c f (nowhere e) ok is = record { written = f; ok = ok; is = is ∙ ap (λ a. a ++ flat f) e }
give_keeps (rest zero ∷ K) b c f (in_array a p n fs w fits oks len e) ok is =
    let all = forms_and fs f in
    let count : forms_len all ≡ n = forms_and-len fs f ∙ (omega arith) in
    give_keeps K a c (array_form p all) w (subst (FitsSize p) (sym count) fits, forms_and-ok fs f oks ok)
    (is ∙ (ap (λ x. x ++ flat f) e ∙ (written_array a (head_in p 4 n) (forms_flat fs) (flat f) (forms_flat all) (forms_and-flat fs f) ∙ ap (λ k. a ++ (head_in p 4 k ++ forms_flat all)) (sym count))))
give_keeps (rest (suc r) ∷ K) b c f (in_array a p n fs w fits oks len e) ok is =
    let count : forms_len (forms_and fs f) + suc r ≡ n = ap (λ k. k + suc r) (forms_and-len fs f) ∙ (omega arith) in
    in_array a p n (forms_and fs f) w fits (forms_and-ok fs f oks ok) count
    (is ∙ (ap (λ x. x ++ flat f) e ∙ written_array a (head_in p 4 n) (forms_flat fs) (flat f) (forms_flat (forms_and fs f)) (forms_and-flat fs f)))
give_keeps (until ∷ K) b c f (in_open_array a fs w oks e) ok is =
    in_open_array a (forms_and fs f) w (forms_and-ok fs f oks ok)
    (is ∙ (ap (λ x. x ++ flat f) e ∙ written_array a (initial 4 31 ∷ []) (forms_flat fs) (flat f) (forms_flat (forms_and fs f)) (forms_and-flat fs f)))
give_keeps (rest zero ∷ K) b c f (at_key a p n m ps w fits oks len r e) ok is = absurd (omega arith)
give_keeps (rest (suc r) ∷ K) b c f (at_key a p n m ps w fits oks len re e) ok is =
    let left : r ≡ twice m = omega arith in
    at_value a p n m ps f w fits oks ok len left
    (is ∙ (ap (λ x. x ++ flat f) e ∙ longer a (head_in p 5 n) (pair_forms_flat ps) (flat f)))
give_keeps (rest zero ∷ K) b c f (at_value a p n zero ps k w fits oks okk len r e) ok is =
    let all = pairs_and ps k f in
    let count : pair_forms_len all ≡ n = pairs_and-len ps k f ∙ (omega arith) in
    give_keeps K a c (pairs_form p all) w (subst (FitsSize p) (sym count) fits, pairs_and-ok ps k f oks okk ok)
    (is ∙ (ap (λ x. x ++ flat f) e ∙ (written_array a (head_in p 5 n) (pair_forms_flat ps ++ flat k) (flat f) (pair_forms_flat all) (pairs_and-flat ps k f) ∙ ap (λ i. a ++ (head_in p 5 i ++ pair_forms_flat all)) (sym count))))
give_keeps (rest zero ∷ K) b c f (at_value a p n (suc m) ps k w fits oks okk len r e) ok is = absurd (omega arith)
give_keeps (rest (suc r) ∷ K) b c f (at_value a p n zero ps k w fits oks okk len re e) ok is = absurd (omega arith)
give_keeps (rest (suc r) ∷ K) b c f (at_value a p n (suc m) ps k w fits oks okk len re e) ok is =
    let count : pair_forms_len (pairs_and ps k f) + suc m ≡ n = ap (λ i. i + suc m) (pairs_and-len ps k f) ∙ (omega arith) in
    let left : r ≡ suc (twice m) = omega arith in
    at_key a p n m (pairs_and ps k f) w fits (pairs_and-ok ps k f oks okk ok) count left
    (is ∙ (ap (λ x. x ++ flat f) e ∙ written_array a (head_in p 5 n) (pair_forms_flat ps ++ flat k) (flat f) (pair_forms_flat (pairs_and ps k f)) (pairs_and-flat ps k f)))
give_keeps (until_key ∷ K) b c f (at_open_key a ps w oks e) ok is =
    at_open_value a ps f w oks ok (is ∙ (ap (λ x. x ++ flat f) e ∙ longer a (initial 5 31 ∷ []) (pair_forms_flat ps) (flat f)))
give_keeps (until_value ∷ K) b c f (at_open_value a ps k w oks okk e) ok is =
    at_open_key a (pairs_and ps k f) w (pairs_and-ok ps k f oks okk ok)
    (is ∙ (ap (λ x. x ++ flat f) e ∙ written_array a (initial 5 31 ∷ []) (pair_forms_flat ps ++ flat k) (flat f) (pair_forms_flat (pairs_and ps k f)) (pairs_and-flat ps k f)))
give_keeps (rest zero ∷ K) b c f (in_tag a p n w fits r e) ok is =
    give_keeps K a c (tag_form p n f) w (fits, ok) (is ∙ (ap (λ x. x ++ flat f) e ∙ append_assoc a (head_in p 6 n) (flat f)))
give_keeps (rest (suc r) ∷ K) b c f (in_tag a p n w fits re e) ok is = absurd (omega arith)

pub bytes-append : (a b : List ℕ) → AreBytes a → AreBytes b → AreBytes (a ++ b)
bytes-append [] b h k = k
bytes-append (x ∷ a) b h k = (h.0, bytes-append a b h.1 k)

number_after-push : (n x : ℕ) (s : List ℕ) → number_after n (s ++ x ∷ []) ≡ number_after n s * 256 + x
number_after-push n x [] = refl
number_after-push n x (y ∷ s) = number_after-push (n * 256 + y) x s

small_at : (bs : List ℕ) → AreBytes bs → (i : ℕ) → get_or bs i 0 < 256
small_at [] h i = omega arith
small_at (b ∷ bs) h zero = h.0
small_at (b ∷ bs) h (suc i) = small_at bs h.1 i

-- full bytes after an initial byte are a head
record IsHeadOf (p : ArgumentSize) (m : ℕ) (s : List ℕ) : Type 0 where
  pub is : initial m (width_info p) ∷ s ≡ head_in p m (number_after 0 s)
  pub fits : FitsSize p (number_after 0 s)

two_number : (s : List ℕ) → length s ≡ 2 → number_after 0 s ≡ from_be_bytes w16 s
two_number [] len = absurd (omega arith)
two_number (a ∷ []) len = absurd (omega arith)
two_number (a ∷ b ∷ []) len = omega arith
two_number (a ∷ b ∷ x ∷ s) len = absurd (omega arith)

two_fits : (s : List ℕ) → AreBytes s → length s ≡ 2 → number_after 0 s < 2 ^ 16
two_fits [] are len = absurd (omega arith)
two_fits (a ∷ []) are len = absurd (omega arith)
two_fits (a ∷ b ∷ []) are len = let a_small : a < 256 = are.0 in let b_small : b < 256 = are.1.0 in omega arith
two_fits (a ∷ b ∷ x ∷ s) are len = absurd (omega arith)

four_number : (s : List ℕ) → length s ≡ 4 → number_after 0 s ≡ from_be_bytes w32 s
four_number [] len = absurd (omega arith)
four_number (a ∷ []) len = absurd (omega arith)
four_number (a ∷ b ∷ []) len = absurd (omega arith)
four_number (a ∷ b ∷ c ∷ []) len = absurd (omega arith)
four_number (a ∷ b ∷ c ∷ d ∷ []) len = omega arith
four_number (a ∷ b ∷ c ∷ d ∷ x ∷ s) len = absurd (omega arith)

four_fits : (s : List ℕ) → AreBytes s → length s ≡ 4 → number_after 0 s < 2 ^ 32
four_fits [] are len = absurd (omega arith)
four_fits (a ∷ []) are len = absurd (omega arith)
four_fits (a ∷ b ∷ []) are len = absurd (omega arith)
four_fits (a ∷ b ∷ c ∷ []) are len = absurd (omega arith)
four_fits (a ∷ b ∷ c ∷ d ∷ []) are len = let a_small : a < 256 = are.0 in let b_small : b < 256 = are.1.0 in let c_small : c < 256 = are.1.1.0 in let d_small : d < 256 = are.1.1.1.0 in omega arith
four_fits (a ∷ b ∷ c ∷ d ∷ x ∷ s) are len = absurd (omega arith)

eight_number : (s : List ℕ) → length s ≡ 8 → number_after 0 s ≡ from_be_bytes w64 s
eight_number [] len = absurd (omega arith)
eight_number (a ∷ []) len = absurd (omega arith)
eight_number (a ∷ b ∷ []) len = absurd (omega arith)
eight_number (a ∷ b ∷ c ∷ []) len = absurd (omega arith)
eight_number (a ∷ b ∷ c ∷ d ∷ []) len = absurd (omega arith)
eight_number (a ∷ b ∷ c ∷ d ∷ e ∷ []) len = absurd (omega arith)
eight_number (a ∷ b ∷ c ∷ d ∷ e ∷ f ∷ []) len = absurd (omega arith)
eight_number (a ∷ b ∷ c ∷ d ∷ e ∷ f ∷ g ∷ []) len = absurd (omega arith)
eight_number (a ∷ b ∷ c ∷ d ∷ e ∷ f ∷ g ∷ h ∷ []) len = omega arith
eight_number (a ∷ b ∷ c ∷ d ∷ e ∷ f ∷ g ∷ h ∷ x ∷ s) len = absurd (omega arith)

eight_fits : (s : List ℕ) → AreBytes s → length s ≡ 8 → number_after 0 s < 2 ^ 64
eight_fits [] are len = absurd (omega arith)
eight_fits (a ∷ []) are len = absurd (omega arith)
eight_fits (a ∷ b ∷ []) are len = absurd (omega arith)
eight_fits (a ∷ b ∷ c ∷ []) are len = absurd (omega arith)
eight_fits (a ∷ b ∷ c ∷ d ∷ []) are len = absurd (omega arith)
eight_fits (a ∷ b ∷ c ∷ d ∷ e ∷ []) are len = absurd (omega arith)
eight_fits (a ∷ b ∷ c ∷ d ∷ e ∷ f ∷ []) are len = absurd (omega arith)
eight_fits (a ∷ b ∷ c ∷ d ∷ e ∷ f ∷ g ∷ []) are len = absurd (omega arith)
eight_fits (a ∷ b ∷ c ∷ d ∷ e ∷ f ∷ g ∷ h ∷ []) are len = let a_small : a < 256 = are.0 in let b_small : b < 256 = are.1.0 in let c_small : c < 256 = are.1.1.0 in let d_small : d < 256 = are.1.1.1.0 in let e_small : e < 256 = are.1.1.1.1.0 in let f_small : f < 256 = are.1.1.1.1.1.0 in let g_small : g < 256 = are.1.1.1.1.1.1.0 in let h_small : h < 256 = are.1.1.1.1.1.1.1.0 in omega arith
eight_fits (a ∷ b ∷ c ∷ d ∷ e ∷ f ∷ g ∷ h ∷ x ∷ s) are len = absurd (omega arith)

full : (p : ArgumentSize) (m : ℕ) (s : List ℕ) → AreBytes s → length s ≡ size_len p → 0 < size_len p → IsHeadOf p m s
full inside m s are len some = absurd (omega arith)
full one m [] are len some = absurd (omega arith)
full one m (a ∷ []) are len some =
    let small : a < 256 = are.0 in
    let same : a ≡ (0 * 256 + a) % 256 = omega arith in
    record { is = ap (λ x. initial m 24 ∷ x ∷ []) same; fits = omega arith }
full one m (a ∷ b ∷ s) are len some = absurd (omega arith)
full two m s are len some = record {
  is = ap (λ x. initial m 25 ∷ x) (sym (be_bytes_2 s (number_after 0 s) len (small_at s are) (two_number s len)));
  fits = two_fits s are len;
}
full four m s are len some = record {
  is = ap (λ x. initial m 26 ∷ x) (sym (be_bytes_4 s (number_after 0 s) len (small_at s are) (four_number s len)));
  fits = four_fits s are len;
}
full eight m s are len some = record {
  is = ap (λ x. initial m 27 ∷ x) (sym (be_bytes_8 s (number_after 0 s) len (small_at s are) (eight_number s len)));
  fits = eight_fits s are len;
}

content_keeps : (n : ℕ) (K : List Frame) (b c : List ℕ) (p : ArgumentSize) (m : ℕ) → IsString m → Within K b → FitsSize p n → c ≡ b ++ head_in p m n → Reached (await_content n K) c
content_keeps zero K b c p _ (inl e) w fits is = give_keeps K b c (bytes_form p []) w (fits, tt) (is ∙ ap (λ x. b ++ x) (ap (λ m. head_in p m 0) e ∙ sym (append-nil (head_in p 2 0))))
content_keeps zero K b c p _ (inr e) w fits is = give_keeps K b c (text_form p []) w (fits, tt) (is ∙ ap (λ x. b ++ x) (ap (λ m. head_in p m 0) e ∙ sym (append-nil (head_in p 3 0))))
content_keeps (suc n) K b c p m e w fits is = of_string b p m (suc n) [] w e fits tt (omega arith) (is ∙ ap (λ x. b ++ x) (sym (append-nil (head_in p m (suc n)))))

asked_array : (n : ℕ) (K : List Frame) (b c : List ℕ) (p : ArgumentSize) → Within K b → FitsSize p n → c ≡ b ++ head_in p 4 n → Reached (ask n K) c
asked_array zero K b c p w fits is = give_keeps K b c (array_form p no_forms) w (fits, tt) (is ∙ ap (λ x. b ++ x) (sym (append-nil (head_in p 4 0))))
asked_array (suc n) K b c p w fits is = in_array b p (suc n) no_forms w fits tt (omega arith) (is ∙ ap (λ x. b ++ x) (sym (append-nil (head_in p 4 (suc n)))))

asked_pairs : (n : ℕ) (K : List Frame) (b c : List ℕ) (p : ArgumentSize) → Within K b → FitsSize p n → c ≡ b ++ head_in p 5 n → Reached (ask (twice n) K) c
asked_pairs zero K b c p w fits is = give_keeps K b c (pairs_form p no_pair_forms) w (fits, tt) (is ∙ ap (λ x. b ++ x) (sym (append-nil (head_in p 5 0))))
asked_pairs (suc n) K b c p w fits is = at_key b p (suc n) n no_pair_forms w fits tt (omega arith) refl (is ∙ ap (λ x. b ++ x) (sym (append-nil (head_in p 5 (suc n)))))

-- after a head
after_keeps : (m n : ℕ) (K : List Frame) (b c : List ℕ) (p : ArgumentSize) → m < 7 → Within K b → FitsSize p n → c ≡ b ++ head_in p m n → Reached (after m n K) c
after_keeps zero n K b c p small w fits is = give_keeps K b c (uint_form p n) w fits is
after_keeps (suc zero) n K b c p small w fits is = give_keeps K b c (nint_form p n) w fits is
after_keeps (suc (suc zero)) n K b c p small w fits is = content_keeps n K b c p 2 (inl refl) w fits is
after_keeps (suc (suc (suc zero))) n K b c p small w fits is = content_keeps n K b c p 3 (inr refl) w fits is
after_keeps (suc (suc (suc (suc zero)))) n K b c p small w fits is = asked_array n K b c p w fits is
after_keeps (suc (suc (suc (suc (suc zero))))) n K b c p small w fits is = asked_pairs n K b c p w fits is
after_keeps (suc (suc (suc (suc (suc (suc zero)))))) n K b c p small w fits is = in_tag b p n w fits refl is
after_keeps (suc (suc (suc (suc (suc (suc (suc m))))))) n K b c p small w fits is = absurd (omega arith)

-- what additional information says
pub data Information (i : ℕ) : Type 0 where
  says_given : i < 24 → info_of i ≡ given i → Information i
  says_more : (p : ArgumentSize) (k : ℕ) → i ≡ width_info p → 24 ≤ i → suc k ≡ size_len p → info_of i ≡ more k → Information i
  says_indefinite : i ≡ 31 → info_of i ≡ indefinite → Information i
  says_reserved : 28 ≤ i → i ≤ 30 → info_of i ≡ reserved → Information i

pub information : (i : ℕ) → i < 32 → Information i
information i h = elim (tested (nat_lt i 24)) [
  | inl t ↦ says_given (grind (arith, nat_tests)) (rw t refl)
  | inr t ↦ elim (tested (i == 24)) [
    | inl u ↦ let e : i ≡ 24 = grind (arith, nat_tests) in says_more one 0 e (omega arith) refl (rw (t, u) refl)
    | inr u ↦ elim (tested (i == 25)) [
      | inl v ↦ let e : i ≡ 25 = grind (arith, nat_tests) in says_more two 1 e (omega arith) refl (rw (t, u, v) refl)
      | inr v ↦ elim (tested (i == 26)) [
        | inl w ↦ let e : i ≡ 26 = grind (arith, nat_tests) in says_more four 3 e (omega arith) refl (rw (t, u, v, w) refl)
        | inr w ↦ elim (tested (i == 27)) [
          | inl x ↦ let e : i ≡ 27 = grind (arith, nat_tests) in says_more eight 7 e (omega arith) refl (rw (t, u, v, w, x) refl)
          | inr x ↦ elim (tested (i == 31)) [
            | inl y ↦ let e : i ≡ 31 = grind (arith, nat_tests) in says_indefinite e (rw (t, u, v, w, x, y) refl)
            | inr y ↦
                let least : 24 ≤ i = grind (arith, nat_tests) in
                let a : i ≢ 24 = grind (arith, nat_tests) in
                let b : i ≢ 25 = grind (arith, nat_tests) in
                let c : i ≢ 26 = grind (arith, nat_tests) in
                let d : i ≢ 27 = grind (arith, nat_tests) in
                let f : i ≢ 31 = grind (arith, nat_tests) in
                says_reserved (omega arith) (omega arith) (rw (t, u, v, w, x, y) refl)
          ]
        ]
      ]
    ]
  ]
]

wide_keeps : (m k : ℕ) (K : List Frame) (b c : List ℕ) (p : ArgumentSize) → m < 8 → Within K b → suc k ≡ size_len p → c ≡ b ++ (initial m (width_info p) ∷ []) → Reached (wide m k K) c
wide_keeps zero k K b c p small w width is = (b, p, [], w, omega arith, record { are = tt; len = omega arith; number = refl }, is)
wide_keeps (suc zero) k K b c p small w width is = (b, p, [], w, omega arith, record { are = tt; len = omega arith; number = refl }, is)
wide_keeps (suc (suc zero)) k K b c p small w width is = (b, p, [], w, omega arith, record { are = tt; len = omega arith; number = refl }, is)
wide_keeps (suc (suc (suc zero))) k K b c p small w width is = (b, p, [], w, omega arith, record { are = tt; len = omega arith; number = refl }, is)
wide_keeps (suc (suc (suc (suc zero)))) k K b c p small w width is = (b, p, [], w, omega arith, record { are = tt; len = omega arith; number = refl }, is)
wide_keeps (suc (suc (suc (suc (suc zero))))) k K b c p small w width is = (b, p, [], w, omega arith, record { are = tt; len = omega arith; number = refl }, is)
wide_keeps (suc (suc (suc (suc (suc (suc zero)))))) k K b c p small w width is = (b, p, [], w, omega arith, record { are = tt; len = omega arith; number = refl }, is)
wide_keeps (suc (suc (suc (suc (suc (suc (suc zero))))))) k K b c inside small w width is = absurd (omega arith)
wide_keeps (suc (suc (suc (suc (suc (suc (suc zero))))))) zero K b c one small w width is = (b, w, is)
wide_keeps (suc (suc (suc (suc (suc (suc (suc zero))))))) (suc k) K b c one small w width is = absurd (omega arith)
wide_keeps (suc (suc (suc (suc (suc (suc (suc zero))))))) zero K b c two small w width is = absurd (omega arith)
wide_keeps (suc (suc (suc (suc (suc (suc (suc zero))))))) (suc k) K b c two small w width is = of_float b W16 [] w tt (omega arith) is
wide_keeps (suc (suc (suc (suc (suc (suc (suc zero))))))) zero K b c four small w width is = absurd (omega arith)
wide_keeps (suc (suc (suc (suc (suc (suc (suc zero))))))) (suc k) K b c four small w width is = of_float b W32 [] w tt (omega arith) is
wide_keeps (suc (suc (suc (suc (suc (suc (suc zero))))))) zero K b c eight small w width is = absurd (omega arith)
wide_keeps (suc (suc (suc (suc (suc (suc (suc zero))))))) (suc k) K b c eight small w width is = of_float b W64 [] w tt (omega arith) is
wide_keeps (suc (suc (suc (suc (suc (suc (suc (suc m)))))))) k K b c p small w width is = absurd (omega arith)

at_break : (t : State) (K : List Frame) (b c : List ℕ) → Within K b → break K ≡ Some t → c ≡ b ++ (255 ∷ []) → Reached t c
at_break t [] b c w e is = absurd (cc)
at_break t (rest n ∷ K) b c w e is = absurd (cc)
at_break t (until_value ∷ K) b c w e is = absurd (cc)
at_break t (until ∷ K) b c (in_open_array a fs w oks f) e is =
    let to : give K ≡ t = cc in
    subst (λ s. Reached s c) to (give_keeps K a c (array_to_break fs) w oks (is ∙ (ap (λ x. x ++ (255 ∷ [])) f ∙ longer a (initial 4 31 ∷ []) (forms_flat fs) (255 ∷ []))))
at_break t (until_key ∷ K) b c (at_open_key a ps w oks f) e is =
    let to : give K ≡ t = cc in
    subst (λ s. Reached s c) to (give_keeps K a c (pairs_to_break ps) w oks (is ∙ (ap (λ x. x ++ (255 ∷ [])) f ∙ longer a (initial 5 31 ∷ []) (pair_forms_flat ps) (255 ∷ []))))

opened_keeps : (m : ℕ) (t : State) (K : List Frame) (b c : List ℕ) → m < 8 → Within K b → open_indefinite m K ≡ Some t → c ≡ b ++ (initial m 31 ∷ []) → Reached t c
opened_keeps zero t K b c small w e is = absurd (cc)
opened_keeps (suc zero) t K b c small w e is = absurd (cc)
opened_keeps (suc (suc zero)) t K b c small w e is =
    let to : chunk 2 K ≡ t = cc in
    subst (λ s. Reached s c) to (record { before = b; chunks = []; within = w; string = inl refl; ok = tt; is = is })
opened_keeps (suc (suc (suc zero))) t K b c small w e is =
    let to : chunk 3 K ≡ t = cc in
    subst (λ s. Reached s c) to (record { before = b; chunks = []; within = w; string = inr refl; ok = tt; is = is })
opened_keeps (suc (suc (suc (suc zero)))) t K b c small w e is =
    let to : item (until ∷ K) ≡ t = cc in
    subst (λ s. Reached s c) to (in_open_array b no_forms w tt is)
opened_keeps (suc (suc (suc (suc (suc zero))))) t K b c small w e is =
    let to : item (until_key ∷ K) ≡ t = cc in
    subst (λ s. Reached s c) to (at_open_key b no_pair_forms w tt is)
opened_keeps (suc (suc (suc (suc (suc (suc zero)))))) t K b c small w e is = absurd (cc)
opened_keeps (suc (suc (suc (suc (suc (suc (suc zero))))))) t K b c small w e is = at_break t K b c w e is
opened_keeps (suc (suc (suc (suc (suc (suc (suc (suc m)))))))) t K b c small w e is = absurd (omega arith)

after_seven : (n : ℕ) (K : List Frame) (b c : List ℕ) → n < 24 → Within K b → c ≡ b ++ (initial 7 n ∷ []) → Reached (give K) c
after_seven n K b c small w is = give_keeps K b c (simple_inside n) w small is

given_keeps : (m i : ℕ) (K : List Frame) (b c : List ℕ) → m < 8 → i < 24 → Within K b → c ≡ b ++ (initial m i ∷ []) → Reached (after m i K) c
given_keeps (suc (suc (suc (suc (suc (suc (suc zero))))))) i K b c small few w is = after_seven i K b c few w is
given_keeps m i K b c small few w is = below m i K b c (tested (nat_lt m 7)) small few w is
  where
    below : (m i : ℕ) (K : List Frame) (b c : List ℕ) → (nat_lt m 7 ≡ true) ⊎ (nat_lt m 7 ≡ false) → m < 8 → i < 24 → Within K b → c ≡ b ++ (initial m i ∷ []) → Reached (after m i K) c
    below m i K b c (inl t) small few w is = let less : m < 7 = grind (arith, nat_tests) in after_keeps m i K b c inside less w few is
    below m i K b c (inr t) small few w is = let e : m ≡ 7 = grind (arith, nat_tests) in subst (λ k. Reached (after k i K) c) (sym e) (after_seven i K b c few w (is ∙ ap (λ k. b ++ (initial k i ∷ [])) e))

start_keeps : (m i : ℕ) (t : State) (K : List Frame) (b c : List ℕ) → m < 8 → Information i → Within K b → start m (info_of i) K ≡ Some t → c ≡ b ++ (initial m i ∷ []) → Reached t c
start_keeps m i t K b c small (says_given few f) w e is =
    let to : after m i K ≡ t = (let g : start m (given i) K ≡ Some t = subst (λ j. start m j K ≡ Some t) f e in cc) in
    subst (λ s. Reached s c) to (given_keeps m i K b c small few w is)
start_keeps m i t K b c small (says_more p k is_info least width f) w e is =
    let to : wide m k K ≡ t = (let g : start m (more k) K ≡ Some t = subst (λ j. start m j K ≡ Some t) f e in cc) in
    subst (λ s. Reached s c) to (wide_keeps m k K b c p small w width (is ∙ ap (λ j. b ++ (initial m j ∷ [])) is_info))
start_keeps m i t K b c small (says_indefinite is_info f) w e is =
    let to : open_indefinite m K ≡ Some t = subst (λ j. start m j K ≡ Some t) f e in
    opened_keeps m t K b c small w to (is ∙ ap (λ j. b ++ (initial m j ∷ [])) is_info)
start_keeps m i t K b c small (says_reserved low high f) w e is =
    let none : start m reserved K ≡ Some t = subst (λ j. start m j K ≡ Some t) f e in absurd (cc)

string_below : (m : ℕ) → IsString m → m < 7
string_below m (inl e) = omega arith
string_below m (inr e) = omega arith

-- a definite string as a chunk more
chunks_and : (m : ℕ) (cs : List Chunk) (c : Chunk) → chunks_bytes m (cs ++ c ∷ []) ≡ chunks_bytes m cs ++ chunk_bytes m c
chunks_and m [] c = append-nil (chunk_bytes m c)
chunks_and m (d ∷ cs) c = ap (λ b. chunk_bytes m d ++ b) (chunks_and m cs c) ∙ sym (append_assoc (chunk_bytes m d) (chunks_bytes m cs) (chunk_bytes m c))

chunks_and-ok : (cs : List Chunk) (c : Chunk) → AreChunksOk cs → FitsSize c.size (length c.content) → AreBytes c.content → AreChunksOk (cs ++ c ∷ [])
chunks_and-ok [] c ok fits are = ((fits, are), tt)
chunks_and-ok (d ∷ cs) c ok fits are = (ok.0, chunks_and-ok cs c ok.1 fits are)

chunk_whole : (m : ℕ) (K : List Frame) (b c : List ℕ) (p : ArgumentSize) (s : List ℕ) → ChunksRead m K b → FitsSize p (length s) → AreBytes s → c ≡ b ++ (head_in p m (length s) ++ s) → ChunksRead m K c
chunk_whole m K b c p s r fits are is =
    let d : Chunk = record { size = p; content = s } in
    record {
      before = r.before;
      chunks = r.chunks ++ d ∷ [];
      within = r.within;
      string = r.string;
      ok = chunks_and-ok r.chunks d r.ok fits are;
      is = is ∙ (ap (λ x. x ++ (head_in p m (length s) ++ s)) r.is ∙ (longer r.before (initial m 31 ∷ []) (chunks_bytes m r.chunks) (head_in p m (length s) ++ s)
          ∙ ap (λ x. r.before ++ (initial m 31 ∷ x)) (sym (chunks_and m r.chunks d))));
    }

chunk_content_keeps : (m n : ℕ) (K : List Frame) (b c : List ℕ) (p : ArgumentSize) → ChunksRead m K b → FitsSize p n → c ≡ b ++ head_in p m n → Reached (await_chunk_content m n K) c
chunk_content_keeps m zero K b c p r fits is = chunk_whole m K b c p [] r fits tt (is ∙ ap (λ x. b ++ x) (sym (append-nil (head_in p m 0))))
chunk_content_keeps m (suc n) K b c p r fits is = (b, p, suc n, [], r, fits, tt, omega arith, is ∙ ap (λ x. b ++ x) (sym (append-nil (head_in p m (suc n)))))

start_chunk_keeps : (m i : ℕ) (t : State) (K : List Frame) (b c : List ℕ) → Information i → ChunksRead m K b → start_chunk m (info_of i) K ≡ Some t → c ≡ b ++ (initial m i ∷ []) → Reached t c
start_chunk_keeps m i t K b c (says_given few f) r e is =
    let to : await_chunk_content m i K ≡ t = (let g : start_chunk m (given i) K ≡ Some t = subst (λ j. start_chunk m j K ≡ Some t) f e in cc) in
    subst (λ s. Reached s c) to (chunk_content_keeps m i K b c inside r few is)
start_chunk_keeps m i t K b c (says_more p k is_info least width f) r e is =
    let to : chunk_argument m k 0 K ≡ t = (let g : start_chunk m (more k) K ≡ Some t = subst (λ j. start_chunk m j K ≡ Some t) f e in cc) in
    subst (λ s. Reached s c) to (b, p, [], r, record { are = tt; len = omega (arith, width); number = refl }, is ∙ ap (λ j. b ++ (initial m j ∷ [])) is_info)
start_chunk_keeps m i t K b c (says_indefinite is_info f) r e is =
    let none : start_chunk m indefinite K ≡ Some t = subst (λ j. start_chunk m j K ≡ Some t) f e in absurd (cc)
start_chunk_keeps m i t K b c (says_reserved low high f) r e is =
    let none : start_chunk m reserved K ≡ Some t = subst (λ j. start_chunk m j K ≡ Some t) f e in absurd (cc)

split_byte : (x : ℕ) → x ≡ initial (x / 32) (x % 32)
split_byte x = omega arith

-- a byte more of an argument: it is full, or goes on
pushed : (p : ArgumentSize) (left n x : ℕ) (s : List ℕ) → PartRead p (suc left) n s → x < 256 → PartRead p left (n * 256 + x) (s ++ x ∷ [])
pushed p left n x s r small = record {
  are = bytes-append s (x ∷ []) r.are (small, tt);
  len = (let e : length (s ++ x ∷ []) ≡ length s + 1 = length-append s (x ∷ []) in omega (arith, r.len));
  number = ap (λ k. k * 256 + x) r.number ∙ sym (number_after-push 0 x s);
}

filled : (p : ArgumentSize) (m n x : ℕ) (s : List ℕ) → PartRead p 0 n s → x < 256 → (initial m (width_info p) ∷ (s ++ x ∷ []) ≡ head_in p m (n * 256 + x)) × FitsSize p (n * 256 + x)
filled p m n x s r small =
    let are : AreBytes (s ++ x ∷ []) = bytes-append s (x ∷ []) r.are (small, tt) in
    let len : length (s ++ x ∷ []) ≡ size_len p = (let e : length (s ++ x ∷ []) ≡ length s + 1 = length-append s (x ∷ []) in omega (arith, r.len)) in
    let some : 0 < size_len p = omega (arith, r.len) in
    let number : number_after 0 (s ++ x ∷ []) ≡ n * 256 + x = number_after-push 0 x s ∙ ap (λ k. k * 256 + x) (sym r.number) in
    let whole : IsHeadOf p m (s ++ x ∷ []) = full p m (s ++ x ∷ []) are len some in
    (whole.is ∙ ap (head_in p m) number, subst (FitsSize p) number whole.fits)

string_full : (K : List Frame) (b c : List ℕ) (p : ArgumentSize) (m : ℕ) (s : List ℕ) → Within K b → IsString m → FitsSize p (length s) → AreBytes s → c ≡ b ++ (head_in p m (length s) ++ s) → Reached (give K) c
string_full K b c p m s w (inl e) fits are is = give_keeps K b c (bytes_form p s) w (fits, are) (is ∙ ap (λ k. b ++ (head_in p k (length s) ++ s)) e)
string_full K b c p m s w (inr e) fits are is = give_keeps K b c (text_form p s) w (fits, are) (is ∙ ap (λ k. b ++ (head_in p k (length s) ++ s)) e)

float_full : (K : List Frame) (b c : List ℕ) (v : Width) (s : List ℕ) → Within K b → AreBytes s → length s ≡ size_len (float_size v) → c ≡ b ++ (initial 7 (width_info (float_size v)) ∷ s) → Reached (give K) c
float_full K b c W16 s w are len is = let h : IsHeadOf two 7 s = full two 7 s are len (omega arith) in give_keeps K b c (float_form W16 (number_after 0 s)) w h.fits (is ∙ ap (λ x. b ++ x) h.is)
float_full K b c W32 s w are len is = let h : IsHeadOf four 7 s = full four 7 s are len (omega arith) in give_keeps K b c (float_form W32 (number_after 0 s)) w h.fits (is ∙ ap (λ x. b ++ x) h.is)
float_full K b c W64 s w are len is = let h : IsHeadOf eight 7 s = full eight 7 s are len (omega arith) in give_keeps K b c (float_form W64 (number_after 0 s)) w h.fits (is ∙ ap (λ x. b ++ x) h.is)

pushed_len : (s : List ℕ) (x : ℕ) → length (s ++ x ∷ []) ≡ length s + 1
pushed_len s x = length-append s (x ∷ [])

body_done : (K : List Frame) (c : List ℕ) (x : ℕ) → BodyRead 0 K c → x < 256 → Reached (give K) (c ++ x ∷ [])
body_done K c x (of_string b p m n s w string fits are len is) small =
    let total : length (s ++ x ∷ []) ≡ n = pushed_len s x ∙ (omega arith) in
    string_full K b (c ++ x ∷ []) p m (s ++ x ∷ []) w string (subst (FitsSize p) (sym total) fits) (bytes-append s (x ∷ []) are (small, tt))
    (ap (λ y. y ++ x ∷ []) is ∙ (longer b (head_in p m n) s (x ∷ []) ∙ ap (λ k. b ++ (head_in p m k ++ (s ++ x ∷ []))) (sym total)))
body_done K c x (of_float b v s w are len is) small =
    let total : length (s ++ x ∷ []) ≡ size_len (float_size v) = pushed_len s x ∙ (omega (arith, len)) in
    float_full K b (c ++ x ∷ []) v (s ++ x ∷ []) w (bytes-append s (x ∷ []) are (small, tt)) total
    (ap (λ y. y ++ x ∷ []) is ∙ longer b (initial 7 (width_info (float_size v)) ∷ []) s (x ∷ []))

body_on : (k : ℕ) (K : List Frame) (c : List ℕ) (x : ℕ) → BodyRead (suc k) K c → x < 256 → BodyRead k K (c ++ x ∷ [])
body_on k K c x (of_string b p m n s w string fits are len is) small =
    let total : length (s ++ x ∷ []) + suc k ≡ n = ap (λ i. i + suc k) (pushed_len s x) ∙ (omega arith) in
    of_string b p m n (s ++ x ∷ []) w string fits (bytes-append s (x ∷ []) are (small, tt)) total (ap (λ y. y ++ x ∷ []) is ∙ longer b (head_in p m n) s (x ∷ []))
body_on k K c x (of_float b v s w are len is) small =
    let total : length (s ++ x ∷ []) + suc k ≡ size_len (float_size v) = ap (λ i. i + suc k) (pushed_len s x) ∙ (omega (arith, len)) in
    of_float b v (s ++ x ∷ []) w (bytes-append s (x ∷ []) are (small, tt)) total (ap (λ y. y ++ x ∷ []) is ∙ longer b (initial 7 (width_info (float_size v)) ∷ []) s (x ∷ []))

chunks_done : (m : ℕ) (K : List Frame) (c d : List ℕ) → ChunksRead m K c → d ≡ c ++ (255 ∷ []) → Reached (give K) d
chunks_done m K c d r is = elim r.string [
  | inl e ↦ give_keeps K r.before d (bytes_chunks r.chunks) r.within r.ok (at_end ∙ ap (λ k. r.before ++ (initial k 31 ∷ (chunks_bytes k r.chunks ++ 255 ∷ []))) e)
  | inr e ↦ give_keeps K r.before d (text_chunks r.chunks) r.within r.ok (at_end ∙ ap (λ k. r.before ++ (initial k 31 ∷ (chunks_bytes k r.chunks ++ 255 ∷ []))) e)
]
  where
    at_end : d ≡ r.before ++ (initial m 31 ∷ (chunks_bytes m r.chunks ++ 255 ∷ []))
    at_end = is ∙ (ap (λ x. x ++ 255 ∷ []) r.is ∙ longer r.before (initial m 31 ∷ []) (chunks_bytes m r.chunks) (255 ∷ []))

chunk_step : (m x : ℕ) (t : State) (K : List Frame) (c : List ℕ) → ChunksRead m K c → x < 256 → step (chunk m K) x ≡ Some t → Reached t (c ++ x ∷ [])
chunk_step m x t K c r small e = elim (tested (x == 255)) [
  | inl u ↦
      let last : x ≡ 255 = grind (arith, nat_tests) in
      let to : give K ≡ t = (let g : Some (give K) ≡ Some t = rw u at e in cc) in
      subst (λ s. Reached s (c ++ x ∷ [])) to (chunks_done m K c (c ++ x ∷ []) r (ap (λ y. c ++ y ∷ []) last))
  | inr u ↦ let e1 = rw u at e in elim (tested (x / 32 == m)) [
    | inl v ↦
        let major : x / 32 ≡ m = grind (arith, nat_tests) in
        let e2 = rw v at e1 in
        start_chunk_keeps m (x % 32) t K c (c ++ x ∷ []) (information (x % 32) (omega arith)) r e2 (ap (λ y. c ++ y ∷ []) (split_byte x ∙ ap (λ k. initial k (x % 32)) major))
    | inr v ↦ let e2 = rw v at e1 in absurd (cc)
  ]
]

simple_step : (x : ℕ) (t : State) (K : List Frame) (b c : List ℕ) → Within K b → c ≡ b ++ (initial 7 24 ∷ []) → x < 256 → step (simple K) x ≡ Some t → Reached t (c ++ x ∷ [])
simple_step x t K b c w is small e = elim (tested (nat_lt x 32)) [
  | inl u ↦ let e1 = rw u at e in absurd (cc)
  | inr u ↦
      let least : 32 ≤ x = grind (arith, nat_tests) in
      let to : give K ≡ t = (let g : Some (give K) ≡ Some t = rw u at e in cc) in
      subst (λ s. Reached s (c ++ x ∷ [])) to (give_keeps K b (c ++ x ∷ []) (simple_next x) w (least, small) (ap (λ y. y ++ x ∷ []) is ∙ append_assoc b (initial 7 24 ∷ []) (x ∷ [])))
]

-- each step keeps what was read
pub step_keeps : (s t : State) (c : List ℕ) (x : ℕ) → Reached s c → x < 256 → step s x ≡ Some t → Reached t (c ++ x ∷ [])
step_keeps (item K) t c x r small e =
    start_keeps (x / 32) (x % 32) t K c (c ++ x ∷ []) (omega arith) (information (x % 32) (omega arith)) r e (ap (λ y. c ++ (y ∷ [])) (split_byte x))
step_keeps (argument m zero n K) t c x (b, p, s, w, major, part, is) small e =
    let to : after m (n * 256 + x) K ≡ t = cc in
    let head = filled p m n x s part small in
    subst (λ u. Reached u (c ++ x ∷ [])) to (after_keeps m (n * 256 + x) K b (c ++ x ∷ []) p major w head.1 (ap (λ y. y ++ x ∷ []) is ∙ (append_assoc b (initial m (width_info p) ∷ s) (x ∷ []) ∙ ap (λ y. b ++ y) head.0)))
step_keeps (argument m (suc k) n K) t c x (b, p, s, w, major, part, is) small e =
    let to : argument m k (n * 256 + x) K ≡ t = cc in
    subst (λ u. Reached u (c ++ x ∷ [])) to (b, p, s ++ x ∷ [], w, major, pushed p k n x s part small, ap (λ y. y ++ x ∷ []) is ∙ append_assoc b (initial m (width_info p) ∷ s) (x ∷ []))
step_keeps (body zero K) t c x r small e =
    let to : give K ≡ t = cc in
    subst (λ u. Reached u (c ++ x ∷ [])) to (body_done K c x r small)
step_keeps (body (suc k) K) t c x r small e =
    let to : body k K ≡ t = cc in
    subst (λ u. Reached u (c ++ x ∷ [])) to (body_on k K c x r small)
step_keeps (chunk m K) t c x r small e = chunk_step m x t K c r small e
step_keeps (chunk_argument m zero n K) t c x (b, p, s, r, part, is) small e =
    let to : await_chunk_content m (n * 256 + x) K ≡ t = cc in
    let head = filled p m n x s part small in
    subst (λ u. Reached u (c ++ x ∷ [])) to (chunk_content_keeps m (n * 256 + x) K b (c ++ x ∷ []) p r head.1 (ap (λ y. y ++ x ∷ []) is ∙ (append_assoc b (initial m (width_info p) ∷ s) (x ∷ []) ∙ ap (λ y. b ++ y) head.0)))
step_keeps (chunk_argument m (suc k) n K) t c x (b, p, s, r, part, is) small e =
    let to : chunk_argument m k (n * 256 + x) K ≡ t = cc in
    subst (λ u. Reached u (c ++ x ∷ [])) to (b, p, s ++ x ∷ [], r, pushed p k n x s part small, ap (λ y. y ++ x ∷ []) is ∙ append_assoc b (initial m (width_info p) ∷ s) (x ∷ []))
step_keeps (chunk_body m zero K) t c x (b, p, n, s, r, fits, are, len, is) small e =
    let to : chunk m K ≡ t = cc in
    let total : length (s ++ x ∷ []) ≡ n = pushed_len s x ∙ (omega (arith, len)) in
    subst (λ u. Reached u (c ++ x ∷ [])) to (chunk_whole m K b (c ++ x ∷ []) p (s ++ x ∷ []) r (subst (FitsSize p) (sym total) fits) (bytes-append s (x ∷ []) are (small, tt))
    (ap (λ y. y ++ x ∷ []) is ∙ (longer b (head_in p m n) s (x ∷ []) ∙ ap (λ k. b ++ (head_in p m k ++ (s ++ x ∷ []))) (sym total))))
step_keeps (chunk_body m (suc k) K) t c x (b, p, n, s, r, fits, are, len, is) small e =
    let to : chunk_body m k K ≡ t = cc in
    let total : length (s ++ x ∷ []) + suc k ≡ n = ap (λ i. i + suc k) (pushed_len s x) ∙ (omega (arith, len)) in
    subst (λ u. Reached u (c ++ x ∷ [])) to (b, p, n, s ++ x ∷ [], r, fits, bytes-append s (x ∷ []) are (small, tt), total, ap (λ y. y ++ x ∷ []) is ∙ longer b (head_in p m n) s (x ∷ []))
step_keeps (simple K) t c x (b, w, is) small e = simple_step x t K b c w is small e
step_keeps done t c x r small e = absurd (cc)

stepped_on : (x : ℕ) (b : List ℕ) (s t : State) (c : List ℕ) → Reached s c → AreBytes (x ∷ b) → steps s (x ∷ b) ≡ Some t → (o : Option State) → step s x ≡ o →
    ((u : State) → Reached u (c ++ x ∷ []) → steps u b ≡ Some t → Reached t ((c ++ x ∷ []) ++ b)) → Reached t (c ++ (x ∷ b))
stepped_on x b s t c r are e None f on = let none : None ≡ Some t = sym (ap (option_and_then (λ u. steps u b)) f) ∙ e in absurd (cc)
stepped_on x b s t c r are e (Some u) f on =
    let next : steps u b ≡ Some t = sym (ap (option_and_then (λ v. steps v b)) f) ∙ e in
    subst (Reached t) (append_assoc c (x ∷ []) b) (on u (step_keeps s u c x r are.0 f) next)

steps_keep : (b : List ℕ) (s t : State) (c : List ℕ) → Reached s c → AreBytes b → steps s b ≡ Some t → Reached t (c ++ b)
steps_keep [] s t c r are e =
    let to : s ≡ t = cc in
    subst (λ u. Reached u (c ++ [])) to (subst (Reached s) (sym (append-nil c)) r)
steps_keep (x ∷ b) s t c r are e = stepped_on x b s t c r are e (step s x) refl (λ u q. steps_keep b u t (c ++ x ∷ []) q are.1)

-- a machine that is where bytes lead tells how they are written
pub reached : (b : List ℕ) (t : State) → AreBytes b → steps (item []) b ≡ Some t → Reached t b
reached b t are e = steps_keep b (item []) t [] (nowhere refl) are e

-- a machine that is done has read a well-formed item
pub done_whole : (b : List ℕ) → AreBytes b → steps (item []) b ≡ Some done → IsWellFormed b
done_whole b are e = reached b done are e
