-- Bytes are the beginning of at most one written form, so no spelling begins another.
use Rattle.std.proofs.Common.{◌≡◌, ℕ, zero, suc, ◌/◌, ◌%◌, ◌<◌, List, [], ◌∷◌, ◌++◌, length, nat_lt, cond, ◌==◌, true, false, refl, sym, ap, ap₂, ◌∙◌, subst, arith, append_assoc, append-nil, length-append}
use Rattle.std.specs.Int.{to_be_bytes, from_be_bytes, w8, w16, w32, w64, Width as NumberWidth}
use Rattle.std.proofs.lemmas.Nat.{from_be_bytes-to_be_bytes_2, from_be_bytes-to_be_bytes_4, from_be_bytes-to_be_bytes_8}
use Rattle.std.proofs.lemmas.Bool.Decides.{nat_tests}
use Rattle.cbor_data.specs.declared.Width.{Width}
use Rattle.cbor_data.specs.declared.Width.TheVariants.{W16, W32, W64}
use Rattle.cbor_data.specs.Value.{Value, FitsWidth}
use Rattle.cbor_data.specs.Preferred.{initial, float_bytes}
use Rattle.cbor_data.specs.Forms.{ArgumentSize, inside, one, two, four, eight, head_in, FitsSize, Form, uint_form, nint_form, bytes_form, bytes_chunks, text_form, text_chunks, array_form, array_to_break, pairs_form, pairs_to_break, tag_form, simple_inside, simple_next, float_form, Forms, no_forms, form, PairForms, no_pair_forms, pair_form, Chunk, chunk_bytes, chunks_bytes, AreChunksOk, forms_len, pair_forms_len, flat, forms_flat, pair_forms_flat, IsOk, AreFormsOk, ArePairFormsOk, meaning, Spells, IsWellFormed, IsUnfinished}

-- lists of one length that begin the same list are one
same_length : (a b r s : List ℕ) → length a ≡ length b → a ++ r ≡ b ++ s → (a ≡ b) × (r ≡ s)
same_length [] [] r s h e = (refl, e)
same_length [] (y ∷ b) r s h e = absurd (cc)
same_length (x ∷ a) [] r s h e = absurd (cc)
same_length (x ∷ a) (y ∷ b) r s h e =
    let first : x ≡ y = cc in
    let rest : a ++ r ≡ b ++ s = cc in
    let lengths : length a ≡ length b = omega (arith, h) in
    let both : (a ≡ b) × (r ≡ s) = same_length a b r s lengths rest in
    (ap₂ (λ (v : ℕ) (vs : List ℕ). v ∷ vs) first both.0, both.1)

abbrev pub first_byte : List ℕ → ℕ
first_byte [] = 0
first_byte (b ∷ bs) = b

abbrev pub size_info : ArgumentSize → ℕ → ℕ
size_info inside n = n
size_info one n = 24
size_info two n = 25
size_info four n = 26
size_info eight n = 27

info_below : (p : ArgumentSize) (n : ℕ) → FitsSize p n → size_info p n < 28
info_below inside n h = omega arith
info_below one n h = omega arith
info_below two n h = omega arith
info_below four n h = omega arith
info_below eight n h = omega arith

pub head_first : (p : ArgumentSize) (m n : ℕ) (r : List ℕ) → first_byte (head_in p m n ++ r) ≡ initial m (size_info p n)
head_first inside m n r = refl
head_first one m n r = refl
head_first two m n r = refl
head_first four m n r = refl
head_first eight m n r = refl

same_size : (p q : ArgumentSize) (n l : ℕ) → FitsSize p n → FitsSize q l → size_info p n ≡ size_info q l → p ≡ q
same_size inside inside n l h k e = refl
same_size one one n l h k e = refl
same_size two two n l h k e = refl
same_size four four n l h k e = refl
same_size eight eight n l h k e = refl
same_size _ _ n l h k e = absurd (omega arith)

-- the parts of one head
pub record SameHead (p q : ArgumentSize) (m k n l : ℕ) (r s : List ℕ) : Type 0 where
  pub size : p ≡ q
  pub major : m ≡ k
  pub argument : n ≡ l
  pub rest : r ≡ s

wide_same : (w : NumberWidth) (n l : ℕ) (r s : List ℕ) → length (to_be_bytes w n) ≡ length (to_be_bytes w l) → from_be_bytes w (to_be_bytes w n) ≡ n → from_be_bytes w (to_be_bytes w l) ≡ l → to_be_bytes w n ++ r ≡ to_be_bytes w l ++ s → (n ≡ l) × (r ≡ s)
wide_same w n l r s len back forth e =
    let both : (to_be_bytes w n ≡ to_be_bytes w l) × (r ≡ s) = same_length (to_be_bytes w n) (to_be_bytes w l) r s len e in
    (sym back ∙ (ap (from_be_bytes w) both.0 ∙ forth), both.1)

in_size : (p : ArgumentSize) (m n l : ℕ) (r s : List ℕ) → FitsSize p n → FitsSize p l → head_in p m n ++ r ≡ head_in p m l ++ s → (n ≡ l) × (r ≡ s)
in_size inside m n l r s h k e =
    let same : initial m n ≡ initial m l = ap first_byte e in
    let rest : r ≡ s = cc in
    (omega arith, rest)
in_size one m n l r s h k e =
    let rest : to_be_bytes w8 n ++ r ≡ to_be_bytes w8 l ++ s = cc in
    wide_same w8 n l r s refl (omega arith) (omega arith) rest
in_size two m n l r s h k e =
    let rest : to_be_bytes w16 n ++ r ≡ to_be_bytes w16 l ++ s = cc in
    wide_same w16 n l r s refl (from_be_bytes-to_be_bytes_2 n h) (from_be_bytes-to_be_bytes_2 l k) rest
in_size four m n l r s h k e =
    let rest : to_be_bytes w32 n ++ r ≡ to_be_bytes w32 l ++ s = cc in
    wide_same w32 n l r s refl (from_be_bytes-to_be_bytes_4 n h) (from_be_bytes-to_be_bytes_4 l k) rest
in_size eight m n l r s h k e =
    let rest : to_be_bytes w64 n ++ r ≡ to_be_bytes w64 l ++ s = cc in
    wide_same w64 n l r s refl (from_be_bytes-to_be_bytes_8 n h) (from_be_bytes-to_be_bytes_8 l k) rest

pub same_head : (p q : ArgumentSize) (m k n l : ℕ) (r s : List ℕ) → FitsSize p n → FitsSize q l → head_in p m n ++ r ≡ head_in q k l ++ s → SameHead p q m k n l r s
same_head p q m k n l r s h g e =
    let bytes : initial m (size_info p n) ≡ initial k (size_info q l) = sym (head_first p m n r) ∙ (ap first_byte e ∙ head_first q k l s) in
    let small : size_info p n < 28 = info_below p n h in
    let small_too : size_info q l < 28 = info_below q l g in
    let major : m ≡ k = omega arith in
    let info : size_info p n ≡ size_info q l = omega arith in
    let size : p ≡ q = same_size p q n l h g info in
    let fits : FitsSize p l = subst (λ a. FitsSize a l) (sym size) g in
    let to : head_in p m n ++ r ≡ head_in p m l ++ s = e ∙ ap₂ (λ a b. head_in a b l ++ s) (sym size) (sym major) in
    let both : (n ≡ l) × (r ≡ s) = in_size p m n l r s h fits to in
    record { size = size; major = major; argument = both.0; rest = both.1 }

-- which form begins with an initial byte of this major type and additional information, as a number
abbrev class_of : ℕ → ℕ → ℕ
class_of zero i = 0
class_of (suc zero) i = 1
class_of (suc (suc zero)) i = cond (i == 31) 3 2
class_of (suc (suc (suc zero))) i = cond (i == 31) 5 4
class_of (suc (suc (suc (suc zero)))) i = cond (i == 31) 7 6
class_of (suc (suc (suc (suc (suc zero))))) i = cond (i == 31) 9 8
class_of (suc (suc (suc (suc (suc (suc zero)))))) i = 10
class_of (suc (suc (suc (suc (suc (suc (suc m))))))) i = cond (nat_lt i 24) 11 (cond (i == 24) 12 (cond (i == 31) 14 13))

abbrev byte_class : ℕ → ℕ
byte_class b = class_of (b / 32) (b % 32)

abbrev form_class : Form → ℕ
form_class (uint_form p n) = 0
form_class (nint_form p n) = 1
form_class (bytes_form p s) = 2
form_class (bytes_chunks cs) = 3
form_class (text_form p s) = 4
form_class (text_chunks cs) = 5
form_class (array_form p fs) = 6
form_class (array_to_break fs) = 7
form_class (pairs_form p ps) = 8
form_class (pairs_to_break ps) = 9
form_class (tag_form p n f) = 10
form_class (simple_inside n) = 11
form_class (simple_next n) = 12
form_class (float_form w n) = 13

initial_class : (m i : ℕ) → i < 32 → byte_class (initial m i) ≡ class_of m i
initial_class m i h =
    let major : initial m i / 32 ≡ m = omega arith in
    let info : initial m i % 32 ≡ i = omega arith in
    ap (λ a. class_of a (initial m i % 32)) major ∙ ap (class_of m) info

not_indefinite : (i : ℕ) → i < 28 → (i == 31) ≡ false
not_indefinite i h = grind (arith, nat_tests)

head_class : (p : ArgumentSize) (m n : ℕ) (r : List ℕ) → FitsSize p n → byte_class (first_byte (head_in p m n ++ r)) ≡ class_of m (size_info p n)
head_class p m n r h =
    let small : size_info p n < 28 = info_below p n h in
    let fits : size_info p n < 32 = omega arith in
    ap byte_class (head_first p m n r) ∙ initial_class m (size_info p n) fits

definite_class : (p : ArgumentSize) (n a b : ℕ) → FitsSize p n → cond (size_info p n == 31) a b ≡ b
definite_class p n a b h = let t : (size_info p n == 31) ≡ false = not_indefinite (size_info p n) (info_below p n h) in rw t refl

float_class : (w : Width) (n : ℕ) (r : List ℕ) → byte_class (first_byte (float_bytes w n ++ r)) ≡ 13
float_class W16 n r = refl
float_class W32 n r = refl
float_class W64 n r = refl

-- the first byte tells the form
flat_class : (f : Form) (r : List ℕ) → IsOk f → byte_class (first_byte (flat f ++ r)) ≡ form_class f
flat_class (uint_form p n) r ok = head_class p 0 n r ok
flat_class (nint_form p n) r ok = head_class p 1 n r ok
flat_class (bytes_form p s) r ok = ap (λ b. byte_class (first_byte b)) (append_assoc (head_in p 2 (length s)) s r) ∙ (head_class p 2 (length s) (s ++ r) ok.0 ∙ definite_class p (length s) 3 2 ok.0)
flat_class (bytes_chunks cs) r ok = refl
flat_class (text_form p s) r ok = ap (λ b. byte_class (first_byte b)) (append_assoc (head_in p 3 (length s)) s r) ∙ (head_class p 3 (length s) (s ++ r) ok.0 ∙ definite_class p (length s) 5 4 ok.0)
flat_class (text_chunks cs) r ok = refl
flat_class (array_form p fs) r ok = ap (λ b. byte_class (first_byte b)) (append_assoc (head_in p 4 (forms_len fs)) (forms_flat fs) r) ∙ (head_class p 4 (forms_len fs) (forms_flat fs ++ r) ok.0 ∙ definite_class p (forms_len fs) 7 6 ok.0)
flat_class (array_to_break fs) r ok = refl
flat_class (pairs_form p ps) r ok = ap (λ b. byte_class (first_byte b)) (append_assoc (head_in p 5 (pair_forms_len ps)) (pair_forms_flat ps) r) ∙ (head_class p 5 (pair_forms_len ps) (pair_forms_flat ps ++ r) ok.0 ∙ definite_class p (pair_forms_len ps) 9 8 ok.0)
flat_class (pairs_to_break ps) r ok = refl
flat_class (tag_form p n f) r ok = ap (λ b. byte_class (first_byte b)) (append_assoc (head_in p 6 n) (flat f) r) ∙ head_class p 6 n (flat f ++ r) ok.0
flat_class (simple_inside n) r ok =
    let fits : n < 32 = omega arith in
    let t : nat_lt n 24 ≡ true = grind (arith, nat_tests) in
    initial_class 7 n fits ∙ rw t refl
flat_class (simple_next n) r ok = refl
flat_class (float_form w n) r ok = float_class w n r

same_class : (f g : Form) (r s : List ℕ) → IsOk f → IsOk g → flat f ++ r ≡ flat g ++ s → form_class f ≡ form_class g
same_class f g r s a b e = sym (flat_class f r a) ∙ (ap (λ bs. byte_class (first_byte bs)) e ∙ flat_class g s b)

string_two : (p q : ArgumentSize) (m : ℕ) (a b r s : List ℕ) → FitsSize p (length a) → FitsSize q (length b) → (head_in p m (length a) ++ a) ++ r ≡ (head_in q m (length b) ++ b) ++ s → (p ≡ q) × (a ≡ b) × (r ≡ s)
string_two p q m a b r s h k e =
    let heads : SameHead p q m m (length a) (length b) (a ++ r) (b ++ s) = same_head p q m m (length a) (length b) (a ++ r) (b ++ s) h k (sym (append_assoc (head_in p m (length a)) a r) ∙ (e ∙ append_assoc (head_in q m (length b)) b s)) in
    let both : (a ≡ b) × (r ≡ s) = same_length a b r s heads.argument heads.rest in
    (heads.size, both.0, both.1)

chunk_byte : (m : ℕ) (p : ArgumentSize) (n : ℕ) (r s : List ℕ) → m < 4 → FitsSize p n → head_in p m n ++ r ≡ 255 ∷ s → ⊥
chunk_byte m p n r s small h e =
    let bytes : initial m (size_info p n) ≡ 255 = sym (head_first p m n r) ∙ ap first_byte e in
    let below : size_info p n < 28 = info_below p n h in
    omega arith

chunk_flat : (m : ℕ) (c : Chunk) (cs : List Chunk) (r : List ℕ) → chunks_bytes m (c ∷ cs) ++ r ≡ head_in c.size m (length c.content) ++ (c.content ++ (chunks_bytes m cs ++ r))
chunk_flat m c cs r = append_assoc (chunk_bytes m c) (chunks_bytes m cs) r ∙ append_assoc (head_in c.size m (length c.content)) c.content (chunks_bytes m cs ++ r)

chunk_two : (c d : Chunk) → c.size ≡ d.size → c.content ≡ d.content → c ≡ d
chunk_two c d e f = ap₂ (λ (p : ArgumentSize) (h : List ℕ). let made : Chunk = record { size = p; content = h } in made) e f

chunks_two : (m : ℕ) (cs ds : List Chunk) (r s : List ℕ) → m < 4 → AreChunksOk cs → AreChunksOk ds → chunks_bytes m cs ++ 255 ∷ r ≡ chunks_bytes m ds ++ 255 ∷ s → (cs ≡ ds) × (r ≡ s)
chunks_two m [] [] r s small a b e = let rest : r ≡ s = cc in (refl, rest)
chunks_two m [] (d ∷ ds) r s small a b e = absurd (chunk_byte m d.size (length d.content) (d.content ++ (chunks_bytes m ds ++ 255 ∷ s)) r small b.0.0 (sym (e ∙ chunk_flat m d ds (255 ∷ s))))
chunks_two m (c ∷ cs) [] r s small a b e = absurd (chunk_byte m c.size (length c.content) (c.content ++ (chunks_bytes m cs ++ 255 ∷ r)) s small a.0.0 (sym (chunk_flat m c cs (255 ∷ r)) ∙ e))
chunks_two m (c ∷ cs) (d ∷ ds) r s small a b e =
    let more = chunks_bytes m cs ++ 255 ∷ r in
    let more_too = chunks_bytes m ds ++ 255 ∷ s in
    let heads : SameHead c.size d.size m m (length c.content) (length d.content) (c.content ++ more) (d.content ++ more_too) =
    same_head c.size d.size m m (length c.content) (length d.content) (c.content ++ more) (d.content ++ more_too) a.0.0 b.0.0 (sym (chunk_flat m c cs (255 ∷ r)) ∙ (e ∙ chunk_flat m d ds (255 ∷ s))) in
    let contents : (c.content ≡ d.content) × (more ≡ more_too) = same_length c.content d.content more more_too heads.argument heads.rest in
    let rest : (cs ≡ ds) × (r ≡ s) = chunks_two m cs ds r s small a.1 b.1 contents.1 in
    (ap₂ (λ (x : Chunk) (xs : List Chunk). x ∷ xs) (chunk_two c d heads.size contents.0) rest.0, rest.1)

float_two : (v w : Width) (n l : ℕ) (r s : List ℕ) → FitsWidth v n → FitsWidth w l → float_bytes v n ++ r ≡ float_bytes w l ++ s → (v ≡ w) × (n ≡ l) × (r ≡ s)
float_two W16 W16 n l r s h k e = let both : (n ≡ l) × (r ≡ s) = in_size two 7 n l r s h k e in (refl, both.0, both.1)
float_two W32 W32 n l r s h k e = let both : (n ≡ l) × (r ≡ s) = in_size four 7 n l r s h k e in (refl, both.0, both.1)
float_two W64 W64 n l r s h k e = let both : (n ≡ l) × (r ≡ s) = in_size eight 7 n l r s h k e in (refl, both.0, both.1)
float_two _ _ n l r s h k e = let bytes = ap first_byte e in absurd (omega arith)

-- no form begins with the break
class_below : (f : Form) → form_class f ≡ 14 → ⊥
class_below (uint_form p n) e = omega arith
class_below (nint_form p n) e = omega arith
class_below (bytes_form p s) e = omega arith
class_below (bytes_chunks cs) e = omega arith
class_below (text_form p s) e = omega arith
class_below (text_chunks cs) e = omega arith
class_below (array_form p fs) e = omega arith
class_below (array_to_break fs) e = omega arith
class_below (pairs_form p ps) e = omega arith
class_below (pairs_to_break ps) e = omega arith
class_below (tag_form p n f) e = omega arith
class_below (simple_inside n) e = omega arith
class_below (simple_next n) e = omega arith
class_below (float_form w n) e = omega arith

break_class : (f : Form) (r s : List ℕ) → IsOk f → flat f ++ r ≡ 255 ∷ s → ⊥
break_class f r s ok e =
    let class : form_class f ≡ 14 = sym (flat_class f r ok) ∙ ap (λ bs. byte_class (first_byte bs)) e in
    class_below f class

mutual
  -- one_form forms that begin the same bytes are one
  pub one_form : (f g : Form) (r s : List ℕ) → IsOk f → IsOk g → flat f ++ r ≡ flat g ++ s → (f ≡ g) × (r ≡ s)
  one_form (uint_form p n) (uint_form q l) r s a b e =
      let heads : SameHead p q 0 0 n l r s = same_head p q 0 0 n l r s a b e in
      (ap₂ uint_form heads.size heads.argument, heads.rest)
  one_form (nint_form p n) (nint_form q l) r s a b e =
      let heads : SameHead p q 1 1 n l r s = same_head p q 1 1 n l r s a b e in
      (ap₂ nint_form heads.size heads.argument, heads.rest)
  one_form (bytes_form p c) (bytes_form q d) r s a b e =
      let parts = string_two p q 2 c d r s a.0 b.0 e in
      (ap₂ bytes_form parts.0 parts.1, parts.2)
  one_form (bytes_chunks cs) (bytes_chunks ds) r s a b e =
      let inner : (chunks_bytes 2 cs ++ 255 ∷ []) ++ r ≡ (chunks_bytes 2 ds ++ 255 ∷ []) ++ s = cc in
      let parts = chunks_two 2 cs ds r s (omega arith) a b (sym (append_assoc (chunks_bytes 2 cs) (255 ∷ []) r) ∙ (inner ∙ append_assoc (chunks_bytes 2 ds) (255 ∷ []) s)) in
      (ap bytes_chunks parts.0, parts.1)
  one_form (text_form p c) (text_form q d) r s a b e =
      let parts = string_two p q 3 c d r s a.0 b.0 e in
      (ap₂ text_form parts.0 parts.1, parts.2)
  one_form (text_chunks cs) (text_chunks ds) r s a b e =
      let inner : (chunks_bytes 3 cs ++ 255 ∷ []) ++ r ≡ (chunks_bytes 3 ds ++ 255 ∷ []) ++ s = cc in
      let parts = chunks_two 3 cs ds r s (omega arith) a b (sym (append_assoc (chunks_bytes 3 cs) (255 ∷ []) r) ∙ (inner ∙ append_assoc (chunks_bytes 3 ds) (255 ∷ []) s)) in
      (ap text_chunks parts.0, parts.1)
  one_form (array_form p fs) (array_form q gs) r s a b e =
      let heads = same_head p q 4 4 (forms_len fs) (forms_len gs) (forms_flat fs ++ r) (forms_flat gs ++ s) a.0 b.0 (sym (append_assoc (head_in p 4 (forms_len fs)) (forms_flat fs) r) ∙ (e ∙ append_assoc (head_in q 4 (forms_len gs)) (forms_flat gs) s)) in
      let parts = all_two fs gs r s heads.argument a.1 b.1 heads.rest in
      (ap₂ array_form heads.size parts.0, parts.1)
  one_form (array_to_break fs) (array_to_break gs) r s a b e =
      let inner : (forms_flat fs ++ 255 ∷ []) ++ r ≡ (forms_flat gs ++ 255 ∷ []) ++ s = cc in
      let parts = all_to_break fs gs r s a b (sym (append_assoc (forms_flat fs) (255 ∷ []) r) ∙ (inner ∙ append_assoc (forms_flat gs) (255 ∷ []) s)) in
      (ap array_to_break parts.0, parts.1)
  one_form (pairs_form p ps) (pairs_form q qs) r s a b e =
      let heads = same_head p q 5 5 (pair_forms_len ps) (pair_forms_len qs) (pair_forms_flat ps ++ r) (pair_forms_flat qs ++ s) a.0 b.0 (sym (append_assoc (head_in p 5 (pair_forms_len ps)) (pair_forms_flat ps) r) ∙ (e ∙ append_assoc (head_in q 5 (pair_forms_len qs)) (pair_forms_flat qs) s)) in
      let parts = pairs_two ps qs r s heads.argument a.1 b.1 heads.rest in
      (ap₂ pairs_form heads.size parts.0, parts.1)
  one_form (pairs_to_break ps) (pairs_to_break qs) r s a b e =
      let inner : (pair_forms_flat ps ++ 255 ∷ []) ++ r ≡ (pair_forms_flat qs ++ 255 ∷ []) ++ s = cc in
      let parts = pairs_to_end ps qs r s a b (sym (append_assoc (pair_forms_flat ps) (255 ∷ []) r) ∙ (inner ∙ append_assoc (pair_forms_flat qs) (255 ∷ []) s)) in
      (ap pairs_to_break parts.0, parts.1)
  one_form (tag_form p n f) (tag_form q l g) r s a b e =
      let heads = same_head p q 6 6 n l (flat f ++ r) (flat g ++ s) a.0 b.0 (sym (append_assoc (head_in p 6 n) (flat f) r) ∙ (e ∙ append_assoc (head_in q 6 l) (flat g) s)) in
      let parts = one_form f g r s a.1 b.1 heads.rest in
      (ap₂ (λ (x : ArgumentSize) (y : ℕ). tag_form x y f) heads.size heads.argument ∙ ap (tag_form q l) parts.0, parts.1)
  one_form (simple_inside n) (simple_inside l) r s a b e =
      let parts = in_size inside 7 n l r s a b e in
      (ap simple_inside parts.0, parts.1)
  one_form (simple_next n) (simple_next l) r s a b e =
      let number : n ≡ l = cc in
      let rest : r ≡ s = cc in
      (ap simple_next number, rest)
  one_form (float_form v n) (float_form w l) r s a b e =
      let parts = float_two v w n l r s a b e in
      (ap₂ float_form parts.0 parts.1, parts.2)
  one_form f g r s a b e = absurd (omega (arith, same_class f g r s a b e))

  all_two : (fs gs : Forms) (r s : List ℕ) → forms_len fs ≡ forms_len gs → AreFormsOk fs → AreFormsOk gs → forms_flat fs ++ r ≡ forms_flat gs ++ s → (fs ≡ gs) × (r ≡ s)
  all_two no_forms no_forms r s h a b e = (refl, e)
  all_two no_forms (form g gs) r s h a b e = absurd (omega arith)
  all_two (form f fs) no_forms r s h a b e = absurd (omega arith)
  all_two (form f fs) (form g gs) r s h a b e =
      let parts = one_form f g (forms_flat fs ++ r) (forms_flat gs ++ s) a.0 b.0 (sym (append_assoc (flat f) (forms_flat fs) r) ∙ (e ∙ append_assoc (flat g) (forms_flat gs) s)) in
      let lengths : forms_len fs ≡ forms_len gs = omega arith in
      let rest = all_two fs gs r s lengths a.1 b.1 parts.1 in
      (ap₂ form parts.0 rest.0, rest.1)

  all_to_break : (fs gs : Forms) (r s : List ℕ) → AreFormsOk fs → AreFormsOk gs → forms_flat fs ++ 255 ∷ r ≡ forms_flat gs ++ 255 ∷ s → (fs ≡ gs) × (r ≡ s)
  all_to_break no_forms no_forms r s a b e = let rest : r ≡ s = cc in (refl, rest)
  all_to_break no_forms (form g gs) r s a b e = absurd (break_class g (forms_flat gs ++ 255 ∷ s) r b.0 (sym (e ∙ append_assoc (flat g) (forms_flat gs) (255 ∷ s))))
  all_to_break (form f fs) no_forms r s a b e = absurd (break_class f (forms_flat fs ++ 255 ∷ r) s a.0 (sym (append_assoc (flat f) (forms_flat fs) (255 ∷ r)) ∙ e))
  all_to_break (form f fs) (form g gs) r s a b e =
      let parts = one_form f g (forms_flat fs ++ 255 ∷ r) (forms_flat gs ++ 255 ∷ s) a.0 b.0 (sym (append_assoc (flat f) (forms_flat fs) (255 ∷ r)) ∙ (e ∙ append_assoc (flat g) (forms_flat gs) (255 ∷ s))) in
      let rest = all_to_break fs gs r s a.1 b.1 parts.1 in
      (ap₂ form parts.0 rest.0, rest.1)

  pairs_two : (ps qs : PairForms) (r s : List ℕ) → pair_forms_len ps ≡ pair_forms_len qs → ArePairFormsOk ps → ArePairFormsOk qs → pair_forms_flat ps ++ r ≡ pair_forms_flat qs ++ s → (ps ≡ qs) × (r ≡ s)
  pairs_two no_pair_forms no_pair_forms r s h a b e = (refl, e)
  pairs_two no_pair_forms (pair_form k v qs) r s h a b e = absurd (omega arith)
  pairs_two (pair_form k v ps) no_pair_forms r s h a b e = absurd (omega arith)
  pairs_two (pair_form k v ps) (pair_form l w qs) r s h a b e =
      let keys = one_form k l ((flat v ++ pair_forms_flat ps) ++ r) ((flat w ++ pair_forms_flat qs) ++ s) a.0 b.0 (sym (append_assoc (flat k) (flat v ++ pair_forms_flat ps) r) ∙ (e ∙ append_assoc (flat l) (flat w ++ pair_forms_flat qs) s)) in
      let values = one_form v w (pair_forms_flat ps ++ r) (pair_forms_flat qs ++ s) a.1 b.1 (sym (append_assoc (flat v) (pair_forms_flat ps) r) ∙ (keys.1 ∙ append_assoc (flat w) (pair_forms_flat qs) s)) in
      let lengths : pair_forms_len ps ≡ pair_forms_len qs = omega arith in
      let rest = pairs_two ps qs r s lengths a.2 b.2 values.1 in
      (ap₂ (λ (x y : Form). pair_form x y ps) keys.0 values.0 ∙ ap (pair_form l w) rest.0, rest.1)

  pairs_to_end : (ps qs : PairForms) (r s : List ℕ) → ArePairFormsOk ps → ArePairFormsOk qs → pair_forms_flat ps ++ 255 ∷ r ≡ pair_forms_flat qs ++ 255 ∷ s → (ps ≡ qs) × (r ≡ s)
  pairs_to_end no_pair_forms no_pair_forms r s a b e = let rest : r ≡ s = cc in (refl, rest)
  pairs_to_end no_pair_forms (pair_form l w qs) r s a b e = absurd (break_class l ((flat w ++ pair_forms_flat qs) ++ 255 ∷ s) r b.0 (sym (e ∙ append_assoc (flat l) (flat w ++ pair_forms_flat qs) (255 ∷ s))))
  pairs_to_end (pair_form k v ps) no_pair_forms r s a b e = absurd (break_class k ((flat v ++ pair_forms_flat ps) ++ 255 ∷ r) s a.0 (sym (append_assoc (flat k) (flat v ++ pair_forms_flat ps) (255 ∷ r)) ∙ e))
  pairs_to_end (pair_form k v ps) (pair_form l w qs) r s a b e =
      let keys = one_form k l ((flat v ++ pair_forms_flat ps) ++ 255 ∷ r) ((flat w ++ pair_forms_flat qs) ++ 255 ∷ s) a.0 b.0 (sym (append_assoc (flat k) (flat v ++ pair_forms_flat ps) (255 ∷ r)) ∙ (e ∙ append_assoc (flat l) (flat w ++ pair_forms_flat qs) (255 ∷ s))) in
      let values = one_form v w (pair_forms_flat ps ++ 255 ∷ r) (pair_forms_flat qs ++ 255 ∷ s) a.1 b.1 (sym (append_assoc (flat v) (pair_forms_flat ps) (255 ∷ r)) ∙ (keys.1 ∙ append_assoc (flat w) (pair_forms_flat qs) (255 ∷ s))) in
      let rest = pairs_to_end ps qs r s a.2 b.2 values.1 in
      (ap₂ (λ (x y : Form). pair_form x y ps) keys.0 values.0 ∙ ap (pair_form l w) rest.0, rest.1)

-- no spelling begins another, and bytes spell at most one item
pub unique : {x y : Value} (a r b s : List ℕ) → Spells x a → Spells y b → a ++ r ≡ b ++ s → (a ≡ b) × (x ≡ y)
unique a r b s p q e =
    let forms : (p.written ≡ q.written) × (r ≡ s) = one_form p.written q.written r s p.ok q.ok (ap (λ bs. bs ++ r) (sym p.is) ∙ (e ∙ ap (λ bs. bs ++ s) q.is)) in
    (p.is ∙ (ap flat forms.0 ∙ sym q.is), p.meant ∙ (ap meaning forms.0 ∙ sym q.meant))

-- no well-formed list begins another
pub unique_front : (a r b s : List ℕ) → IsWellFormed a → IsWellFormed b → a ++ r ≡ b ++ s → (a ≡ b) × (r ≡ s)
unique_front a r b s p q e =
    let forms : (p.written ≡ q.written) × (r ≡ s) = one_form p.written q.written r s p.ok q.ok (ap (λ bs. bs ++ r) (sym p.is) ∙ (e ∙ ap (λ bs. bs ++ s) q.is)) in
    (p.is ∙ (ap flat forms.0 ∙ sym q.is), forms.1)

-- what is unfinished does not begin with an item
pub unfinished_no_front : (rest front back : List ℕ) → IsUnfinished rest → IsWellFormed front → rest ≡ front ++ back → ⊥
unfinished_no_front rest front back u w e =
    let whole = rest ++ u.0 ∷ u.1 in
    let same : front ++ (back ++ u.0 ∷ u.1) ≡ whole ++ [] = sym (append_assoc front back (u.0 ∷ u.1)) ∙ (ap (λ b. b ++ u.0 ∷ u.1) (sym e) ∙ sym (append-nil whole)) in
    let parts = unique_front front (back ++ u.0 ∷ u.1) whole [] w u.2 same in
    let none : length (back ++ u.0 ∷ u.1) ≡ 0 = ap length parts.1 in
    omega (arith, none, length-append back (u.0 ∷ u.1))
