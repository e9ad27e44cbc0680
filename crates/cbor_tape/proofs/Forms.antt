-- What a form that is in bytes is, by its first byte.
use Rattle.std.proofs.Common.{◌≡◌, ℕ, ◌+◌, ◌/◌, ◌%◌, ◌<◌, List, ◌++◌, length, drop, get_or, refl, sym, ap, ◌∙◌, arith}
use Rattle.std.proofs.lemmas.List.{get_or-drop}
use Rattle.cbor_data.specs.declared.Width.TheVariants.{W16, W32, W64}
use Rattle.cbor_data.specs.Preferred.{initial}
use Rattle.cbor_data.specs.Forms.{ArgumentSize, inside, one, two, four, eight, head_in, FitsSize, Form, uint_form, nint_form, bytes_form, bytes_chunks, text_form, text_chunks, array_form, array_to_break, pairs_form, pairs_to_break, tag_form, simple_inside, simple_next, float_form, forms_len, pair_forms_len, flat, forms_flat, pair_forms_flat, IsOk}
use Rattle.cbor_tape.specs.Parted.{IsFormAt}

-- the additional information that announces an argument of this size
abbrev pub info_of : ArgumentSize → ℕ → ℕ
info_of inside n = n
info_of one n = 24
info_of two n = 25
info_of four n = 26
info_of eight n = 27

pub info_below : (p : ArgumentSize) (n : ℕ) → FitsSize p n → info_of p n < 28
info_below inside n h = omega arith
info_below one n h = omega arith
info_below two n h = omega arith
info_below four n h = omega arith
info_below eight n h = omega arith

pub head_first : (p : ArgumentSize) (m n : ℕ) (r : List ℕ) → get_or (head_in p m n ++ r) 0 0 ≡ initial m (info_of p n)
head_first inside m n r = refl
head_first one m n r = refl
head_first two m n r = refl
head_first four m n r = refl
head_first eight m n r = refl

abbrev pub form_major : Form → ℕ
form_major (uint_form p n) = 0
form_major (nint_form p n) = 1
form_major (bytes_form p s) = 2
form_major (bytes_chunks cs) = 2
form_major (text_form p s) = 3
form_major (text_chunks cs) = 3
form_major (array_form p fs) = 4
form_major (array_to_break fs) = 4
form_major (pairs_form p ps) = 5
form_major (pairs_to_break ps) = 5
form_major (tag_form p n f) = 6
form_major (simple_inside n) = 7
form_major (simple_next n) = 7
form_major (float_form w n) = 7

abbrev pub form_info : Form → ℕ
form_info (uint_form p n) = info_of p n
form_info (nint_form p n) = info_of p n
form_info (bytes_form p s) = info_of p (length s)
form_info (bytes_chunks cs) = 31
form_info (text_form p s) = info_of p (length s)
form_info (text_chunks cs) = 31
form_info (array_form p fs) = info_of p (forms_len fs)
form_info (array_to_break fs) = 31
form_info (pairs_form p ps) = info_of p (pair_forms_len ps)
form_info (pairs_to_break ps) = 31
form_info (tag_form p n f) = info_of p n
form_info (simple_inside n) = n
form_info (simple_next n) = 24
form_info (float_form W16 n) = 25
form_info (float_form W32 n) = 26
form_info (float_form W64 n) = 27

info_small : (f : Form) → IsOk f → form_info f < 32
info_small (uint_form p n) ok = omega (arith, info_below p n ok)
info_small (nint_form p n) ok = omega (arith, info_below p n ok)
info_small (bytes_form p s) ok = omega (arith, info_below p (length s) ok.0)
info_small (bytes_chunks cs) ok = omega arith
info_small (text_form p s) ok = omega (arith, info_below p (length s) ok.0)
info_small (text_chunks cs) ok = omega arith
info_small (array_form p fs) ok = omega (arith, info_below p (forms_len fs) ok.0)
info_small (array_to_break fs) ok = omega arith
info_small (pairs_form p ps) ok = omega (arith, info_below p (pair_forms_len ps) ok.0)
info_small (pairs_to_break ps) ok = omega arith
info_small (tag_form p n f) ok = omega (arith, info_below p n ok.0)
info_small (simple_inside n) ok = omega (arith, ok)
info_small (simple_next n) ok = omega arith
info_small (float_form W16 n) ok = omega arith
info_small (float_form W32 n) ok = omega arith
info_small (float_form W64 n) ok = omega arith

-- the first byte where something follows the head
headed_first : (p : ArgumentSize) (m n : ℕ) (s r : List ℕ) → get_or ((head_in p m n ++ s) ++ r) 0 0 ≡ initial m (info_of p n)
headed_first inside m n s r = refl
headed_first one m n s r = refl
headed_first two m n s r = refl
headed_first four m n s r = refl
headed_first eight m n s r = refl

form_first : (f : Form) (r : List ℕ) → get_or (flat f ++ r) 0 0 ≡ initial (form_major f) (form_info f)
form_first (uint_form p n) r = head_first p 0 n r
form_first (nint_form p n) r = head_first p 1 n r
form_first (bytes_form p s) r = headed_first p 2 (length s) s r
form_first (bytes_chunks cs) r = refl
form_first (text_form p s) r = headed_first p 3 (length s) s r
form_first (text_chunks cs) r = refl
form_first (array_form p fs) r = headed_first p 4 (forms_len fs) (forms_flat fs) r
form_first (array_to_break fs) r = refl
form_first (pairs_form p ps) r = headed_first p 5 (pair_forms_len ps) (pair_forms_flat ps) r
form_first (pairs_to_break ps) r = refl
form_first (tag_form p n f) r = headed_first p 6 n (flat f) r
form_first (simple_inside n) r = refl
form_first (simple_next n) r = refl
form_first (float_form W16 n) r = refl
form_first (float_form W32 n) r = refl
form_first (float_form W64 n) r = refl

-- the first byte of what is behind
pub byte_there : (b : List ℕ) (at : ℕ) (l : List ℕ) → drop at b ≡ l → get_or b at 0 ≡ get_or l 0 0
byte_there b at l is =
    let same : at ≡ at + 0 = omega arith in
    ap (λ k. get_or b k 0) same ∙ (sym (get_or-drop at b 0 0) ∙ ap (λ l. get_or l 0 0) is)

pub record FormByte (b : List ℕ) (at : ℕ) (f : Form) : Type 0 where
  pub major : form_major f ≡ get_or b at 0 / 32
  pub info : form_info f ≡ get_or b at 0 % 32

pub form_byte : (b : List ℕ) (at : ℕ) (f : Form) (after : List ℕ) → IsFormAt b at f after → FormByte b at f
form_byte b at f after h =
    let first : get_or b at 0 ≡ initial (form_major f) (form_info f) = byte_there b at (flat f ++ after) h.is ∙ form_first f after in
    let small : form_info f < 32 = info_small f h.ok in
    record { major = omega arith; info = omega arith }
