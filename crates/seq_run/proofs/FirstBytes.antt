-- The major type of an item by the first byte of its spelling.
use Rattle.std.proofs.Common.{◌≡◌, ℕ, ◌/◌, List, ◌++◌, length, take, drop, slice_index_or, sym, ap, ◌∙◌, arith, append_assoc}
use Rattle.std.proofs.lemmas.List.{take-append-drop}
use Rattle.cbor_data.specs.declared.Width.{Width}
use Rattle.cbor_data.specs.declared.Width.TheVariants.{W16, W32, W64}
use Rattle.cbor_data.specs.Value.{Value}
use Rattle.cbor_data.specs.Preferred.{float_bytes}
use Rattle.cbor_data.specs.Forms.{ArgumentSize, inside, one, two, four, eight, head_in, FitsSize, Form, uint_form, nint_form, bytes_form, bytes_chunks, text_form, text_chunks, array_form, array_to_break, pairs_form, pairs_to_break, tag_form, simple_inside, simple_next, float_form, forms_len, pair_forms_len, flat, forms_flat, pair_forms_flat, meaning, IsOk, Spells}
use Rattle.cddl_meaning.specs.Forms.{major_of}

-- the major type of what begins with this byte
abbrev first_major : List ℕ → ℕ
first_major b = slice_index_or b 0 0 / 32

head_major : (p : ArgumentSize) (m n : ℕ) (r : List ℕ) → FitsSize p n → first_major (head_in p m n ++ r) ≡ m
head_major inside m n r h = omega arith
head_major one m n r h = omega arith
head_major two m n r h = omega arith
head_major four m n r h = omega arith
head_major eight m n r h = omega arith

-- a head and what is behind it
long_major : (p : ArgumentSize) (m n : ℕ) (b r : List ℕ) → FitsSize p n → first_major ((head_in p m n ++ b) ++ r) ≡ m
long_major p m n b r h = ap first_major (append_assoc (head_in p m n) b r) ∙ head_major p m n (b ++ r) h

float_major : (w : Width) (n : ℕ) (r : List ℕ) → first_major (float_bytes w n ++ r) ≡ 7
float_major W16 n r = omega arith
float_major W32 n r = omega arith
float_major W64 n r = omega arith

form_major : (f : Form) (r : List ℕ) → IsOk f → first_major (flat f ++ r) ≡ major_of (meaning f)
form_major (uint_form p n) r ok = head_major p 0 n r ok
form_major (nint_form p n) r ok = head_major p 1 n r ok
form_major (bytes_form p s) r ok = long_major p 2 (length s) s r ok.0
form_major (bytes_chunks cs) r ok = omega arith
form_major (text_form p s) r ok = long_major p 3 (length s) s r ok.0
form_major (text_chunks cs) r ok = omega arith
form_major (array_form p fs) r ok = long_major p 4 (forms_len fs) (forms_flat fs) r ok.0
form_major (array_to_break fs) r ok = omega arith
form_major (pairs_form p ps) r ok = long_major p 5 (pair_forms_len ps) (pair_forms_flat ps) r ok.0
form_major (pairs_to_break ps) r ok = omega arith
form_major (tag_form p n f) r ok = long_major p 6 n (flat f) r ok.0
form_major (simple_inside n) r ok = omega (arith, ok)
form_major (simple_next n) r ok = omega arith
form_major (float_form w n) r ok = float_major w n r

-- the first byte of a piece has the major type of the item that its front spells
pub spelled_major : (x : Value) (piece : List ℕ) (used : ℕ) → Spells x (take used piece) → major_of x ≡ slice_index_or piece 0 0 / 32
spelled_major x piece used s =
    let there : flat s.written ++ drop used piece ≡ piece = ap (λ b. b ++ drop used piece) (sym s.is) ∙ take-append-drop used piece in
    ap major_of s.meant ∙ (sym (form_major s.written (drop used piece) s.ok) ∙ ap first_major there)
