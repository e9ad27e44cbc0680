-- Heads with their arguments, from the bytes that are there.
use Rattle.std.proofs.Common.{◌≡◌, ℕ, zero, suc, ◌+◌, ◌/◌, ◌%◌, ◌<◌, ◌^◌, List, [], ◌∷◌, ◌++◌, length, take, drop, get_or, refl, sym, ap, ◌∙◌, subst, arith}
use Rattle.std.specs.Int.{to_be_bytes, w16, w32, w64}
use Rattle.std.proofs.lemmas.List.{take-append-drop, drop-drop, drop_more, get_or-drop}
use Rattle.cbor_data.specs.Value.{AreBytes}
use Rattle.cbor_data.specs.Preferred.{initial}
use Rattle.cbor_data.specs.Forms.{two, four, eight, head_in}
use Rattle.read_items.specs.Whole.Parts.{IsArgumentAt}

pub byte_at : (b : List ℕ) (at x : ℕ) (ys : List ℕ) → drop at b ≡ x ∷ ys → get_or b at 0 ≡ x
byte_at b at x ys is =
    let same : at ≡ at + 0 = omega arith in
    ap (λ n. get_or b n 0) same ∙ (sym (get_or-drop at b 0 0) ∙ ap (λ l. get_or l 0 0) is)

-- the head's first byte and so many bytes after it
with_digits : (b : List ℕ) (at k m info : ℕ) (digits : List ℕ) → at < length b → m ≡ get_or b at 0 / 32 → info ≡ get_or b at 0 % 32 → digits ≡ take k (drop (at + 1) b) → drop at b ≡ (initial m info ∷ digits) ++ drop (at + 1 + k) b
with_digits b at k m info digits few e i d =
    let byte : get_or b at 0 ≡ initial m info = omega arith in
    let tail : drop (at + 1) b ≡ digits ++ drop (at + 1 + k) b =
    sym (take-append-drop k (drop (at + 1) b)) ∙ (ap (λ r. r ++ drop k (drop (at + 1) b)) (sym d) ∙ ap (λ r. digits ++ r) (drop-drop k (at + 1) b)) in
    drop_more b at 0 few ∙ (ap (λ x. x ∷ drop (at + 1) b) byte ∙ ap (λ r. initial m info ∷ r) tail)

moved : (b : List ℕ) (at k end : ℕ) (head : List ℕ) → drop at b ≡ head ++ drop (at + 1 + k) b → end ≡ at + 1 + k → drop at b ≡ head ++ drop end b
moved b at k end head is e = subst (λ n. drop at b ≡ head ++ drop n b) (sym e) is

pub two_wide : (b : List ℕ) (at n : ℕ) → at + 2 < length b → get_or b at 0 % 32 ≡ 25 → n < 2 ^ 16 → to_be_bytes w16 n ≡ take 2 (drop (at + 1) b) → IsArgumentAt b at n (at + 3)
two_wide b at n few info fits digits =
    let major = get_or b at 0 / 32 in
    record {
      size = two;
      fits = fits;
      placed = omega arith;
      within = omega arith;
      is = moved b at 2 (at + 3) (head_in two major n) (with_digits b at 2 major 25 (to_be_bytes w16 n) (omega arith) refl (sym info) digits) (omega arith);
    }

pub four_wide : (b : List ℕ) (at n : ℕ) → at + 4 < length b → get_or b at 0 % 32 ≡ 26 → n < 2 ^ 32 → to_be_bytes w32 n ≡ take 4 (drop (at + 1) b) → IsArgumentAt b at n (at + 5)
four_wide b at n few info fits digits =
    let major = get_or b at 0 / 32 in
    record {
      size = four;
      fits = fits;
      placed = omega arith;
      within = omega arith;
      is = moved b at 4 (at + 5) (head_in four major n) (with_digits b at 4 major 26 (to_be_bytes w32 n) (omega arith) refl (sym info) digits) (omega arith);
    }

pub eight_wide : (b : List ℕ) (at n : ℕ) → at + 8 < length b → get_or b at 0 % 32 ≡ 27 → n < 2 ^ 64 → to_be_bytes w64 n ≡ take 8 (drop (at + 1) b) → IsArgumentAt b at n (at + 9)
eight_wide b at n few info fits digits =
    let major = get_or b at 0 / 32 in
    record {
      size = eight;
      fits = fits;
      placed = omega arith;
      within = omega arith;
      is = moved b at 8 (at + 9) (head_in eight major n) (with_digits b at 8 major 27 (to_be_bytes w64 n) (omega arith) refl (sym info) digits) (omega arith);
    }

small_front : (k : ℕ) (xs : List ℕ) → ((i : ℕ) → get_or xs i 0 < 256) → AreBytes (take k xs)
small_front zero xs h = tt
small_front (suc k) [] h = tt
small_front (suc k) (x ∷ xs) h = (h 0, small_front k xs (λ i. h (suc i)))

-- each part of bytes is bytes
pub small_part : (b : List ℕ) → ((i : ℕ) → get_or b i 0 < 256) → (start k : ℕ) → AreBytes (take k (drop start b))
small_part b h start k = small_front k (drop start b) (λ i. subst (λ x. x < 256) (sym (get_or-drop start b i 0)) (h (start + i)))
