-- Lists of bytes, cut in pieces.
use Rattle.std.proofs.Common.{◌≡◌, ℕ, zero, suc, ◌+◌, ◌-◌, ◌<◌, ◌≤◌, List, [], ◌∷◌, ◌++◌, length, get_or, take, drop, sym, ap, ◌∙◌, arith, append_assoc, length-append, length-take}
use Rattle.std.proofs.lemmas.List.{take-append-drop, drop_more}
use Rattle.cbor_data.specs.Value.{AreBytes}

pub are_bytes : (xs : List ℕ) → ((i : ℕ) → get_or xs i 0 < 256) → AreBytes xs
are_bytes [] h = tt
are_bytes (x ∷ xs) h = (h 0, are_bytes xs (λ i. h (suc i)))

pub bytes-take : (n : ℕ) (xs : List ℕ) → AreBytes xs → AreBytes (take n xs)
bytes-take zero xs h = tt
bytes-take (suc n) [] h = tt
bytes-take (suc n) (x ∷ xs) h = (h.0, bytes-take n xs h.1)

pub bytes_small : (bs : List ℕ) → AreBytes bs → (i : ℕ) → get_or bs i 0 < 256
bytes_small [] h i = omega arith
bytes_small (b ∷ bs) h zero = h.0
bytes_small (b ∷ bs) h (suc i) = bytes_small bs h.1 i

-- a list, cut at one of its members
pub cut_at : (seen piece more : List ℕ) (k : ℕ) → k < length piece → (seen ++ take k piece) ++ get_or piece k 0 ∷ (drop (k + 1) piece ++ more) ≡ (seen ++ piece) ++ more
cut_at seen piece more k h =
    let x : ℕ = get_or piece k 0 in
    let rest : List ℕ = drop (k + 1) piece in
    let parts : take k piece ++ x ∷ rest ≡ piece = ap (λ d. take k piece ++ d) (sym (drop_more piece k 0 h)) ∙ take-append-drop k piece in
    sym (append_assoc (seen ++ take k piece) (x ∷ rest) more) ∙ ap (λ b. b ++ more) (append_assoc seen (take k piece) (x ∷ rest) ∙ ap (λ b. seen ++ b) parts)

-- the same, between two
pub cut_after : (seen piece more : List ℕ) (k : ℕ) → (seen ++ take k piece) ++ (drop k piece ++ more) ≡ (seen ++ piece) ++ more
cut_after seen piece more k =
    sym (append_assoc (seen ++ take k piece) (drop k piece) more) ∙ ap (λ b. b ++ more) (append_assoc seen (take k piece) (drop k piece) ∙ ap (λ b. seen ++ b) (take-append-drop k piece))

pub front_length : (seen piece : List ℕ) (k : ℕ) → k ≤ length piece → length (seen ++ take k piece) ≡ length seen + k
front_length seen piece k h = omega (arith, length-append seen (take k piece), length-take k piece)

pub one_byte : (piece : List ℕ) (k : ℕ) → k < length piece → take ((k + 1) - k) (drop k piece) ≡ get_or piece k 0 ∷ []
one_byte piece k h =
    let one : (k + 1) - k ≡ 1 = omega arith in
    ap (λ n. take n (drop k piece)) one ∙ ap (take 1) (drop_more piece k 0 h)
