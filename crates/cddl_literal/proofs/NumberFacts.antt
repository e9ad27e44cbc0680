-- The number that digits stand for.
use Rattle.std.proofs.Common.{◌≡◌, ℕ, ◌+◌, ◌*◌, ◌<◌, ◌≤◌, List, [], ◌∷◌, drop, length, get_or, slice_index, arith, ap, sym, ◌∙◌, add-one, drop-cons}
use Rattle.cddl_literal.proofs.RangeFacts.{four_bytes}
use Rattle.cddl_literal.specs.Numbers.{digit_value, number_after, number_in}

grown : (base n : ℕ) → 1 ≤ base → n ≤ base * n
grown base n h = grind arith

pub at_least : (base n : ℕ) (bs : List ℕ) → 1 ≤ base → n ≤ number_after base n bs
at_least base n [] h = omega arith
at_least base n (b ∷ bs) h = let e = at_least base (base * n + digit_value b) bs h in omega (arith, e, grown base n h)

-- one more digit
pub turn : (base n i : ℕ) (bs : List ℕ) → i < length bs → number_after base n (drop i bs) ≡ number_after base (base * n + digit_value (get_or bs i 0)) (drop (i + 1) bs)
turn base n i bs h = ap (number_after base n) (drop-cons bs i 0 h) ∙ ap (λ k. number_after base (base * n + digit_value (get_or bs i 0)) (drop k bs)) (sym (add-one i))

pub large : (base n i : ℕ) (bs : List ℕ) → 1 ≤ base → i < length bs → number_after base n (drop i bs) ≡ number_after base 0 bs → base * n + digit_value (get_or bs i 0) ≤ number_after base 0 bs
large base n i bs one h e = let k = at_least base (base * n + digit_value (get_or bs i 0)) (drop (i + 1) bs) one in omega (arith, turn base n i bs h, e)

-- the four hex digits of `\u`
pub number_of_unit : (s : List ℕ) (i : ℕ) → i + 6 ≤ length s → number_in 16 s (i + 2) (i + 6) ≡ (digit_value (slice_index s (i + 2)) * 16 + digit_value (slice_index s (i + 3))) * 256 + (digit_value (slice_index s (i + 4)) * 16 + digit_value (slice_index s (i + 5)))
number_of_unit s i h =
    let end : i + 6 ≡ i + 2 + 4 = omega arith in
    let one : i + 2 + 1 ≡ i + 3 = omega arith in
    let two : i + 2 + 2 ≡ i + 4 = omega arith in
    let three : i + 2 + 3 ≡ i + 5 = omega arith in
    let digit = λ (k : ℕ). digit_value (get_or s k 0) in
    ap (number_in 16 s (i + 2)) end ∙ ap (number_after 16 0) (four_bytes s (i + 2) (omega arith)) ∙ omega (arith, ap digit one, ap digit two, ap digit three)
