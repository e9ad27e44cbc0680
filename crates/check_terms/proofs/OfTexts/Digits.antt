-- The number that digits stand for.
use Rattle.std.proofs.Common.{◌≡◌, ℕ, ◌+◌, ◌*◌, ◌≤◌, ◌<◌, List, [], ◌∷◌, drop, length, get_or, arith, ap, sym, ◌∙◌, add-one, drop-cons}
use Rattle.cddl_literal.specs.Numbers.{digit_value, number_after}

grown : (base n : ℕ) → 1 ≤ base → n ≤ base * n
grown base n h = grind arith

at_least : (base n : ℕ) (bs : List ℕ) → 1 ≤ base → n ≤ number_after base n bs
at_least base n [] h = omega arith
at_least base n (b ∷ bs) h = let e = at_least base (base * n + digit_value b) bs h in omega (arith, e, grown base n h)

-- one more digit
turn : (base n i : ℕ) (bs : List ℕ) → i < length bs → number_after base n (drop i bs) ≡ number_after base (base * n + digit_value (get_or bs i 0)) (drop (i + 1) bs)
turn base n i bs h = ap (number_after base n) (drop-cons bs i 0 h) ∙ ap (λ k. number_after base (base * n + digit_value (get_or bs i 0)) (drop k bs)) (sym (add-one i))

-- what the digits so far stand for is no more than what all do
pub no_more : (base n i : ℕ) (bs : List ℕ) → 1 ≤ base → i < length bs → number_after base n (drop i bs) ≡ number_after base 0 bs → base * n + digit_value (get_or bs i 0) ≤ number_after base 0 bs
no_more base n i bs one h e = let k = at_least base (base * n + digit_value (get_or bs i 0)) (drop (i + 1) bs) one in omega (arith, turn base n i bs h, e)
