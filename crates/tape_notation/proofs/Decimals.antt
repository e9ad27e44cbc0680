-- The digits of a number, by twos, by fours and by eights.
use Rattle.std.proofs.Common.{◌≡◌, ℕ, ◌+◌, ◌/◌, ◌%◌, ◌^◌, ◌<◌, ◌≤◌, List, [], ◌∷◌, ◌++◌, length, drop, decimal, ap, ap₂, sym, ◌∙◌, arith, append_assoc}
use Rattle.std.proofs.Math.ListN.{set}
use Rattle.std.proofs.lemmas.Fmt.{decimal_digit, decimal_step_wide}
use Rattle.std.proofs.lemmas.List.{drop-set-lt}
use Rattle.tape_notation.specs.Put.{IsPut, four_digits, two_digits}
use Rattle.tape_notation.proofs.Puts.{more_put, room_for, room_front, room_left, same_put}

pub just_two : (n : ℕ) → 10 ≤ n → n < 100 → decimal n ≡ two_digits n
just_two n low high = decimal_step_wide n low (omega arith) ∙ ap (λ (xs : List ℕ). xs ++ (48 + n % 10) ∷ []) (decimal_digit (n / 10) (omega arith))

pub last_two : (n : ℕ) → 100 ≤ n → n < 10 ^ 64 → decimal n ≡ decimal (n / 100) ++ two_digits (n % 100)
last_two n low high =
    let a : n / 10 / 10 ≡ n / 100 = omega arith in
    let b : n / 10 % 10 ≡ n % 100 / 10 = omega arith in
    let c : n % 10 ≡ n % 100 % 10 = omega arith in
    rw (decimal_step_wide n (omega arith) high, decimal_step_wide (n / 10) (omega arith) (omega arith), append_assoc, a, b, ← c)

pub last_four : (n : ℕ) → 10000 ≤ n → n < 10 ^ 64 → decimal n ≡ decimal (n / 10000) ++ four_digits (n % 10000)
last_four n low high =
    let a : n / 100 / 100 ≡ n / 10000 = omega arith in
    let b : n / 100 % 100 ≡ n % 10000 / 100 = omega arith in
    let c : n % 100 ≡ n % 10000 % 100 = omega arith in
    let first : decimal (n / 100) ≡ decimal (n / 10000) ++ two_digits (n % 10000 / 100) = last_two (n / 100) (omega arith) (omega arith) ∙ ap₂ (λ (i j : ℕ). decimal i ++ two_digits j) a b in
    last_two n (omega arith) high ∙ (ap₂ (λ (xs : List ℕ) (j : ℕ). xs ++ two_digits j) first c ∙ append_assoc (decimal (n / 10000)) (two_digits (n % 10000 / 100)) (two_digits (n % 10000 % 100)))

pub last_eight : (n : ℕ) → 100000000 ≤ n → n < 10 ^ 64 → decimal n ≡ decimal (n / 100000000) ++ (four_digits (n % 100000000 / 10000) ++ four_digits (n % 100000000 % 10000))
last_eight n low high =
    let a : n / 10000 / 10000 ≡ n / 100000000 = omega arith in
    let b : n / 10000 % 10000 ≡ n % 100000000 / 10000 = omega arith in
    let c : n % 10000 ≡ n % 100000000 % 10000 = omega arith in
    let first : decimal (n / 10000) ≡ decimal (n / 100000000) ++ four_digits (n % 100000000 / 10000) = last_four (n / 10000) (omega arith) (omega arith) ∙ ap₂ (λ (i j : ℕ). decimal i ++ four_digits j) a b in
    last_four n (omega arith) high ∙ (ap₂ (λ (xs : List ℕ) (j : ℕ). xs ++ four_digits j) first c ∙ append_assoc (decimal (n / 100000000)) (four_digits (n % 100000000 / 10000)) (four_digits (n % 100000000 % 10000)))

-- what is after two bytes that are written is as it was
pub after_two : (xs : List ℕ) (at x y : ℕ) → drop (at + 2) (set (set xs at x) (at + 1) y) ≡ drop (at + 2) xs
after_two xs at x y = drop-set-lt (at + 2) (set xs at x) (at + 1) y (omega arith) ∙ drop-set-lt (at + 2) xs at x (omega arith)

-- where there is room for a number, there is for the digits in front, and then for those after them
pub front_fits : (at len n : ℕ) (s t : List ℕ) → decimal n ≡ s ++ t → at + length (decimal n) ≤ len → at + length s ≤ len
front_fits at len n s t is room = room_front at len s t (room_for at len (decimal n) (s ++ t) is room)

pub rest_fits : {old new : List ℕ} {at end : ℕ} (n : ℕ) (s t : List ℕ) → decimal n ≡ s ++ t → at + length (decimal n) ≤ length old → IsPut old new at s end → end + length t ≤ length new
rest_fits {old} {new} {at} {end} n s t is room put = room_left s t (room_for at (length old) (decimal n) (s ++ t) is room) put

pub both_put : {old mid new : List ℕ} {at middle end : ℕ} (n : ℕ) (s t : List ℕ) → decimal n ≡ s ++ t → IsPut old mid at s middle → IsPut mid new middle t end → IsPut old new at (decimal n) end
both_put {old} {mid} {new} {at} {middle} {end} n s t is h k = same_put (s ++ t) (decimal n) (sym is) (more_put old mid new at middle end s t h k)
