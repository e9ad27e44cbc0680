-- The number of a float.
use Rattle.std.proofs.Common.{◌≡◌, refl, sym, ap, subst, ◌∙◌, ℕ, ◌+◌, ◌-◌, ◌*◌, ◌/◌, ◌%◌, ◌^◌, ◌<◌, ◌≤◌, List, [], ◌∷◌, ◌++◌, length, codes, decimal, mod-lt, arith}
use Rattle.std.specs.Float.{Format}
use Rattle.std.specs.Str.Parse.{AllDigits, digits_value}
use Rattle.std.specs.Char.{digit_value}
use Rattle.std.proofs.lemmas.Int.Digits.{digits_push, digits_value_push}
use Rattle.std.proofs.lemmas.List.{length-append}
use Rattle.std.proofs.lemmas.Nat.{div-add-mod', pow-add, pow_pos}
use Rattle.std.proofs.lemmas.Str.{digit_value_digit}
use Rattle.std.proofs.Math.Nat.{add-mul, mul_assoc, div-lt_iff_lt-mul}
use Rattle.mismatch_words.specs.Floats.{AreFraction, IsHalf, ReadsBack, finite, half_sign, half_size, infinite, no_half, no_number}

pub no_number_said : (f : Format) (size infinity bits : ℕ) (words : List ℕ) → infinity < size → words ≡ codes "NaN" → ReadsBack f size infinity bits words
no_number_said f size infinity bits words above e = subst (λ w. ReadsBack f size infinity bits w) (sym e) (no_number above)

-- So many digits are the first after the point, and so many times 2 ^ -(24 - k) are left of the last one's place.
pub record AreFirst (rest left k : ℕ) (digits : List ℕ) : Type 0 where
  pub bound : k ≤ 24
  pub count : length digits ≡ k
  pub all : AllDigits 10 digits
  pub value : digits_value 10 digits * 2 ^ 24 + left * 2 ^ k ≡ rest * 10 ^ k
  pub small : left < 2 ^ (24 - k)

digit : (d : ℕ) → d < 10 → digit_value (48 + d) ≡ d
digit d h = let e = digit_value_digit (48 + d) (omega arith, omega arith) in omega (arith, e)

-- what a digit and what is left behind it come to
parted : (left k : ℕ) → k < 24 → 5 * left * 2 ^ k ≡ 5 * left / 2 ^ (23 - k) * 2 ^ 23 + 5 * left % 2 ^ (23 - k) * 2 ^ k
parted left k h =
    let d = 5 * left / 2 ^ (23 - k) in
    let r = 5 * left % 2 ^ (23 - k) in
    let whole : d * 2 ^ (23 - k) + r ≡ 5 * left = div-add-mod' (5 * left) (2 ^ (23 - k)) in
    let all : 23 - k + k ≡ 23 = omega arith in
    let unit : 2 ^ (23 - k) * 2 ^ k ≡ 2 ^ 23 = sym (pow-add 2 (23 - k) k) ∙ ap (λ n. 2 ^ n) all in
    ap (λ n. n * 2 ^ k) (sym whole) ∙ add-mul (d * 2 ^ (23 - k)) r (2 ^ k) ∙ ap (λ n. n + r * 2 ^ k) ((mul_assoc d (2 ^ (23 - k)) (2 ^ k) ∙ ap (λ n. d * n) unit))

pub is_digit : (left k : ℕ) → k < 24 → left < 2 ^ (24 - k) → 5 * left / 2 ^ (23 - k) < 10
is_digit left k h small =
    let more : 24 - k ≡ 23 - k + 1 = omega arith in
    let twice : 2 ^ (24 - k) ≡ 2 ^ (23 - k) * 2 = ap (λ n. 2 ^ n) more ∙ pow-add 2 (23 - k) 1 in
    (div-lt_iff_lt-mul (pow_pos (23 - k))).1 (omega (arith, twice, small))

pub first : (rest : ℕ) → rest < 2 ^ 24 → AreFirst rest rest 0 []
first rest h = record { bound = omega arith; count = refl; all = _; value = omega arith; small = h }

pub next : (rest left k : ℕ) (digits : List ℕ) → k < 24 → AreFirst rest left k digits → AreFirst rest (5 * left % 2 ^ (23 - k)) (k + 1) (digits ++ (48 + 5 * left / 2 ^ (23 - k)) ∷ [])
next rest left k digits h f =
    let d = 5 * left / 2 ^ (23 - k) in
    let r = 5 * left % 2 ^ (23 - k) in
    let below = is_digit left k h f.small in
    let is = digit d below in
    let two : 2 ^ (k + 1) ≡ 2 ^ k * 2 = pow-add 2 k 1 in
    let ten : 10 ^ (k + 1) ≡ 10 ^ k * 10 = pow-add 10 k 1 in
    record {
      bound = omega arith;
      count = length-append digits _ ∙ ap (λ n. n + 1) f.count;
      all = digits_push 10 digits (48 + d) f.all (subst (λ n. n < 10) (sym is) below);
      value =
          let pushed : digits_value 10 (digits ++ (48 + d) ∷ []) ≡ digits_value 10 digits * 10 + d = digits_value_push 10 digits (48 + d) ∙ ap (λ n. digits_value 10 digits * 10 + n) is in
          let last = ap (λ n. r * n) two ∙ sym (mul_assoc r (2 ^ k) 2) in
          let more = ap (λ n. rest * n) ten ∙ sym (mul_assoc rest (10 ^ k) 10) in
          let before = sym (mul_assoc 5 left (2 ^ k)) ∙ parted left k h in
          omega (arith, pushed, last, more, before, f.value);
      small = let same : 23 - k ≡ 24 - (k + 1) = omega arith in subst (λ n. r < 2 ^ n) same (mod-lt (5 * left) (pow_pos (23 - k)));
    }

pub ended : (rest k : ℕ) (digits : List ℕ) → 0 < k → AreFirst rest 0 k digits → AreFraction rest digits
ended rest k digits some f =
    record {
      some = subst (λ n. 0 < n) (sym f.count) some;
      all = f.all;
      value = subst (λ n. digits_value 10 digits * 2 ^ 24 ≡ rest * 10 ^ n) (sym f.count) (omega (arith, f.value));
    }

pub stepped : (rest left k unit : ℕ) (digits more : List ℕ) → unit ≡ 2 ^ (23 - k) → k < 24 → AreFirst rest left k digits → more ≡ digits ++ (48 + 5 * left / unit) ∷ [] → AreFirst rest (5 * left % unit) (k + 1) more
stepped rest left k unit digits more is h f e =
    subst (λ ds. AreFirst rest (5 * left % unit) (k + 1) ds) (sym e)
    (subst (λ u. AreFirst rest (5 * left % u) (k + 1) (digits ++ (48 + 5 * left / u) ∷ [])) (sym is) (next rest left k digits h f))

pub below_ten : (left k unit : ℕ) → unit ≡ 2 ^ (23 - k) → k < 24 → left < 2 ^ (24 - k) → 5 * left / unit < 10
below_ten left k unit is h small = subst (λ u. 5 * left / u < 10) (sym is) (is_digit left k h small)

pub all_digits : (rest left k : ℕ) (digits : List ℕ) → left ≡ 0 → AreFirst rest left (k + 1) digits → AreFraction rest digits
all_digits rest left k digits e f = ended rest (k + 1) digits (omega arith) (subst (λ n. AreFirst rest n (k + 1) digits) e f)

pub none_left : (rest left k : ℕ) (digits : List ℕ) → 24 ≤ k → AreFirst rest left k digits → AreFraction rest digits
none_left rest left k digits h f =
    let end : k ≡ 24 = omega (arith, f.bound) in
    let least : left < 2 ^ (24 - 24) = subst (λ n. left < 2 ^ (24 - n)) end f.small in
    let none : left ≡ 0 = omega (arith, least) in
    ended rest k digits (omega arith) (subst (λ n. AreFirst rest n k digits) none f)

pub no_half_said : (bits : ℕ) (words : List ℕ) → 31744 < bits % 2 ^ 15 → words ≡ codes "NaN" → IsHalf bits words
no_half_said bits words h e = subst (λ w. IsHalf bits w) (sym e) (no_half h)

pub infinite_said : (bits : ℕ) (words : List ℕ) → bits % 2 ^ 15 ≡ 31744 → words ≡ half_sign bits ++ codes "inf" → IsHalf bits words
infinite_said bits words h e = subst (λ w. IsHalf bits w) (sym e) (infinite h)

pub finite_said : (bits : ℕ) (words fraction : List ℕ) → bits % 2 ^ 15 < 31744 → AreFraction (half_size (bits % 2 ^ 15) % 2 ^ 24) fraction
    → words ≡ half_sign bits ++ (decimal (half_size (bits % 2 ^ 15) / 2 ^ 24) ++ (codes "." ++ fraction)) → IsHalf bits words
finite_said bits words fraction h f e = subst (λ w. IsHalf bits w) (sym e) (finite h fraction f)
