-- What can be read where a number begins with a digit.
use Rattle.std.proofs.Common.{◌≡◌, ℕ, ◌+◌, ◌<◌, ◌≤◌, inl, inr, Bool, true, false, List, length, Option, Some, None, slice_index, ap, sym, subst, ◌∙◌, ⊎_elim, arith}
use Rattle.std.proofs.lemmas.Bool.{cases_lt, false≢true}
use Rattle.std.proofs.lemmas.Bool.Decides.{nat_tests}
use Rattle.std.specs.Prelude.{MatchOption}
use Rattle.hex.specs.Hex.{is_hex_digit}
use Rattle.cddl_literal.specs.Bytes.{Each, IsRun, is_decimal_digit, is_binary_digit, is_x, is_b}
use Rattle.cddl_literal.specs.Numbers.{IsUint, decimal, hexadecimal, binary}
use Rattle.cddl_token.specs.Bytes.{is_e, is_p, is_sign}
use Rattle.cddl_token.specs.Numbers.{IsPrefix, IsMisspelled, zero_first, bare_hexadecimal, bare_binary, IsExponent, unsigned, signed, IsFloat, fraction, exponent, hex_exponent, hex_fraction}
use Rattle.cddl_token.specs.Shapes.{IsDecimalTail, IsHexFraction, IsHexTail, IsShape, IsLongestShape}
use Rattle.cddl_token.specs.declared.numbers.Shape.{Shape}
use Rattle.cddl_token.specs.declared.numbers.Shape.TheVariants.{Uint, Misspelled, Float}
use Rattle.cddl_token.proofs.EachFacts.{each_within, run_same}

pub x_digit : (b : ℕ) → is_x b ≡ true → is_decimal_digit b ≡ false
x_digit b h = grind (arith, nat_tests)

pub b_digit : (b : ℕ) → is_b b ≡ true → is_decimal_digit b ≡ false
b_digit b h = grind (arith, nat_tests)

pub x_b : (b : ℕ) → is_x b ≡ true → is_b b ≡ true → ⊥
x_b b h k = grind (arith, nat_tests)

pub x_e : (b : ℕ) → is_x b ≡ true → is_e b ≡ true → ⊥
x_e b h k = grind (arith, nat_tests)

pub b_e : (b : ℕ) → is_b b ≡ true → is_e b ≡ true → ⊥
b_e b h k = grind (arith, nat_tests)

pub p_hex : (b : ℕ) → is_p b ≡ true → is_hex_digit b ≡ false
p_hex b h = grind (arith, nat_tests)

pub e_digit : (b : ℕ) → is_e b ≡ true → is_decimal_digit b ≡ false
e_digit b h = grind (arith, nat_tests)

pub marked : {letter : ℕ → Bool} {s : List ℕ} {i j : ℕ} → IsExponent letter s i j → letter (slice_index s i) ≡ true
marked (unsigned l d e) = l
marked (signed l g d e) = l

pub exponent_past : {letter : ℕ → Bool} {s : List ℕ} {i j : ℕ} → IsExponent letter s i j → i < j
exponent_past (unsigned l d e) = omega arith
exponent_past (signed l g d e) = omega arith

sign_digit : (b : ℕ) → is_sign b ≡ true → is_decimal_digit b ≡ true → ⊥
sign_digit b h k = grind (arith, nat_tests)

-- an exponent ends at one offset
exponent_one : {letter : ℕ → Bool} {s : List ℕ} {i j k : ℕ} → IsExponent letter s i j → IsExponent letter s i k → k ≡ j
exponent_one (unsigned l d e) (unsigned l2 d2 e2) = omega arith
exponent_one {s = s} {i} (unsigned l d e) (signed l2 g2 d2 e2) = absurd (sign_digit (slice_index s (i + 1)) g2 d)
exponent_one {s = s} {i} (signed l g d e) (unsigned l2 d2 e2) = absurd (sign_digit (slice_index s (i + 1)) g d2)
exponent_one (signed l g d e) (signed l2 g2 d2 e2) = omega arith

-- after `0x`
module _ (s : List ℕ) (a : ℕ) (prefix : IsPrefix is_x s a) where
  x_short : {m : ℕ} → IsRun is_decimal_digit s a m → m ≤ a + 1
  x_short run = each_within is_decimal_digit s (let le : a ≤ a + 1 = omega arith in le) (x_digit (slice_index s (a + 1)) prefix.1) run.holds

  pub x_one : {m : ℕ} → IsRun is_decimal_digit s a m → m ≡ a + 1
  x_one run = let le = x_short run in let past = run.nonempty in omega arith

  module _ (d : ℕ) (from : a + 2 ≤ d) (each : Each is_hex_digit s (a + 2) d) (stops : is_hex_digit (slice_index s d) ≡ false) where
    hex_uint : {m n : ℕ} → IsUint s a m n → m ≤ d
    hex_uint (decimal run alone e) = let le = x_short run in omega arith
    hex_uint (hexadecimal z x run e) = each_within is_hex_digit s from stops run.holds
    hex_uint (binary z b run e) = absurd (x_b (slice_index s (a + 1)) prefix.1 b)

    hex_misspelled : {m : ℕ} → IsMisspelled s a m → m ≤ d
    hex_misspelled (zero_first run z past) = let le = x_short run in omega arith
    hex_misspelled (bare_hexadecimal p e) = omega arith
    hex_misspelled (bare_binary p e) = omega arith

    hex_float : {m : ℕ} → IsFloat s a m → IsHexTail s d m
    hex_float (fraction {d = k} run dot digit e) = absurd (let same = x_one run in false≢true (sym (ap is_x dot) ∙ ap (λ n. is_x (slice_index s n)) same ∙ prefix.1))
    hex_float (exponent {d = k} run exp) = absurd (let same = x_one run in x_e (slice_index s (a + 1)) prefix.1 (ap (λ n. is_e (slice_index s n)) (sym same) ∙ marked exp))
    hex_float {m} (hex_exponent {d = k} p run exp) =
        let same : k ≡ d = run_same is_hex_digit s from each stops run (p_hex (slice_index s k) (marked exp)) in
        inl (subst (λ n. IsExponent is_p s n m) same exp)
    hex_float {m} (hex_fraction {d = k} {e = e} p run dot more exp) =
        let same : k ≡ d = run_same is_hex_digit s from each stops run (ap is_hex_digit dot) in
        inr (e, ap (λ n. slice_index s n) (sym same) ∙ dot, subst (λ n. IsRun is_hex_digit s (n + 1) e) same more, exp)

hex_fraction_one : (s : List ℕ) (d m n : ℕ) → IsHexFraction s d m → IsHexFraction s d n → n ≡ m
hex_fraction_one s d m n h k =
    let run = h.2 in let past = run.nonempty in
    let same : k.0 ≡ h.0 = run_same is_hex_digit s (let le : d + 1 ≤ h.0 = omega arith in le) run.holds (p_hex (slice_index s h.0) (marked h.3)) k.2 (p_hex (slice_index s k.0) (marked k.3)) in
    exponent_one h.3 (subst (λ i. IsExponent is_p s i n) same k.3)

p_dot : (s : List ℕ) (d m : ℕ) → IsExponent is_p s d m → slice_index s d ≡ 46 → ⊥
p_dot s d m exp dot = false≢true (sym (ap is_p dot) ∙ marked exp)

hex_tail_one : (s : List ℕ) (d m n : ℕ) → IsHexTail s d m → IsHexTail s d n → n ≡ m
hex_tail_one s d m n h k =
    ⊎_elim
    (λ x. ⊎_elim (λ y. exponent_one x y) (λ y. absurd (p_dot s d m x y.1)) k)
    (λ x. ⊎_elim (λ y. absurd (p_dot s d n y x.1)) (λ y. hex_fraction_one s d m n x y) k)
    h

hex_tail_past : (s : List ℕ) (d m : ℕ) → IsHexTail s d m → d < m
hex_tail_past s d m h = ⊎_elim (λ x. exponent_past x) (λ x. let run = x.2 in let some = run.nonempty in let past = exponent_past x.3 in omega arith) h

module _ (s : List ℕ) (a : ℕ) (prefix : IsPrefix is_x s a) (d : ℕ) (some : a + 2 < d) (each : Each is_hex_digit s (a + 2) d) (stops : is_hex_digit (slice_index s d) ≡ false) where
  from : a + 2 ≤ d
  from = omega arith

  hex_run : IsRun is_hex_digit s (a + 2) d
  hex_run = record { nonempty = some; holds = each }

  pub hex_is_float : {m : ℕ} → IsHexTail s d m → IsLongestShape Float s a m
  hex_is_float {m} tail = let past = hex_tail_past s d m tail in record { spelled = ⊎_elim (λ x. hex_exponent prefix hex_run x) (λ x. hex_fraction prefix hex_run x.1 x.2 x.3) tail; longest = longest }
    where
      longest : (q : Shape) (n : ℕ) → IsShape q s a n → n ≤ m
      longest Uint n h = let le = hex_uint s a prefix d from each stops h.1 in let past = hex_tail_past s d m tail in omega arith
      longest Misspelled n h = let le = hex_misspelled s a prefix d from each stops h in let past = hex_tail_past s d m tail in omega arith
      longest Float n h = let same = hex_tail_one s d m n tail (hex_float s a prefix d from each stops h) in omega arith

  pub hex_is_uint : ((m : ℕ) → IsHexTail s d m → ⊥) → {n : ℕ} → IsUint s a d n → IsLongestShape Uint s a d
  hex_is_uint no_tail {n} u = record { spelled = (n, u); longest = longest }
    where
      longest : (q : Shape) (n : ℕ) → IsShape q s a n → n ≤ d
      longest Uint n h = hex_uint s a prefix d from each stops h.1
      longest Misspelled n h = hex_misspelled s a prefix d from each stops h
      longest Float n h = absurd (no_tail n (hex_float s a prefix d from each stops h))

-- after `0b`
module _ (s : List ℕ) (a : ℕ) (prefix : IsPrefix is_b s a) where
  b_short : {m : ℕ} → IsRun is_decimal_digit s a m → m ≤ a + 1
  b_short run = each_within is_decimal_digit s (let le : a ≤ a + 1 = omega arith in le) (b_digit (slice_index s (a + 1)) prefix.1) run.holds

  b_one : {m : ℕ} → IsRun is_decimal_digit s a m → m ≡ a + 1
  b_one run = let le = b_short run in let past = run.nonempty in omega arith

  pub no_float : {m : ℕ} → IsFloat s a m → ⊥
  no_float (fraction {d = k} run dot digit e) = let same = b_one run in false≢true (sym (ap is_b dot) ∙ ap (λ n. is_b (slice_index s n)) same ∙ prefix.1)
  no_float (exponent {d = k} run exp) = let same = b_one run in b_e (slice_index s (a + 1)) prefix.1 (ap (λ n. is_e (slice_index s n)) (sym same) ∙ marked exp)
  no_float (hex_exponent p run exp) = x_b (slice_index s (a + 1)) p.1 prefix.1
  no_float (hex_fraction p run dot more exp) = x_b (slice_index s (a + 1)) p.1 prefix.1

  binary_misspelled : {m : ℕ} → IsMisspelled s a m → m ≤ a + 2
  binary_misspelled (zero_first run z past) = let le = b_short run in omega arith
  binary_misspelled (bare_hexadecimal p e) = omega arith
  binary_misspelled (bare_binary p e) = omega arith

  module _ (d : ℕ) (from : a + 2 ≤ d) (stops : is_binary_digit (slice_index s d) ≡ false) where
    binary_uint : {m n : ℕ} → IsUint s a m n → m ≤ d
    binary_uint (decimal run alone e) = let le = b_short run in omega arith
    binary_uint (hexadecimal z x run e) = absurd (x_b (slice_index s (a + 1)) x prefix.1)
    binary_uint (binary z b run e) = each_within is_binary_digit s from stops run.holds

    pub binary_is_uint : {n : ℕ} → IsUint s a d n → IsLongestShape Uint s a d
    binary_is_uint {n} u = record { spelled = (n, u); longest = longest }
      where
        longest : (q : Shape) (n : ℕ) → IsShape q s a n → n ≤ d
        longest Uint n h = binary_uint h.1
        longest Misspelled n h = let le = binary_misspelled h in omega arith
        longest Float n h = absurd (no_float h)

-- digits with no such prefix
module _ (s : List ℕ) (a : ℕ) (no_hex : IsPrefix is_x s a → ⊥) (no_binary : IsPrefix is_b s a → ⊥) (d : ℕ) (some : a < d) (each : Each is_decimal_digit s a d) (stops : is_decimal_digit (slice_index s d) ≡ false) where
  decimal_uint : {m n : ℕ} → IsUint s a m n → m ≤ d
  decimal_uint (decimal run alone e) = each_within is_decimal_digit s (let le : a ≤ d = omega arith in le) stops run.holds
  decimal_uint (hexadecimal z x run e) = absurd (no_hex (z, x))
  decimal_uint (binary z b run e) = absurd (no_binary (z, b))

  decimal_misspelled : {m : ℕ} → IsMisspelled s a m → m ≤ d
  decimal_misspelled (zero_first run z past) = each_within is_decimal_digit s (let le : a ≤ d = omega arith in le) stops run.holds
  decimal_misspelled (bare_hexadecimal p e) = absurd (no_hex p)
  decimal_misspelled (bare_binary p e) = absurd (no_binary p)

  decimal_float : {m : ℕ} → IsFloat s a m → IsDecimalTail s d m
  decimal_float {m} (fraction {d = k} run dot digit e) =
      let same : k ≡ d = run_same is_decimal_digit s (let le : a ≤ d = omega arith in le) each stops run (ap is_decimal_digit dot) in
      inr (ap (λ n. slice_index s n) (sym same) ∙ dot, ap (λ n. is_decimal_digit (slice_index s (n + 1))) (sym same) ∙ digit, omega arith)
  decimal_float {m} (exponent {d = k} run exp) =
      let same : k ≡ d = run_same is_decimal_digit s (let le : a ≤ d = omega arith in le) each stops run (e_digit (slice_index s k) (marked exp)) in
      inl (subst (λ n. IsExponent is_e s n m) same exp)
  decimal_float (hex_exponent p run exp) = absurd (no_hex p)
  decimal_float (hex_fraction p run dot more exp) = absurd (no_hex p)

  decimal_run : IsRun is_decimal_digit s a d
  decimal_run = record { nonempty = some; holds = each }

  pub decimal_is_float : {m : ℕ} → IsDecimalTail s d m → IsLongestShape Float s a m
  decimal_is_float {m} tail = record { spelled = ⊎_elim (λ x. exponent decimal_run x) (λ x. fraction decimal_run x.0 x.1 x.2) tail; longest = longest }
    where
      past : d < m
      past = ⊎_elim (λ x. exponent_past x) (λ x. omega (arith, x.2)) tail

      one : {n : ℕ} → IsDecimalTail s d n → n ≡ m
      one more =
          ⊎_elim
          (λ x. ⊎_elim (λ y. exponent_one x y) (λ y. absurd (false≢true (sym (ap is_e y.0) ∙ marked x))) more)
          (λ x. ⊎_elim (λ y. absurd (false≢true (sym (ap is_e x.0) ∙ marked y))) (λ y. omega (arith, x.2, y.2)) more)
          tail

      longest : (q : Shape) (n : ℕ) → IsShape q s a n → n ≤ m
      longest Uint n h = let le = decimal_uint h.1 in let lt = past in omega arith
      longest Misspelled n h = let le = decimal_misspelled h in let lt = past in omega arith
      longest Float n h = let same = one (decimal_float h) in omega arith

  module _ (no_tail : (m : ℕ) → IsDecimalTail s d m → ⊥) where
    decimal_longest : (q : Shape) (n : ℕ) → IsShape q s a n → n ≤ d
    decimal_longest Uint n h = decimal_uint h.1
    decimal_longest Misspelled n h = decimal_misspelled h
    decimal_longest Float n h = absurd (no_tail n (decimal_float h))

    pub decimal_is_uint : {n : ℕ} → IsUint s a d n → IsLongestShape Uint s a d
    decimal_is_uint {n} u = record { spelled = (n, u); longest = decimal_longest }

    pub decimal_is_misspelled : slice_index s a ≡ 48 → a + 1 < d → IsLongestShape Misspelled s a d
    decimal_is_misspelled zero longer = record { spelled = zero_first decimal_run zero longer; longest = decimal_longest }

-- where a digit is, the digits end after it
pub past_first : (s : List ℕ) (a d : ℕ) → a ≤ d → is_decimal_digit (slice_index s a) ≡ true → is_decimal_digit (slice_index s d) ≡ false → a < d
past_first s a d from digit stops = ⊎_elim (λ lt. lt) (λ ge. let same : d ≡ a = omega arith in absurd (false≢true (sym stops ∙ ap (λ n. is_decimal_digit (slice_index s n)) same ∙ digit))) (cases_lt a d)

-- an exponent, else what the fraction's function found
pub decimal_tail_from : (s : List ℕ) (d : ℕ) (r : Option ℕ) → ((m : ℕ) → IsExponent is_e s d m → ⊥) → MatchOption r (slice_index s d ≡ 46 → is_decimal_digit (slice_index s (d + 1)) ≡ true → ⊥) (λ e. (slice_index s d ≡ 46) × (is_decimal_digit (slice_index s (d + 1)) ≡ true) × (e ≡ d + 2) × (e ≤ length s)) → MatchOption r ((m : ℕ) → IsDecimalTail s d m → ⊥) (λ e. IsDecimalTail s d e × (e ≤ length s))
decimal_tail_from s d None no_exponent none = λ m tail. ⊎_elim (λ x. no_exponent m x) (λ x. none x.0 x.1) tail
decimal_tail_from s d (Some e) no_exponent some = (inr (some.0, some.1, some.2), some.3)

pub hex_tail_from : (s : List ℕ) (d : ℕ) (r : Option ℕ) → ((m : ℕ) → IsExponent is_p s d m → ⊥) → MatchOption r ((m : ℕ) → IsHexFraction s d m → ⊥) (λ e. IsHexFraction s d e × (e ≤ length s)) → MatchOption r ((m : ℕ) → IsHexTail s d m → ⊥) (λ e. IsHexTail s d e × (e ≤ length s))
hex_tail_from s d None no_exponent none = λ m tail. ⊎_elim (λ x. no_exponent m x) (λ x. none m x) tail
hex_tail_from s d (Some e) no_exponent some = (inr some.0, some.1)

-- hex digits after a `.`, and the exponent after them
pub hex_fraction_from : (s : List ℕ) (d e : ℕ) (r : Option ℕ) → d + 1 < e → Each is_hex_digit s (d + 1) e → is_hex_digit (slice_index s e) ≡ false → slice_index s d ≡ 46 → MatchOption r ((m : ℕ) → IsExponent is_p s e m → ⊥) (λ j. IsExponent is_p s e j × (j ≤ length s)) → MatchOption r ((m : ℕ) → IsHexFraction s d m → ⊥) (λ j. IsHexFraction s d j × (j ≤ length s))
hex_fraction_from s d e None some each stops dot none = λ m h.
    let same : h.0 ≡ e = run_same is_hex_digit s (let le : d + 1 ≤ e = omega arith in le) each stops h.2 (p_hex (slice_index s h.0) (marked h.3)) in
    none m (subst (λ n. IsExponent is_p s n m) same h.3)
hex_fraction_from s d e (Some j) some each stops dot found = ((e, dot, record { nonempty = some; holds = each }, found.0), found.1)

pub zero_run : (s : List ℕ) (a : ℕ) → slice_index s a ≡ 48 → IsRun is_decimal_digit s a (a + 1)
zero_run s a zero = record { nonempty = omega arith; holds = λ i low high. let same : i ≡ a = omega arith in ap (λ n. is_decimal_digit (slice_index s n)) same ∙ ap is_decimal_digit zero }
