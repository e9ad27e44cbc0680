-- Bytes that spell a number spell it in one way.
use Rattle.std.proofs.Common.{◌≡◌, ℕ, ◌+◌, ◌<◌, ◌≤◌, ◌⊎◌, inl, inr, Bool, true, false, List, slice_index, ap, sym, refl, ◌∙◌, ⊎_elim, arith}
use Rattle.std.proofs.lemmas.Bool.{cases_lt, false≢true}
use Rattle.hex.specs.Hex.{is_hex_digit}
use Rattle.cddl_literal.specs.Bytes.{IsRun, is_decimal_digit, is_binary_digit, is_x, is_b}
use Rattle.cddl_literal.specs.Numbers.{IsUint, decimal, hexadecimal, binary, IsSigned}
use Rattle.cddl_token.proofs.BeginFacts.{uint_digit, misspelled_digit, float_digit}
use Rattle.cddl_token.specs.Bytes.{is_e, is_p, is_sign}
use Rattle.cddl_token.specs.Numbers.{IsPrefix, IsMisspelled, zero_first, bare_hexadecimal, bare_binary, IsExponent, unsigned, signed, IsFloat, fraction, exponent, hex_exponent, hex_fraction}
use Rattle.cddl_token.specs.Shapes.{IsShape}
use Rattle.cddl_token.specs.declared.numbers.Shape.{Shape}
use Rattle.cddl_token.specs.declared.numbers.Shape.TheVariants.{Uint, Misspelled, Float}
use Rattle.cddl_token.proofs.ShapeFacts.{marked, exponent_past, x_one, x_digit, b_digit, x_b, x_e, p_hex, e_digit, no_float}

module _ (s : List ℕ) where
  -- no byte of it is c, if it is neither `-`, `.` nor `+`, nor of a number in any radix
  module _ (c : ℕ) (no_digit : is_decimal_digit c ≡ false) (no_hex : is_hex_digit c ≡ false) (no_binary : is_binary_digit c ≡ false) (no_x : is_x c ≡ false) (no_b : is_b c ≡ false) (no_e : is_e c ≡ false) (no_p : is_p c ≡ false) (no_sign : is_sign c ≡ false) (no_dot : c ≡ 46 → ⊥) (no_zero : c ≡ 48 → ⊥) where
    not_at : (passes : ℕ → Bool) (i j : ℕ) → passes c ≡ false → passes (slice_index s i) ≡ true → j ≡ i → slice_index s j ≡ c → ⊥
    not_at passes i j other here same e = false≢true (sym other ∙ ap passes (sym e) ∙ ap (λ n. passes (slice_index s n)) same ∙ here)

    is_not : (x i j : ℕ) → (c ≡ x → ⊥) → slice_index s i ≡ x → j ≡ i → slice_index s j ≡ c → ⊥
    is_not x i j other here same e = other (sym e ∙ ap (λ n. slice_index s n) same ∙ here)

    not_in : (passes : ℕ → Bool) {a b : ℕ} → passes c ≡ false → IsRun passes s a b → (i : ℕ) → a ≤ i → i < b → slice_index s i ≡ c → ⊥
    not_in passes other run i low high e = false≢true (sym other ∙ ap passes (sym e) ∙ run.holds i low high)

    not_in_prefix : (letter : ℕ → Bool) {a : ℕ} → letter c ≡ false → IsPrefix letter s a → (i : ℕ) → a ≤ i → i < a + 2 → slice_index s i ≡ c → ⊥
    not_in_prefix letter {a} other p i low high e = ⊎_elim (λ lt. is_not 48 a i no_zero p.0 (omega arith) e) (λ ge. not_at letter (a + 1) i other p.1 (omega arith) e) (cases_lt i (a + 1))

    not_in_exponent : (letter : ℕ → Bool) {a b : ℕ} → letter c ≡ false → IsExponent letter s a b → (i : ℕ) → a ≤ i → i < b → slice_index s i ≡ c → ⊥
    not_in_exponent letter {a} other (unsigned l d f) i low high e = ⊎_elim (λ lt. not_at letter a i other l (omega arith) e) (λ ge. not_at is_decimal_digit (a + 1) i no_digit d (omega arith) e) (cases_lt i (a + 1))
    not_in_exponent letter {a} other (signed l g d f) i low high e = ⊎_elim (λ lt. not_at letter a i other l (omega arith) e) (λ ge. ⊎_elim (λ lt. not_at is_sign (a + 1) i no_sign g (omega arith) e) (λ past. not_at is_decimal_digit (a + 2) i no_digit d (omega arith) e) (cases_lt i (a + 2))) (cases_lt i (a + 1))

    pub not_in_uint : {a b n : ℕ} → IsUint s a b n → (i : ℕ) → a ≤ i → i < b → slice_index s i ≡ c → ⊥
    not_in_uint (decimal run alone f) i low high e = not_in is_decimal_digit no_digit run i low high e
    not_in_uint {a} (hexadecimal z x run f) i low high e = ⊎_elim (λ lt. not_in_prefix is_x no_x (z, x) i low lt e) (λ ge. not_in is_hex_digit no_hex run i ge high e) (cases_lt i (a + 2))
    not_in_uint {a} (binary z b run f) i low high e = ⊎_elim (λ lt. not_in_prefix is_b no_b (z, b) i low lt e) (λ ge. not_in is_binary_digit no_binary run i ge high e) (cases_lt i (a + 2))

    not_in_misspelled : {a b : ℕ} → IsMisspelled s a b → (i : ℕ) → a ≤ i → i < b → slice_index s i ≡ c → ⊥
    not_in_misspelled (zero_first run z past) i low high e = not_in is_decimal_digit no_digit run i low high e
    not_in_misspelled (bare_hexadecimal p f) i low high e = not_in_prefix is_x no_x p i low (omega arith) e
    not_in_misspelled (bare_binary p f) i low high e = not_in_prefix is_b no_b p i low (omega arith) e

    not_in_float : {a b : ℕ} → IsFloat s a b → (i : ℕ) → a ≤ i → i < b → slice_index s i ≡ c → ⊥
    not_in_float (fraction {d = d} run dot digit f) i low high e = ⊎_elim (λ lt. not_in is_decimal_digit no_digit run i low lt e) (λ ge. ⊎_elim (λ lt. is_not 46 d i no_dot dot (omega arith) e) (λ past. not_at is_decimal_digit (d + 1) i no_digit digit (omega arith) e) (cases_lt i (d + 1))) (cases_lt i d)
    not_in_float (exponent {d = d} run exp) i low high e = ⊎_elim (λ lt. not_in is_decimal_digit no_digit run i low lt e) (λ ge. not_in_exponent is_e no_e exp i ge high e) (cases_lt i d)
    not_in_float {a} (hex_exponent {d = d} p run exp) i low high e = ⊎_elim (λ lt. not_in_prefix is_x no_x p i low lt e) (λ ge. ⊎_elim (λ lt. not_in is_hex_digit no_hex run i ge lt e) (λ past. not_in_exponent is_p no_p exp i past high e) (cases_lt i d)) (cases_lt i (a + 2))
    not_in_float {a} (hex_fraction {d = d} {e = g} p run dot more exp) i low high e =
        ⊎_elim (λ lt. not_in_prefix is_x no_x p i low lt e) (λ ge. ⊎_elim (λ lt. not_in is_hex_digit no_hex run i ge lt e) (λ past. ⊎_elim (λ lt. is_not 46 d i no_dot dot (omega arith) e) (λ beyond. ⊎_elim (λ lt. not_in is_hex_digit no_hex more i beyond lt e) (λ far. not_in_exponent is_p no_p exp i far high e) (cases_lt i g)) (cases_lt i (d + 1))) (cases_lt i d)) (cases_lt i (a + 2))

    pub not_in_shape : (q : Shape) {a b : ℕ} → IsShape q s a b → (i : ℕ) → a ≤ i → i < b → slice_index s i ≡ c → ⊥
    not_in_shape Uint h i low high e = not_in_uint h.1 i low high e
    not_in_shape Misspelled h i low high e = not_in_misspelled h i low high e
    not_in_shape Float h i low high e = not_in_float h i low high e

  -- no `*` in a number
  pub no_star : (q : Shape) {a b : ℕ} → IsShape q s a b → (i : ℕ) → a ≤ i → i < b → slice_index s i ≡ 42 → ⊥
  no_star q h i low high e = not_in_shape 42 refl refl refl refl refl refl refl refl (λ e. omega arith) (λ e. omega arith) q h i low high e

  -- a decimal that reaches past its first byte has no letter after it
  decimal_no_x : {a b : ℕ} → IsRun is_decimal_digit s a b → a + 1 < b → is_x (slice_index s (a + 1)) ≡ true → ⊥
  decimal_no_x {a} run past x = false≢true (sym (x_digit (slice_index s (a + 1)) x) ∙ run.holds (a + 1) (omega arith) past)

  decimal_no_b : {a b : ℕ} → IsRun is_decimal_digit s a b → a + 1 < b → is_b (slice_index s (a + 1)) ≡ true → ⊥
  decimal_no_b {a} run past b = false≢true (sym (b_digit (slice_index s (a + 1)) b) ∙ run.holds (a + 1) (omega arith) past)

  pub uint_no_misspelled : {a b n : ℕ} → IsUint s a b n → IsMisspelled s a b → ⊥
  uint_no_misspelled (decimal run alone f) (zero_first more z past) = let same = alone z in omega arith
  uint_no_misspelled (decimal run alone f) (bare_hexadecimal p e) = decimal_no_x run (omega arith) p.1
  uint_no_misspelled (decimal run alone f) (bare_binary p e) = decimal_no_b run (omega arith) p.1
  uint_no_misspelled (hexadecimal z x run f) (zero_first more z2 past) = decimal_no_x more past x
  uint_no_misspelled (hexadecimal z x run f) (bare_hexadecimal p e) = let some = run.nonempty in omega arith
  uint_no_misspelled (hexadecimal z x run f) (bare_binary p e) = let some = run.nonempty in omega arith
  uint_no_misspelled (binary z b run f) (zero_first more z2 past) = decimal_no_b more past b
  uint_no_misspelled (binary z b run f) (bare_hexadecimal p e) = let some = run.nonempty in omega arith
  uint_no_misspelled (binary z b run f) (bare_binary p e) = let some = run.nonempty in omega arith

  -- only digits from a to b, so no float
  digits_no_float : {a b : ℕ} → IsRun is_decimal_digit s a b → IsFloat s a b → ⊥
  digits_no_float run (fraction {d = d} more dot digit e) = let some = more.nonempty in false≢true (ap is_decimal_digit (sym dot) ∙ run.holds d (omega arith) (omega arith))
  digits_no_float run (exponent {d = d} more exp) = let some = more.nonempty in let past = exponent_past exp in false≢true (sym (e_digit (slice_index s d) (marked exp)) ∙ run.holds d (omega arith) past)
  digits_no_float run (hex_exponent p more exp) = let some = more.nonempty in let past = exponent_past exp in decimal_no_x run (omega arith) p.1
  digits_no_float run (hex_fraction p more dot last exp) = let some = more.nonempty in let rest = last.nonempty in let past = exponent_past exp in decimal_no_x run (omega arith) p.1

  -- after `0x` no decimal float
  x_fraction : {a d : ℕ} → IsPrefix is_x s a → IsRun is_decimal_digit s a d → slice_index s d ≡ 46 → ⊥
  x_fraction {a} p run dot = let same = x_one s a p run in false≢true (sym (ap is_x dot) ∙ ap (λ n. is_x (slice_index s n)) same ∙ p.1)

  x_exponent : {a d b : ℕ} → IsPrefix is_x s a → IsRun is_decimal_digit s a d → IsExponent is_e s d b → ⊥
  x_exponent {a} p run exp = let same = x_one s a p run in x_e (slice_index s (a + 1)) p.1 (ap (λ n. is_e (slice_index s n)) (sym same) ∙ marked exp)

  pub uint_no_float : {a b n : ℕ} → IsUint s a b n → IsFloat s a b → ⊥
  uint_no_float (decimal run alone f) h = digits_no_float run h
  uint_no_float (hexadecimal z x run f) (fraction more dot digit e) = x_fraction (z, x) more dot
  uint_no_float (hexadecimal z x run f) (exponent more exp) = x_exponent (z, x) more exp
  uint_no_float (hexadecimal z x run f) (hex_exponent {d = d} p more exp) = let some = more.nonempty in let past = exponent_past exp in false≢true (sym (p_hex (slice_index s d) (marked exp)) ∙ run.holds d (omega arith) past)
  uint_no_float (hexadecimal z x run f) (hex_fraction {d = d} p more dot last exp) = let some = more.nonempty in let rest = last.nonempty in let past = exponent_past exp in false≢true (ap is_hex_digit (sym dot) ∙ run.holds d (omega arith) (omega arith))
  uint_no_float {a} (binary z b run f) h = no_float s a (z, b) h

  pub misspelled_no_float : {a b : ℕ} → IsMisspelled s a b → IsFloat s a b → ⊥
  misspelled_no_float (zero_first run z past) h = digits_no_float run h
  misspelled_no_float (bare_hexadecimal p f) (fraction more dot digit e) = x_fraction p more dot
  misspelled_no_float (bare_hexadecimal p f) (exponent more exp) = x_exponent p more exp
  misspelled_no_float (bare_hexadecimal p f) (hex_exponent q more exp) = let some = more.nonempty in let past = exponent_past exp in omega arith
  misspelled_no_float (bare_hexadecimal p f) (hex_fraction q more dot last exp) = let some = more.nonempty in let rest = last.nonempty in let past = exponent_past exp in omega arith
  misspelled_no_float {a} (bare_binary p f) h = no_float s a p h

  -- a uint is one number
  pub uint_same : {a b n m : ℕ} → IsUint s a b n → IsUint s a b m → m ≡ n
  uint_same (decimal run alone e) (decimal run2 alone2 e2) = e2 ∙ sym e
  uint_same (decimal run alone e) (hexadecimal z x run2 e2) = absurd (decimal_no_x run (let some = run2.nonempty in omega arith) x)
  uint_same (decimal run alone e) (binary z b run2 e2) = absurd (decimal_no_b run (let some = run2.nonempty in omega arith) b)
  uint_same (hexadecimal z x run e) (decimal run2 alone2 e2) = absurd (decimal_no_x run2 (let some = run.nonempty in omega arith) x)
  uint_same (hexadecimal z x run e) (hexadecimal z2 x2 run2 e2) = e2 ∙ sym e
  uint_same {a} (hexadecimal z x run e) (binary z2 b run2 e2) = absurd (x_b (slice_index s (a + 1)) x b)
  uint_same (binary z b run e) (decimal run2 alone2 e2) = absurd (decimal_no_b run2 (let some = run.nonempty in omega arith) b)
  uint_same {a} (binary z b run e) (hexadecimal z2 x run2 e2) = absurd (x_b (slice_index s (a + 1)) x b)
  uint_same (binary z b run e) (binary z2 b2 run2 e2) = e2 ∙ sym e

  pub uint_past : {a b n : ℕ} → IsUint s a b n → a < b
  uint_past (decimal run alone e) = run.nonempty
  uint_past (hexadecimal z x run e) = let some = run.nonempty in omega arith
  uint_past (binary z b run e) = let some = run.nonempty in omega arith

  misspelled_past : {a b : ℕ} → IsMisspelled s a b → a < b
  misspelled_past (zero_first run z past) = run.nonempty
  misspelled_past (bare_hexadecimal p e) = omega arith
  misspelled_past (bare_binary p e) = omega arith

  float_past : {a b : ℕ} → IsFloat s a b → a < b
  float_past (fraction run dot digit e) = let some = run.nonempty in omega arith
  float_past (exponent run exp) = let some = run.nonempty in let past = exponent_past exp in omega arith
  float_past (hex_exponent p run exp) = let some = run.nonempty in let past = exponent_past exp in omega arith
  float_past (hex_fraction p run dot more exp) = let some = run.nonempty in let rest = more.nonempty in let past = exponent_past exp in omega arith

  pub shape_past : (q : Shape) (a b : ℕ) → IsShape q s a b → a < b
  shape_past Uint a b h = uint_past h.1
  shape_past Misspelled a b h = misspelled_past h
  shape_past Float a b h = float_past h

  shapes_one : (q r : Shape) (a b : ℕ) → IsShape q s a b → IsShape r s a b → r ≡ q
  shapes_one Uint Uint a b h k = refl
  shapes_one Uint Misspelled a b h k = absurd (uint_no_misspelled h.1 k)
  shapes_one Uint Float a b h k = absurd (uint_no_float h.1 k)
  shapes_one Misspelled Uint a b h k = absurd (uint_no_misspelled k.1 h)
  shapes_one Misspelled Misspelled a b h k = refl
  shapes_one Misspelled Float a b h k = absurd (misspelled_no_float h k)
  shapes_one Float Uint a b h k = absurd (uint_no_float k.1 h)
  shapes_one Float Misspelled a b h k = absurd (misspelled_no_float k h)
  shapes_one Float Float a b h k = refl

  shape_digit : (q : Shape) (a b : ℕ) → IsShape q s a b → is_decimal_digit (slice_index s a) ≡ true
  shape_digit Uint a b h = uint_digit h.1
  shape_digit Misspelled a b h = misspelled_digit h
  shape_digit Float a b h = float_digit h

  -- with a `-` in front, or not
  abbrev pub SignedShape : Shape → ℕ → ℕ → Type 0
  SignedShape q a b = IsShape q s a b ⊎ ((slice_index s a ≡ 45) × IsShape q s (a + 1) b)

  dash_no_shape : (q : Shape) (a b : ℕ) → slice_index s a ≡ 45 → IsShape q s a b → ⊥
  dash_no_shape q a b dash h = false≢true (ap is_decimal_digit (sym dash) ∙ shape_digit q a b h)

  pub signed_one : (q r : Shape) (a b : ℕ) → SignedShape q a b → SignedShape r a b → r ≡ q
  signed_one q r a b h k =
      ⊎_elim
      (λ x. ⊎_elim (λ y. shapes_one q r a b x y) (λ y. absurd (dash_no_shape q a b y.0 x)) k)
      (λ x. ⊎_elim (λ y. absurd (dash_no_shape r a b x.0 y)) (λ y. shapes_one q r (a + 1) b x.1 y.1) k)
      h

  pub signed_no_star : (q : Shape) {a b : ℕ} → SignedShape q a b → (i : ℕ) → a ≤ i → i < b → slice_index s i ≡ 42 → ⊥
  signed_no_star q {a} h i low high e =
      ⊎_elim
      (λ x. no_star q x i low high e)
      (λ x. ⊎_elim (λ lt. let same : i ≡ a = omega arith in let here = ap (λ n. slice_index s n) same in omega (arith, x.0)) (λ ge. no_star q x.1 i ge high e) (cases_lt i (a + 1)))
      h

  pub signed_past : (q : Shape) (a b : ℕ) → SignedShape q a b → a < b
  signed_past q a b h = ⊎_elim (λ x. shape_past q a b x) (λ x. let past = shape_past q (a + 1) b x.1 in omega arith) h

  -- a `-` alone is none of them
  pub signed_no_dash : (q : Shape) (a b : ℕ) → SignedShape q a b → slice_index s a ≡ 45 → b ≡ a + 1 → ⊥
  signed_no_dash q a b h dash end = ⊎_elim (λ x. dash_no_shape q a b dash x) (λ x. let past = shape_past q (a + 1) b x.1 in omega arith) h

  pub of_signed : (minus : Bool) (a b n : ℕ) → IsSigned minus s a b n → SignedShape Uint a b
  of_signed false a b n h = inl (n, h)
  of_signed true a b n h = inr (h.0, (n, h.1))

  pub signed_first : (q : Shape) (a b : ℕ) → SignedShape q a b → (is_decimal_digit (slice_index s a) ≡ true) ⊎ (slice_index s a ≡ 45)
  signed_first q a b h = ⊎_elim (λ x. inl (shape_digit q a b x)) (λ x. inr x.0) h
