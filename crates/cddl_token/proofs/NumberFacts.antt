-- Nothing longer can be read where a number or an occurrence is.
use Rattle.std.proofs.Common.{◌≡◌, ℕ, ◌+◌, ◌^◌, ◌<◌, ◌≤◌, ◌⊎◌, inl, inr, Bool, true, false, ◌==◌, List, slice_index, Option, Some, None, ap, sym, refl, subst, ◌∙◌, ⊎_elim, arith}
use Rattle.std.proofs.lemmas.Bool.{cases_lt, false≢true, or_from, ne_eqb}
use Rattle.std.proofs.lemmas.Bool.Decides.{nat_tests}
use Rattle.cddl_literal.specs.Bytes.{is_decimal_digit, is_h, is_b}
use Rattle.std.specs.Option.{option_map, is_some}
use Rattle.cddl_literal.specs.Numbers.{IsUint, IsSigned, Meaning}
use Rattle.cddl_literal.specs.Literals.{view}
use Rattle.cddl_literal.specs.declared.Literal.{Literal}
use Rattle.cddl_token.specs.Bytes.{is_ealpha}
use Rattle.cddl_token.specs.Numbers.{IsBound, IsStar, HoldsLarge}
use Rattle.cddl_token.specs.Shapes.{IsShape, IsLongestShape, IsLongestBound, BeginsOccur}
use Rattle.cddl_token.specs.Spelling.{Misspelled, Fractional, TooLarge, Reading, Good, Bad, Spells, IsLongest}
use Rattle.cddl_token.specs.declared.numbers.Shape.{Shape}
use Rattle.cddl_token.specs.declared.numbers.Shape.TheVariants.{Uint, Float}
use Rattle.cddl_token.specs.declared.numbers.Shape.TheVariants as form
use Rattle.cddl_token.specs.declared.Kind.TheVariants.{Name, NameOpen, Bytes, Number, Occur, End}
use Rattle.cddl_token.specs.Tokens.{IsToken}
use Rattle.cddl_token.proofs.BeginFacts.{begins, is_signed, elsewhere, uint_digit, misspelled_digit, float_digit, misspelled_begins, float_begins}
use Rattle.cddl_token.proofs.ShapeOne.{no_star, uint_no_misspelled, uint_no_float, uint_past, shape_past}

digit_letter : (b : ℕ) → is_decimal_digit b ≡ true → is_ealpha b ≡ false
digit_letter b h = grind (arith, nat_tests)

digit_h : (b : ℕ) → is_decimal_digit b ≡ true → is_h b ≡ false
digit_h b h = grind (arith, nat_tests)

digit_b : (b : ℕ) → is_decimal_digit b ≡ true → is_b b ≡ false
digit_b b h = grind (arith, nat_tests)

digit_other : (b k : ℕ) → is_decimal_digit b ≡ true → is_decimal_digit k ≡ false → (b == k) ≡ false
digit_other b k h other = ne_eqb b k (λ e. false≢true (sym other ∙ ap is_decimal_digit (sym e) ∙ h))

pub digit_not : (b k : ℕ) → is_decimal_digit b ≡ true → is_decimal_digit k ≡ false → b ≡ k → ⊥
digit_not b k h other e = false≢true (sym other ∙ ap is_decimal_digit (sym e) ∙ h)

abbrev pub IsNoNumber : Reading → Type 0
IsNoNumber (Good Number) = ⊥
IsNoNumber (Good Occur) = ⊥
IsNoNumber (Bad _) = ⊥
IsNoNumber _ = Unit {0}

-- only numbers and occurrences begin with a digit
pub digit_begins : (q : Reading) (b : ℕ) → is_decimal_digit b ≡ true → IsNoNumber q → begins q b ≡ false
digit_begins (Good Number) b h other = absurd other
digit_begins (Good Occur) b h other = absurd other
digit_begins (Good Name) b h other = digit_letter b h
digit_begins (Good NameOpen) b h other = digit_letter b h
digit_begins (Good Bytes) b h other = or_from _ _ (or_from _ _ (digit_other b _ h refl) (digit_h b h)) (digit_b b h)
digit_begins (Good End) b h other = refl
digit_begins (Good _) b h other = digit_other b _ h refl
digit_begins (Bad _) b h other = absurd other

-- a number that begins with a digit
unsigned_shape : (minus : Bool) (s : List ℕ) (a b n : ℕ) → is_decimal_digit (slice_index s a) ≡ true → IsSigned minus s a b n → IsUint s a b n
unsigned_shape false s a b n digit h = h
unsigned_shape true s a b n digit h = absurd (digit_not (slice_index s a) 45 digit refl h.0)

-- a number that begins with `-`
signed_shape : (minus : Bool) (s : List ℕ) (a b n : ℕ) → slice_index s a ≡ 45 → IsSigned minus s a b n → IsUint s (a + 1) b n
signed_shape false s a b n dash h = absurd (digit_not (slice_index s a) 45 (uint_digit h) refl dash)
signed_shape true s a b n dash h = h.1

module _ (s : List ℕ) (a : ℕ) where
  -- where a digit is: a number of some shape, or an occurrence
  abbrev pub AtDigit : ℕ → Type 0
  AtDigit m = ((q : Shape) × IsShape q s a m) ⊎ ((low high : ℕ) × IsStar s a m low high)

  module _ (digit : is_decimal_digit (slice_index s a) ≡ true) where
    not_first : (k : ℕ) → is_decimal_digit k ≡ false → slice_index s a ≡ k → ⊥
    not_first k other e = digit_not (slice_index s a) k digit other e

    large_at_digit : (m : ℕ) → HoldsLarge s a m → AtDigit m
    large_at_digit m h =
        ⊎_elim
        (λ n. inl (Uint, (n.1, unsigned_shape n.0 s a m n.1 digit n.2)))
        (λ other. ⊎_elim (λ star. inr (star.0, star.1, star.2)) (λ hash. absurd (not_first 35 refl (⊎_elim (λ x. x.hash) (λ x. x.number.hash) hash.1))) other)
        h

    pub digit_readings : (q : Reading) (m : ℕ) → Spells q s a m → AtDigit m
    digit_readings (Good Number) m h = inl (Uint, (h.1.1, unsigned_shape h.1.0 s a m h.1.1 digit h.1.2))
    digit_readings (Good Occur) m h = ⊎_elim (λ one. absurd (⊎_elim (λ e. not_first 43 refl e.1) (λ e. not_first 63 refl e.1) one)) (λ star. inr (star.0, star.1, star.2)) h
    digit_readings (Bad Misspelled) m h = ⊎_elim (λ e. absurd (not_first 45 refl e.1)) (λ z. ⊎_elim (λ x. inl (form.Misspelled, x)) (λ x. absurd (not_first 45 refl x.0)) z) h
    digit_readings (Bad Fractional) m h = ⊎_elim (λ x. inl (Float, x)) (λ x. absurd (not_first 45 refl x.0)) h
    digit_readings (Bad TooLarge) m h = large_at_digit m h
    digit_readings q m h = absurd (elsewhere q s a m refl (digit_begins q (slice_index s a) digit tt) h)

    -- the `*` of an occurrence is where the longest shape ends
    star_at_end : (shape : Shape) (d : ℕ) → IsLongestShape shape s a d → (m low high : ℕ) → (h : IsStar s a m low high) → (h.star ≡ d) × IsUint s a d low
    star_at_end shape d long m low high h =
        ⊎_elim
        (λ e. absurd (not_first 42 refl (ap (λ n. slice_index s n) e.0 ∙ h.sign)))
        (λ u.
        let le : h.star ≤ d = long.longest Uint h.star (low, u) in
        let same : h.star ≡ d = ⊎_elim (λ lt. absurd (no_star s shape long.spelled h.star (let le = uint_past s u in omega arith) lt h.sign)) (λ ge. omega arith) (cases_lt h.star d) in
        (same, subst (λ n. IsUint s a n low) same u))
        h.before

    -- nothing is longer than the longest shape, if no `*` is after it or it is no uint
    within_shape : (shape : Shape) (d : ℕ) → IsLongestShape shape s a d → ((low : ℕ) → IsUint s a d low → slice_index s d ≡ 42 → ⊥) → (q : Reading) (m : ℕ) → Spells q s a m → m ≤ d
    within_shape shape d long no_occur q m h =
        ⊎_elim
        (λ x. long.longest x.0 m x.1)
        (λ star. let at_end = star_at_end shape d long m star.0 star.1 star.2 in
        let it = star.2 in
        absurd (no_occur star.0 at_end.1 (ap (λ n. slice_index s n) (sym at_end.0) ∙ it.sign)))
        (digit_readings q m h)

    pub a_misspelled : (d : ℕ) → IsLongestShape form.Misspelled s a d → IsLongest (Bad Misspelled) s a d
    a_misspelled d long = record { spelled = inr (inl long.spelled); longest = within_shape form.Misspelled d long (λ low u star. uint_no_misspelled s u long.spelled) }

    pub a_float : (d : ℕ) → IsLongestShape Float s a d → IsLongest (Bad Fractional) s a d
    a_float d long = record { spelled = inl long.spelled; longest = within_shape Float d long (λ low u star. uint_no_float s u long.spelled) }

    pub a_number : (d : ℕ) → IsLongestShape Uint s a d → (slice_index s d ≡ 42 → ⊥) → (q : Reading) (m : ℕ) → Spells q s a m → m ≤ d
    a_number d long no_star = within_shape Uint d long (λ low u star. no_star star)

  -- where `-` is
  module _ (dash : slice_index s a ≡ 45) where
    no_digit_here : is_decimal_digit (slice_index s a) ≡ true → ⊥
    no_digit_here digit = digit_not (slice_index s a) 45 digit refl dash

    -- `-` alone, or a number of some shape after it
    abbrev pub AtDash : ℕ → Type 0
    AtDash m = (m ≡ a + 1) ⊎ ((q : Shape) × IsShape q s (a + 1) m)

    large_at_dash : (m : ℕ) → HoldsLarge s a m → AtDash m
    large_at_dash m h =
        ⊎_elim
        (λ n. inr (Uint, (n.1, signed_shape n.0 s a m n.1 dash n.2)))
        (λ other. ⊎_elim
        (λ star. let it = star.2 in absurd (⊎_elim (λ e. let same = it.sign in omega (arith, same ∙ refl, ap (λ n. slice_index s n) e.0)) (λ u. no_digit_here (uint_digit u)) it.before))
        (λ hash. absurd (let e = ⊎_elim (λ x. x.hash) (λ x. x.number.hash) hash.1 in omega arith))
        other)
        h

    pub dash_readings : (q : Reading) (m : ℕ) → Spells q s a m → AtDash m
    dash_readings (Good Number) m h = inr (Uint, (h.1.1, signed_shape h.1.0 s a m h.1.1 dash h.1.2))
    dash_readings (Bad Misspelled) m h = ⊎_elim (λ e. inl e.0) (λ z. ⊎_elim (λ x. absurd (no_digit_here (misspelled_digit x))) (λ x. inr (form.Misspelled, x.1)) z) h
    dash_readings (Bad Fractional) m h = ⊎_elim (λ x. absurd (no_digit_here (float_digit x))) (λ x. inr (Float, x.1)) h
    dash_readings (Bad TooLarge) m h = large_at_dash m h
    dash_readings q m h = absurd (elsewhere q s a m dash refl h)

    shape_first : (q : Shape) (m : ℕ) → IsShape q s (a + 1) m → is_decimal_digit (slice_index s (a + 1)) ≡ true
    shape_first Uint m h = uint_digit h.1
    shape_first form.Misspelled m h = misspelled_digit h
    shape_first Float m h = float_digit h

    pub lone_dash : is_decimal_digit (slice_index s (a + 1)) ≡ false → IsLongest (Bad Misspelled) s a (a + 1)
    lone_dash other = record { spelled = inl (refl, dash); longest = λ q m h. ⊎_elim (λ e. omega arith) (λ x. absurd (false≢true (sym other ∙ shape_first x.0 m x.1))) (dash_readings q m h) }

    module _ (shape : Shape) (d : ℕ) (long : IsLongestShape shape s (a + 1) d) where
      pub dash_within : (q : Reading) (m : ℕ) → Spells q s a m → m ≤ d
      dash_within q m h = let past = shape_past s shape (a + 1) d long.spelled in ⊎_elim (λ e. omega arith) (λ x. long.longest x.0 m x.1) (dash_readings q m h)

    pub negative_misspelled : (d : ℕ) → IsLongestShape form.Misspelled s (a + 1) d → IsLongest (Bad Misspelled) s a d
    negative_misspelled d long = record { spelled = inr (inr (dash, long.spelled)); longest = dash_within form.Misspelled d long }

    pub negative_float : (d : ℕ) → IsLongestShape Float s (a + 1) d → IsLongest (Bad Fractional) s a d
    negative_float d long = record { spelled = inr (dash, long.spelled); longest = dash_within Float d long }

  bound_le : {b n : ℕ} → IsBound s a b n → a ≤ b
  bound_le h = ⊎_elim (λ e. omega arith) (λ u. let past = uint_past s u in omega arith) h

module _ (s : List ℕ) (a star b : ℕ) (sign : slice_index s star ≡ 42) (end : IsLongestBound s (star + 1) b) where
  after : star < b
  after = let le = bound_le s (star + 1) end.spelled in omega arith

  star_within : (m low high : ℕ) (h : IsStar s a m low high) → h.star ≡ star → m ≤ b
  star_within m low high h same = end.longest m high (subst (λ n. IsBound s (n + 1) m high) same h.after)

  -- `*` first
  module _ (first : slice_index s a ≡ 42) (same : a ≡ star) where
    no_sign : is_signed (slice_index s a) ≡ true → ⊥
    no_sign h = false≢true (ap is_signed (sym first) ∙ h)

    first_star : (m low high : ℕ) → IsStar s a m low high → m ≤ b
    first_star m low high h = ⊎_elim (λ e. star_within m low high h (sym e.0 ∙ same)) (λ u. absurd (digit_not (slice_index s a) 42 (uint_digit u) refl first)) h.before

    large_first : (m : ℕ) → HoldsLarge s a m → m ≤ b
    large_first m h =
        ⊎_elim
        (λ n. absurd (signed_no n.0 n.1 n.2))
        (λ other. ⊎_elim (λ x. first_star m x.0 x.1 x.2) (λ hash. absurd (let e = ⊎_elim (λ x. x.hash) (λ x. x.number.hash) hash.1 in omega arith)) other)
        h
      where
        signed_no : (minus : Bool) (n : ℕ) → IsSigned minus s a m n → ⊥
        signed_no false n h = digit_not (slice_index s a) 42 (uint_digit h) refl first
        signed_no true n h = omega (arith, h.0)

    first_within : (q : Reading) (m : ℕ) → Spells q s a m → m ≤ b
    first_within (Good Occur) m h = ⊎_elim (λ one. let past = after in ⊎_elim (λ e. omega (arith, e.0)) (λ e. omega (arith, e.0)) one) (λ x. first_star m x.0 x.1 x.2) h
    first_within (Bad Misspelled) m h = absurd (no_sign (misspelled_begins s a m h))
    first_within (Bad Fractional) m h = absurd (no_sign (float_begins s a m h))
    first_within (Bad TooLarge) m h = large_first m h
    first_within q m h = absurd (elsewhere q s a m first refl h)

  -- a uint first
  uint_within : IsLongestShape Uint s a star → (q : Reading) (m : ℕ) → Spells q s a m → m ≤ b
  uint_within long q m h =
      let digit = uint_digit (long.spelled).1 in
      let past = after in
      ⊎_elim
      (λ x. let le = long.longest x.0 m x.1 in omega arith)
      (λ x. star_within m x.0 x.1 x.2 (star_at_end s a digit Uint star long m x.0 x.1 x.2).0)
      (digit_readings s a digit q m h)

  pub occur_longest : BeginsOccur s a star → (q : Reading) (m : ℕ) → Spells q s a m → m ≤ b
  occur_longest before q m h = ⊎_elim (λ e. first_within (ap (λ n. slice_index s n) e ∙ sign) e q m h) (λ long. uint_within long q m h) before

  low_of : BeginsOccur s a star → (n : ℕ) × IsBound s a star n
  low_of before = ⊎_elim (λ e. (0, inl (e, refl))) (λ long. let u = long.spelled in (u.0, inr u.1)) before

  pub an_occur : BeginsOccur s a star → ((n : ℕ) → IsBound s a star n → n < 2 ^ 64) → ((n : ℕ) → IsBound s (star + 1) b n → n < 2 ^ 64) → IsToken Occur s a b
  an_occur before low high =
      let first = low_of before in
      record {
        longest = record { spelled = inr (first.0, end.number, record { star = star; before = first.1; sign = sign; after = end.spelled }, low first.0 first.1, high end.number end.spelled); longest = occur_longest before };
        allowed = tt;
      }

  pub a_large_occur : BeginsOccur s a star → ((n : ℕ) → IsBound s a star n → 2 ^ 64 ≤ n) ⊎ ((n : ℕ) → IsBound s (star + 1) b n → 2 ^ 64 ≤ n) → IsLongest (Bad TooLarge) s a b
  a_large_occur before large =
      let first = low_of before in
      record { spelled = inr (inl (first.0, end.number, record { star = star; before = first.1; sign = sign; after = end.spelled }, ⊎_elim (λ l. inl (l first.0 first.1)) (λ l. inr (l end.number end.spelled)) large)); longest = occur_longest before }

-- what the number's function found
pub number_found : (r : Option Literal) (m : Option Meaning) → option_map view r ≡ m → is_some r ≡ true → (x : Meaning) × (m ≡ Some x)
number_found (Some l) m e t = (view l, sym e)
number_found None m e t = absurd (false≢true t)

pub number_missed : (r : Option Literal) (m : Option Meaning) → option_map view r ≡ m → is_some r ≡ false → m ≡ None
number_missed (Some l) m e t = absurd (false≢true (sym t))
number_missed None m e t = sym e
