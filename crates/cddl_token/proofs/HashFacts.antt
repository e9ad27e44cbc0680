-- What can be read where `#` is.
use Rattle.std.proofs.Common.{◌≡◌, ℕ, ◌+◌, ◌^◌, ◌<◌, ◌≤◌, ◌⊎◌, inl, inr, Bool, true, false, List, slice_index, ap, sym, refl, ◌∙◌, ⊎_elim, arith}
use Rattle.std.proofs.lemmas.Bool.{cases_lt, false≢true}
use Rattle.cddl_literal.specs.Bytes.{is_decimal_digit}
use Rattle.cddl_literal.specs.Numbers.{IsUint, IsSigned}
use Rattle.cddl_token.specs.Numbers.{IsStar, HoldsLarge, IsHashNumber, IsTagNumberOpen}
use Rattle.cddl_token.specs.Shapes.{IsLongestBound, IsHashDot}
use Rattle.cddl_token.specs.Spelling.{Misspelled, Fractional, TooLarge, Reading, Good, Bad, Spells, IsLongest}
use Rattle.cddl_token.specs.Tokens.{IsToken}
use Rattle.cddl_token.specs.declared.Kind.TheVariants.{Hash, TagOpen, TagHeadOpen, SimpleHeadOpen}
use Rattle.cddl_token.proofs.BeginFacts.{is_signed, elsewhere, uint_digit, misspelled_begins, float_begins}
use Rattle.cddl_token.proofs.ShapeOne.{not_in_uint, uint_past}

module _ (s : List ℕ) (a : ℕ) (hash : slice_index s a ≡ 35) where
  pub no_signed : is_signed (slice_index s a) ≡ true → ⊥
  no_signed h = false≢true (ap is_signed (sym hash) ∙ h)

  no_uint : {b n : ℕ} → IsUint s a b n → ⊥
  no_uint u = false≢true (ap is_decimal_digit (sym hash) ∙ uint_digit u)

  no_number : (minus : Bool) (b n : ℕ) → IsSigned minus s a b n → ⊥
  no_number false b n h = no_uint h
  no_number true b n h = omega (arith, h.0)

  no_star : (b low high : ℕ) → IsStar s a b low high → ⊥
  no_star b low high h = ⊎_elim (λ e. let same = h.sign in let here = ap (λ n. slice_index s n) e.0 in omega arith) (λ u. no_uint u) h.before

  -- a uint that is too large is after `#d.` here
  pub large_hash : (m : ℕ) → HoldsLarge s a m → (n : ℕ) × (IsHashNumber s a m n ⊎ IsTagNumberOpen s a m n) × (2 ^ 64 ≤ n)
  large_hash m h = ⊎_elim (λ x. absurd (no_number x.0 m x.1 x.2)) (λ other. ⊎_elim (λ x. absurd (no_star m x.0 x.1 x.2)) (λ x. x) other) h

-- after `#d.` a uint, up to d
module _ (s : List ℕ) (a d : ℕ) (start : IsHashDot s a) (number : IsLongestBound s (a + 3) d) (some : a + 3 < d) where
  abbrev pub AtHash : ℕ → Type 0
  AtHash m = (m ≤ d) ⊎ ((m ≡ d + 1) × (slice_index s (a + 1) ≡ 54) × (slice_index s d ≡ 40))

  the_uint : IsUint s (a + 3) d number.number
  the_uint = ⊎_elim (λ e. absurd (omega (arith, e.0))) (λ u. u) number.spelled

  within : {m n : ℕ} → IsHashNumber s a m n → m ≤ d
  within {m} {n} h = number.longest m n (inr h.number)

  at_paren : {m n : ℕ} → IsTagNumberOpen s a m n → AtHash m
  at_paren {m} {n} h =
      let le = within h.number in
      let it = h.number in
      let past = uint_past s it.number in
      let same : h.paren ≡ d = ⊎_elim (λ lt. absurd (not_in_uint s 40 refl refl refl refl refl refl refl refl (λ e. omega arith) (λ e. omega arith) the_uint h.paren (omega arith) lt h.opens)) (λ ge. omega arith) (cases_lt h.paren d) in
      let end = h.ends in
      inr (omega arith, h.tag, ap (λ n. slice_index s n) (sym same) ∙ h.opens)

  no_head : slice_index s (a + 3) ≡ 60 → ⊥
  no_head e = false≢true (ap is_decimal_digit (sym e) ∙ uint_digit the_uint)

  at_hash : (q : Reading) (m : ℕ) → Spells q s a m → AtHash m
  at_hash (Good Hash) m h = ⊎_elim (λ x. ⊎_elim (λ y. inl (omega (arith, y.0))) (λ y. inl (omega (arith, y.0))) x) (λ x. inl (within x.1)) h
  at_hash (Good TagOpen) m h = ⊎_elim (λ x. absurd (let dot = start.dot in omega (arith, x.3))) (λ x. at_paren x.1) h
  at_hash (Good TagHeadOpen) m h = absurd (no_head h.4)
  at_hash (Good SimpleHeadOpen) m h = absurd (no_head h.4)
  at_hash (Bad Misspelled) m h = absurd (no_signed s a start.hash (misspelled_begins s a m h))
  at_hash (Bad Fractional) m h = absurd (no_signed s a start.hash (float_begins s a m h))
  at_hash (Bad TooLarge) m h = let large = large_hash s a start.hash m h in ⊎_elim (λ x. inl (within x)) (λ x. at_paren x) large.1
  at_hash q m h = absurd (elsewhere q s a m start.hash refl h)

  the_hash_number : IsHashNumber s a d number.number
  the_hash_number = record { hash = start.hash; digit = start.digit; dot = start.dot; number = the_uint }

  module _ (tag : slice_index s (a + 1) ≡ 54) (paren : slice_index s d ≡ 40) where
    the_tag : IsTagNumberOpen s a (d + 1) number.number
    the_tag = record { paren = d; number = the_hash_number; tag = tag; opens = paren; ends = refl }

    tag_within : (q : Reading) (m : ℕ) → Spells q s a m → m ≤ d + 1
    tag_within q m h = ⊎_elim (λ le. omega arith) (λ x. omega (arith, x.0)) (at_hash q m h)

    pub tag_open_token : number.number < 2 ^ 64 → IsToken TagOpen s a (d + 1)
    tag_open_token small = record { longest = record { spelled = inr (number.number, the_tag, small); longest = tag_within }; allowed = tt }

    pub large_tag : 2 ^ 64 ≤ number.number → IsLongest (Bad TooLarge) s a (d + 1)
    large_tag large = record { spelled = inr (inr (number.number, inr the_tag, large)); longest = tag_within }

  module _ (no_tag : slice_index s (a + 1) ≡ 54 → slice_index s d ≡ 40 → ⊥) where
    hash_within : (q : Reading) (m : ℕ) → Spells q s a m → m ≤ d
    hash_within q m h = ⊎_elim (λ le. le) (λ x. absurd (no_tag x.1 x.2)) (at_hash q m h)

    pub hash_token : number.number < 2 ^ 64 → IsToken Hash s a d
    hash_token small = record { longest = record { spelled = inr (number.number, the_hash_number, small); longest = hash_within }; allowed = tt }

    pub large_hash_number : 2 ^ 64 ≤ number.number → IsLongest (Bad TooLarge) s a d
    large_hash_number large = record { spelled = inr (inr (number.number, inl the_hash_number, large)); longest = hash_within }

-- `#d`, and nothing that goes on after the `.`
module _ (s : List ℕ) (a d : ℕ) (start : IsHashDot s a) (number : IsLongestBound s (a + 3) d) (none : d ≡ a + 3) (no_head : slice_index s (a + 3) ≡ 60 → ⊥) where
  no_number_here : {m n : ℕ} → IsHashNumber s a m n → ⊥
  no_number_here {m} {n} h = let le = number.longest m n (inr h.number) in let past = uint_past s h.number in omega arith

  digit_within : (q : Reading) (m : ℕ) → Spells q s a m → m ≤ a + 2
  digit_within (Good Hash) m h = ⊎_elim (λ x. ⊎_elim (λ y. omega (arith, y.0)) (λ y. omega (arith, y.0)) x) (λ x. absurd (no_number_here x.1)) h
  digit_within (Good TagOpen) m h = ⊎_elim (λ x. absurd (let dot = start.dot in omega (arith, x.3))) (λ x. let it = x.1 in absurd (no_number_here it.number)) h
  digit_within (Good TagHeadOpen) m h = absurd (no_head h.4)
  digit_within (Good SimpleHeadOpen) m h = absurd (no_head h.4)
  digit_within (Bad Misspelled) m h = absurd (no_signed s a start.hash (misspelled_begins s a m h))
  digit_within (Bad Fractional) m h = absurd (no_signed s a start.hash (float_begins s a m h))
  digit_within (Bad TooLarge) m h = let large = large_hash s a start.hash m h in ⊎_elim (λ x. absurd (no_number_here x)) (λ x. absurd (no_number_here x.number)) large.1
  digit_within q m h = absurd (elsewhere q s a m start.hash refl h)

  pub digit_token : IsToken Hash s a (a + 2)
  digit_token = record { longest = record { spelled = inl (inr (refl, start.hash, start.digit)); longest = digit_within }; allowed = tt }
