-- Bytes that spell a number or an occurrence spell nothing else.
use Rattle.std.proofs.Common.{◌≡◌, ℕ, ◌+◌, ◌^◌, ◌<◌, ◌≤◌, ◌⊎◌, inl, inr, true, false, List, slice_index, ap, sym, refl, subst, ◌∙◌, ⊎_elim, arith}
use Rattle.std.proofs.lemmas.Bool.{cases_lt}
use Rattle.cddl_literal.specs.Bytes.{is_decimal_digit}
use Rattle.cddl_literal.specs.Numbers.{IsNumber, IsTooLarge, Meaning}
use Rattle.cddl_token.specs.Numbers.{IsBound, IsStar, IsLargeStar, IsLargeHash}
use Rattle.cddl_token.specs.Spelling.{Stands, Misspelled, Fractional, TooLarge, Reading, Good, Bad, Spells}
use Rattle.cddl_token.specs.declared.numbers.Shape.{Shape}
use Rattle.cddl_token.specs.declared.numbers.Shape.TheVariants as form
use Rattle.cddl_token.specs.declared.Kind.TheVariants.{Number, Occur}
use Rattle.cddl_token.proofs.BeginFacts.{begins, elsewhere, uint_digit}
use Rattle.cddl_token.proofs.NumberFacts.{IsNoNumber, digit_begins, digit_not}
use Rattle.cddl_token.proofs.ShapeOne.{SignedShape, signed_one, signed_no_star, signed_no_dash, signed_first, of_signed, no_star, uint_same, uint_past}

-- `-` or `*` begins only numbers and occurrences
dash_begins : (q : Reading) → IsNoNumber q → begins q 45 ≡ false
dash_begins (Good Number) other = absurd other
dash_begins (Good Occur) other = absurd other
dash_begins (Bad _) other = absurd other
dash_begins (Good _) other = refl

star_begins : (q : Reading) → IsNoNumber q → begins q 42 ≡ false
star_begins (Good Number) other = absurd other
star_begins (Good Occur) other = absurd other
star_begins (Bad _) other = absurd other
star_begins (Good _) other = refl

plus_begins : (q : Reading) → IsNoNumber q → begins q 43 ≡ false
plus_begins (Good Number) other = absurd other
plus_begins (Good Occur) other = absurd other
plus_begins (Bad _) other = absurd other
plus_begins (Good _) other = refl

question_begins : (q : Reading) → IsNoNumber q → begins q 63 ≡ false
question_begins (Good Number) other = absurd other
question_begins (Good Occur) other = absurd other
question_begins (Bad _) other = absurd other
question_begins (Good _) other = refl

uint_of_misspelled : form.Uint ≡ form.Misspelled → ⊥
uint_of_misspelled e = cc

uint_of_float : form.Uint ≡ form.Float → ⊥
uint_of_float e = cc

misspelled_of_float : form.Misspelled ≡ form.Float → ⊥
misspelled_of_float e = cc

module _ (s : List ℕ) (a b : ℕ) where
  -- what a faulty number is
  misspelled_shape : Spells (Bad Misspelled) s a b → Stands "-" s a b ⊎ SignedShape s form.Misspelled a b
  misspelled_shape h = h

  pub not_numeric : (q : Shape) (r : Reading) → IsNoNumber r → SignedShape s q a b → Spells r s a b → ⊥
  not_numeric q r other h k = ⊎_elim (λ d. elsewhere r s a b refl (digit_begins r (slice_index s a) d other) k) (λ e. elsewhere r s a b e (dash_begins r other) k) (signed_first s q a b h)

  bound_le : {c d n : ℕ} → IsBound s c d n → c ≤ d
  bound_le h = ⊎_elim (λ e. omega arith) (λ u. let past = uint_past s u in omega arith) h

  module _ {low high : ℕ} (h : IsStar s a b low high) where
    star_from : a ≤ h.star
    star_from = bound_le h.before

    star_below : h.star < b
    star_below = let le = bound_le h.after in omega arith

    star_first : (is_decimal_digit (slice_index s a) ≡ true) ⊎ (slice_index s a ≡ 42)
    star_first = ⊎_elim (λ e. inr (ap (λ n. slice_index s n) e.0 ∙ h.sign)) (λ u. inl (uint_digit u)) h.before

    star_no_shape : (q : Shape) → SignedShape s q a b → ⊥
    star_no_shape q k = signed_no_star s q k h.star star_from star_below h.sign

    not_first : (k : ℕ) → is_decimal_digit k ≡ false → (k ≡ 42 → ⊥) → slice_index s a ≡ k → ⊥
    not_first k other no_star e = ⊎_elim (λ d. digit_not (slice_index s a) k d other e) (λ f. no_star (sym e ∙ f)) star_first

    pub not_starred : (r : Reading) → IsNoNumber r → Spells r s a b → ⊥
    not_starred r other k = ⊎_elim (λ d. elsewhere r s a b refl (digit_begins r (slice_index s a) d other) k) (λ e. elsewhere r s a b e (star_begins r other) k) star_first

  -- two occurrences have their `*` at one offset
  no_earlier : {low high low2 high2 : ℕ} (h : IsStar s a b low high) (k : IsStar s a b low2 high2) → h.star < k.star → ⊥
  no_earlier h k lt = ⊎_elim (λ e. let le = bound_le h.before in omega (arith, e.0)) (λ u. no_star s form.Uint (_, u) h.star (bound_le h.before) lt h.sign) k.before

  same_star : {low high low2 high2 : ℕ} (h : IsStar s a b low high) (k : IsStar s a b low2 high2) → k.star ≡ h.star
  same_star h k = ⊎_elim (λ lt. absurd (no_earlier h k lt)) (λ ge. ⊎_elim (λ lt. absurd (no_earlier k h lt)) (λ le. omega arith) (cases_lt k.star h.star)) (cases_lt h.star k.star)

  bound_same : {c d m n : ℕ} → IsBound s c d m → IsBound s c d n → n ≡ m
  bound_same x y =
      ⊎_elim
      (λ e. ⊎_elim (λ f. f.1 ∙ sym e.1) (λ v. absurd (let past = uint_past s v in omega (arith, e.0))) y)
      (λ u. ⊎_elim (λ f. absurd (let past = uint_past s u in omega (arith, f.0))) (λ v. uint_same s u v) y)
      x

  star_same : {low high low2 high2 : ℕ} → IsStar s a b low high → IsStar s a b low2 high2 → (low2 ≡ low) × (high2 ≡ high)
  star_same {low2 = low2} {high2 = high2} h k =
      let same = same_star h k in
      (bound_same h.before (subst (λ n. IsBound s a n low2) same k.before), bound_same h.after (subst (λ n. IsBound s (n + 1) b high2) same k.after))

  small_star : {low high : ℕ} → IsStar s a b low high → low < 2 ^ 64 → high < 2 ^ 64 → IsLargeStar s a b → ⊥
  small_star h small_low small_high large = let same = star_same h large.2 in ⊎_elim (λ l. omega (arith, same.0)) (λ l. omega (arith, same.1)) large.3

  -- none of these is at the same offset as `#`
  pub hash_first : IsLargeHash s a b → slice_index s a ≡ 35
  hash_first h = ⊎_elim (λ x. x.hash) (λ x. x.number.hash) h.1

  shape_no_hash : (q : Shape) → SignedShape s q a b → slice_index s a ≡ 35 → ⊥
  shape_no_hash q h e = ⊎_elim (λ d. digit_not (slice_index s a) 35 d refl e) (λ f. omega arith) (signed_first s q a b h)

  shape_no_sign : (q : Shape) → SignedShape s q a b → Stands "+" s a b ⊎ Stands "?" s a b → ⊥
  shape_no_sign q h one =
      ⊎_elim
      (λ e. ⊎_elim (λ d. digit_not (slice_index s a) 43 d refl e.1) (λ f. omega (arith, e.1)) (signed_first s q a b h))
      (λ e. ⊎_elim (λ d. digit_not (slice_index s a) 63 d refl e.1) (λ f. omega (arith, e.1)) (signed_first s q a b h))
      one

  -- a number or an occurrence, and what it is not
  occur_no_shape : (q : Shape) → SignedShape s q a b → Spells (Good Occur) s a b → ⊥
  occur_no_shape q h k = ⊎_elim (λ one. shape_no_sign q h one) (λ star. star_no_shape star.2 q h) k

  misspelled_no_uint : SignedShape s form.Uint a b → Spells (Bad Misspelled) s a b → ⊥
  misspelled_no_uint h k = ⊎_elim (λ e. signed_no_dash s form.Uint a b h e.1 e.0) (λ x. uint_of_misspelled (sym (signed_one s form.Uint form.Misspelled a b h x))) k

  float_no_uint : SignedShape s form.Uint a b → Spells (Bad Fractional) s a b → ⊥
  float_no_uint h k = uint_of_float (sym (signed_one s form.Uint form.Float a b h k))

  float_no_misspelled : Spells (Bad Misspelled) s a b → Spells (Bad Fractional) s a b → ⊥
  float_no_misspelled h k = ⊎_elim (λ e. signed_no_dash s form.Float a b k e.1 e.0) (λ x. misspelled_of_float (sym (signed_one s form.Misspelled form.Float a b x k))) h

  occur_no_misspelled : Spells (Good Occur) s a b → Spells (Bad Misspelled) s a b → ⊥
  occur_no_misspelled h k = ⊎_elim (λ e. ⊎_elim (λ one. ⊎_elim (λ f. omega (arith, e.1, f.1)) (λ f. omega (arith, e.1, f.1)) one) (λ star. not_first star.2 45 refl (λ f. omega arith) e.1) h) (λ x. occur_no_shape form.Misspelled x h) k

  number_shape : Spells (Good Number) s a b → SignedShape s form.Uint a b
  number_shape h = of_signed s h.1.0 a b h.1.1 h.1.2

  pub too_large_shape : IsTooLarge s a b → SignedShape s form.Uint a b
  too_large_shape h = of_signed s h.0 a b h.1 h.2

  pub misspelled_no_large : Spells (Bad Misspelled) s a b → Spells (Bad TooLarge) s a b → ⊥
  misspelled_no_large h k =
      ⊎_elim
      (λ n. misspelled_no_uint (too_large_shape n) h)
      (λ other. ⊎_elim
      (λ star. ⊎_elim (λ e. not_first star.2 45 refl (λ f. omega arith) e.1) (λ x. star_no_shape star.2 form.Misspelled x) h)
      (λ hash. ⊎_elim (λ e. let first = hash_first hash in omega (arith, e.1)) (λ x. shape_no_hash form.Misspelled x (hash_first hash)) h)
      other)
      k

  pub float_no_large : Spells (Bad Fractional) s a b → Spells (Bad TooLarge) s a b → ⊥
  float_no_large h k = ⊎_elim (λ n. float_no_uint (too_large_shape n) h) (λ other. ⊎_elim (λ star. star_no_shape star.2 form.Float h) (λ hash. shape_no_hash form.Float h (hash_first hash)) other) k

  pub occur_no_large : Spells (Good Occur) s a b → Spells (Bad TooLarge) s a b → ⊥
  occur_no_large h k =
      ⊎_elim
      (λ n. occur_no_shape form.Uint (too_large_shape n) h)
      (λ other. ⊎_elim
      (λ star. ⊎_elim (λ one. ⊎_elim (λ e. not_first star.2 43 refl (λ f. omega arith) e.1) (λ e. not_first star.2 63 refl (λ f. omega arith) e.1) one) (λ x. small_star x.2 x.3 x.4 star) h)
      (λ hash. let first = hash_first hash in ⊎_elim (λ one. ⊎_elim (λ e. omega (arith, e.1)) (λ e. omega (arith, e.1)) one) (λ x. not_first x.2 35 refl (λ f. omega arith) first) h)
      other)
      k

  pub number_no_large : ((m : Meaning) → IsNumber s a b m → IsTooLarge s a b → ⊥) → Spells (Good Number) s a b → Spells (Bad TooLarge) s a b → ⊥
  number_no_large law h k = ⊎_elim (λ n. law h.0 h.1 n) (λ other. ⊎_elim (λ star. star_no_shape star.2 form.Uint (number_shape h)) (λ hash. shape_no_hash form.Uint (number_shape h) (hash_first hash)) other) k

  pub number_one : ((m : Meaning) → IsNumber s a b m → IsTooLarge s a b → ⊥) → Spells (Good Number) s a b → (r : Reading) → Spells r s a b → r ≡ Good Number
  number_one law h (Good Number) k = refl
  number_one law h (Good Occur) k = absurd (occur_no_shape form.Uint (number_shape h) k)
  number_one law h (Bad Misspelled) k = absurd (misspelled_no_uint (number_shape h) k)
  number_one law h (Bad Fractional) k = absurd (float_no_uint (number_shape h) k)
  number_one law h (Bad TooLarge) k = absurd (number_no_large law h k)
  number_one law h r k = absurd (not_numeric form.Uint r tt (number_shape h) k)

  occur_elsewhere : (r : Reading) → IsNoNumber r → Spells (Good Occur) s a b → Spells r s a b → ⊥
  occur_elsewhere r other h k = ⊎_elim (λ one. ⊎_elim (λ e. elsewhere r s a b e.1 (plus_begins r other) k) (λ e. elsewhere r s a b e.1 (question_begins r other) k) one) (λ star. not_starred star.2 r other k) h

  pub occur_one : Spells (Good Occur) s a b → (r : Reading) → Spells r s a b → r ≡ Good Occur
  occur_one h (Good Number) k = absurd (occur_no_shape form.Uint (number_shape k) h)
  occur_one h (Good Occur) k = refl
  occur_one h (Bad Misspelled) k = absurd (occur_no_misspelled h k)
  occur_one h (Bad Fractional) k = absurd (occur_no_shape form.Float k h)
  occur_one h (Bad TooLarge) k = absurd (occur_no_large h k)
  occur_one h r k = absurd (occur_elsewhere r tt h k)

  dash_elsewhere : (r : Reading) → IsNoNumber r → Spells (Bad Misspelled) s a b → Spells r s a b → ⊥
  dash_elsewhere r other h k = ⊎_elim (λ e. elsewhere r s a b e.1 (dash_begins r other) k) (λ x. not_numeric form.Misspelled r other x k) h

  pub misspelled_one : Spells (Bad Misspelled) s a b → (r : Reading) → Spells r s a b → r ≡ Bad Misspelled
  misspelled_one h (Good Number) k = absurd (misspelled_no_uint (number_shape k) h)
  misspelled_one h (Good Occur) k = absurd (occur_no_misspelled k h)
  misspelled_one h (Bad Misspelled) k = refl
  misspelled_one h (Bad Fractional) k = absurd (float_no_misspelled h k)
  misspelled_one h (Bad TooLarge) k = absurd (misspelled_no_large h k)
  misspelled_one h r k = absurd (dash_elsewhere r tt h k)

  pub float_one : Spells (Bad Fractional) s a b → (r : Reading) → Spells r s a b → r ≡ Bad Fractional
  float_one h (Good Number) k = absurd (float_no_uint (number_shape k) h)
  float_one h (Good Occur) k = absurd (occur_no_shape form.Float h k)
  float_one h (Bad Misspelled) k = absurd (float_no_misspelled k h)
  float_one h (Bad Fractional) k = refl
  float_one h (Bad TooLarge) k = absurd (float_no_large h k)
  float_one h r k = absurd (not_numeric form.Float r tt h k)
