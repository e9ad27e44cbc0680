-- Bytes that begin with `#`, or spell a uint that is too large, spell one thing.
use Rattle.std.proofs.Common.{◌≡◌, ℕ, ◌+◌, ◌<◌, List, slice_index, ap, sym, refl, subst, ◌∙◌, ⊎_elim, arith}
use Rattle.std.proofs.lemmas.Bool.{false≢true}
use Rattle.cddl_literal.specs.Bytes.{is_decimal_digit}
use Rattle.cddl_literal.specs.Numbers.{IsUint, IsNumber, IsTooLarge, Meaning}
use Rattle.cddl_token.specs.Numbers.{HoldsLarge, IsLargeHash, IsHashNumber, IsTagNumberOpen}
use Rattle.cddl_token.specs.Spelling.{Stands, Misspelled, Fractional, TooLarge, Reading, Good, Bad, Spells}
use Rattle.cddl_token.specs.declared.numbers.Shape.TheVariants as form
use Rattle.cddl_token.specs.declared.Kind.TheVariants.{Number, Occur, Hash, TagOpen, TagHeadOpen, SimpleHeadOpen}
use Rattle.cddl_token.proofs.BeginFacts.{elsewhere, uint_digit, misspelled_begins, float_begins}
use Rattle.cddl_token.proofs.ShapeOne.{not_in_uint, uint_same, uint_past}
use Rattle.cddl_token.proofs.HashFacts.{no_signed, large_hash}
use Rattle.cddl_token.proofs.NumberOne.{number_no_large, occur_no_large, misspelled_no_large, float_no_large, hash_first, too_large_shape, not_starred, not_numeric}

module _ (s : List ℕ) (a b : ℕ) where
  number_past : {n : ℕ} → IsHashNumber s a b n → a + 3 < b
  number_past h = uint_past s h.number

  tag_past : {n : ℕ} → IsTagNumberOpen s a b n → a + 4 < b
  tag_past h = let it = h.number in let past = uint_past s it.number in let end = h.ends in omega arith

  -- no `(` in a uint
  number_no_tag : {n m : ℕ} → IsHashNumber s a b n → IsTagNumberOpen s a b m → ⊥
  number_no_tag h k =
      let it = k.number in
      let past = uint_past s it.number in
      let end = k.ends in
      not_in_uint s 40 refl refl refl refl refl refl refl refl (λ e. omega arith) (λ e. omega arith) h.number k.paren (omega arith) (omega arith) k.opens

  number_no_three : {n : ℕ} → IsHashNumber s a b n → Stands "#6(" s a b → ⊥
  number_no_three h k = let dot = h.dot in omega (arith, k.3)

  tag_no_three : {n : ℕ} → IsTagNumberOpen s a b n → Stands "#6(" s a b → ⊥
  tag_no_three h k = let past = tag_past h in omega (arith, k.0)

  number_no_head : {n : ℕ} → IsHashNumber s a b n → slice_index s (a + 3) ≡ 60 → ⊥
  number_no_head h e = false≢true (ap is_decimal_digit (sym e) ∙ uint_digit h.number)

  tag_no_head : {n : ℕ} → IsTagNumberOpen s a b n → slice_index s (a + 3) ≡ 60 → ⊥
  tag_no_head h e = let it = h.number in false≢true (ap is_decimal_digit (sym e) ∙ uint_digit it.number)

  tag_same : {n m : ℕ} → IsTagNumberOpen s a b n → IsTagNumberOpen s a b m → m ≡ n
  tag_same {n} {m} h k =
      let one = h.ends in
      let two = k.ends in
      let same : k.paren ≡ h.paren = omega arith in
      let first = h.number in
      let second = k.number in
      uint_same s first.number (subst (λ i. IsUint s (a + 3) i m) same second.number)

  large_is : slice_index s a ≡ 35 → HoldsLarge s a b → IsLargeHash s a b
  large_is hash h = large_hash s a hash b h

  hash_no_tag : Spells (Good Hash) s a b → Spells (Good TagOpen) s a b → ⊥
  hash_no_tag h k =
      ⊎_elim
      (λ x. ⊎_elim
      (λ y. ⊎_elim (λ z. omega (arith, y.0, z.0)) (λ z. let past = tag_past z.1 in omega (arith, y.0)) k)
      (λ y. ⊎_elim (λ z. omega (arith, y.0, z.0)) (λ z. let past = tag_past z.1 in omega (arith, y.0)) k)
      x)
      (λ x. ⊎_elim (λ z. number_no_three x.1 z) (λ z. number_no_tag x.1 z.1) k)
      h

  hash_no_head : Spells (Good Hash) s a b → b ≡ a + 4 → slice_index s (a + 3) ≡ 60 → ⊥
  hash_no_head h end sign = ⊎_elim (λ x. ⊎_elim (λ y. omega (arith, y.0)) (λ y. omega (arith, y.0)) x) (λ x. number_no_head x.1 sign) h

  tag_open_no_head : Spells (Good TagOpen) s a b → b ≡ a + 4 → slice_index s (a + 3) ≡ 60 → ⊥
  tag_open_no_head h end sign = ⊎_elim (λ x. omega (arith, x.0)) (λ x. tag_no_head x.1 sign) h

  hash_no_large : Spells (Good Hash) s a b → IsLargeHash s a b → ⊥
  hash_no_large h k =
      ⊎_elim
      (λ x. ⊎_elim
      (λ y. ⊎_elim (λ z. let past = number_past z in omega (arith, y.0)) (λ z. let past = tag_past z in omega (arith, y.0)) k.1)
      (λ y. ⊎_elim (λ z. let past = number_past z in omega (arith, y.0)) (λ z. let past = tag_past z in omega (arith, y.0)) k.1)
      x)
      (λ x. ⊎_elim (λ z. let it = x.1 in let same = uint_same s it.number z.number in omega (arith, x.2, k.2)) (λ z. number_no_tag x.1 z) k.1)
      h

  tag_open_no_large : Spells (Good TagOpen) s a b → IsLargeHash s a b → ⊥
  tag_open_no_large h k =
      ⊎_elim
      (λ x. ⊎_elim (λ z. number_no_three z x) (λ z. tag_no_three z x) k.1)
      (λ x. ⊎_elim (λ z. number_no_tag z x.1) (λ z. let same = tag_same x.1 z in omega (arith, x.2, k.2)) k.1)
      h

  head_no_large : slice_index s (a + 3) ≡ 60 → IsLargeHash s a b → ⊥
  head_no_large sign k = ⊎_elim (λ z. number_no_head z sign) (λ z. tag_no_head z sign) k.1

  hash_begins : Spells (Good Hash) s a b → slice_index s a ≡ 35
  hash_begins h = ⊎_elim (λ x. ⊎_elim (λ y. y.1) (λ y. y.1) x) (λ x. x.1.hash) h

  tag_open_begins : Spells (Good TagOpen) s a b → slice_index s a ≡ 35
  tag_open_begins h = ⊎_elim (λ x. x.1) (λ x. x.1.number.hash) h

  pub hash_one : Spells (Good Hash) s a b → (r : Reading) → Spells r s a b → r ≡ Good Hash
  hash_one h (Good Hash) k = refl
  hash_one h (Good TagOpen) k = absurd (hash_no_tag h k)
  hash_one h (Good TagHeadOpen) k = absurd (hash_no_head h k.0 k.4)
  hash_one h (Good SimpleHeadOpen) k = absurd (hash_no_head h k.0 k.4)
  hash_one h (Bad Misspelled) k = absurd (no_signed s a (hash_begins h) (misspelled_begins s a b k))
  hash_one h (Bad Fractional) k = absurd (no_signed s a (hash_begins h) (float_begins s a b k))
  hash_one h (Bad TooLarge) k = absurd (hash_no_large h (large_is (hash_begins h) k))
  hash_one h r k = absurd (elsewhere r s a b (hash_begins h) refl k)

  pub tag_open_one : Spells (Good TagOpen) s a b → (r : Reading) → Spells r s a b → r ≡ Good TagOpen
  tag_open_one h (Good Hash) k = absurd (hash_no_tag k h)
  tag_open_one h (Good TagOpen) k = refl
  tag_open_one h (Good TagHeadOpen) k = absurd (tag_open_no_head h k.0 k.4)
  tag_open_one h (Good SimpleHeadOpen) k = absurd (tag_open_no_head h k.0 k.4)
  tag_open_one h (Bad Misspelled) k = absurd (no_signed s a (tag_open_begins h) (misspelled_begins s a b k))
  tag_open_one h (Bad Fractional) k = absurd (no_signed s a (tag_open_begins h) (float_begins s a b k))
  tag_open_one h (Bad TooLarge) k = absurd (tag_open_no_large h (large_is (tag_open_begins h) k))
  tag_open_one h r k = absurd (elsewhere r s a b (tag_open_begins h) refl k)

  pub tag_head_one : Spells (Good TagHeadOpen) s a b → (r : Reading) → Spells r s a b → r ≡ Good TagHeadOpen
  tag_head_one h (Good Hash) k = absurd (hash_no_head k h.0 h.4)
  tag_head_one h (Good TagOpen) k = absurd (tag_open_no_head k h.0 h.4)
  tag_head_one h (Good TagHeadOpen) k = refl
  tag_head_one h (Good SimpleHeadOpen) k = absurd (omega (arith, h.2, k.2))
  tag_head_one h (Bad Misspelled) k = absurd (no_signed s a h.1 (misspelled_begins s a b k))
  tag_head_one h (Bad Fractional) k = absurd (no_signed s a h.1 (float_begins s a b k))
  tag_head_one h (Bad TooLarge) k = absurd (head_no_large h.4 (large_is h.1 k))
  tag_head_one h r k = absurd (elsewhere r s a b h.1 refl k)

  pub simple_head_one : Spells (Good SimpleHeadOpen) s a b → (r : Reading) → Spells r s a b → r ≡ Good SimpleHeadOpen
  simple_head_one h (Good Hash) k = absurd (hash_no_head k h.0 h.4)
  simple_head_one h (Good TagOpen) k = absurd (tag_open_no_head k h.0 h.4)
  simple_head_one h (Good TagHeadOpen) k = absurd (omega (arith, h.2, k.2))
  simple_head_one h (Good SimpleHeadOpen) k = refl
  simple_head_one h (Bad Misspelled) k = absurd (no_signed s a h.1 (misspelled_begins s a b k))
  simple_head_one h (Bad Fractional) k = absurd (no_signed s a h.1 (float_begins s a b k))
  simple_head_one h (Bad TooLarge) k = absurd (head_no_large h.4 (large_is h.1 k))
  simple_head_one h r k = absurd (elsewhere r s a b h.1 refl k)

  module _ (law : (m : Meaning) → IsNumber s a b m → IsTooLarge s a b → ⊥) where
    pub too_large_one : Spells (Bad TooLarge) s a b → (r : Reading) → Spells r s a b → r ≡ Bad TooLarge
    too_large_one h (Good Number) k = absurd (number_no_large s a b law k h)
    too_large_one h (Good Occur) k = absurd (occur_no_large s a b k h)
    too_large_one h (Good Hash) k = absurd (hash_no_large k (large_is (hash_begins k) h))
    too_large_one h (Good TagOpen) k = absurd (tag_open_no_large k (large_is (tag_open_begins k) h))
    too_large_one h (Good TagHeadOpen) k = absurd (head_no_large k.4 (large_is k.1 h))
    too_large_one h (Good SimpleHeadOpen) k = absurd (head_no_large k.4 (large_is k.1 h))
    too_large_one h (Bad Misspelled) k = absurd (misspelled_no_large s a b k h)
    too_large_one h (Bad Fractional) k = absurd (float_no_large s a b k h)
    too_large_one h (Bad TooLarge) k = refl
    too_large_one h r k =
        absurd
        (⊎_elim
        (λ n. not_numeric s a b form.Uint r tt (too_large_shape s a b n) k)
        (λ other. ⊎_elim (λ star. not_starred s a b star.2 r tt k) (λ hash. elsewhere r s a b (hash_first s a b hash) refl k) other)
        h)
