-- Uints that no longer one hides.
use Rattle.std.proofs.Common.{◌≡◌, ℕ, ◌+◌, ◌<◌, ◌≤◌, ◌⊎◌, inl, inr, false, List, slice_index, sym, refl, ◌∙◌, ⊎_elim, arith}
use Rattle.std.proofs.lemmas.Bool.{cases_lt, false≢true}
use Rattle.hex.specs.Hex.{is_hex_digit}
use Rattle.cddl_literal.specs.Bytes.{Each, is_decimal_digit, is_binary_digit, is_x, is_b}
use Rattle.cddl_literal.specs.Numbers.{IsUint, decimal, hexadecimal, binary}
use Rattle.cddl_token.specs.Numbers.{IsPrefix, IsBound}
use Rattle.cddl_token.specs.Shapes.{is_digit_in, marks_radix, IsLongestBound}
use Rattle.cddl_token.specs.declared.numbers.Radix.{Radix}
use Rattle.cddl_token.specs.declared.numbers.Radix.TheVariants.{Binary, Decimal, Hexadecimal}
use Rattle.cddl_token.proofs.EachFacts.{each_within}
use Rattle.cddl_token.proofs.ShapeFacts.{x_b, zero_run}

module _ (s : List ℕ) (a : ℕ) where
  -- from a bound on uints, one on bounds
  bounded : {d : ℕ} → a ≤ d → ((m n : ℕ) → IsUint s a m n → m ≤ d) → (m n : ℕ) → IsBound s a m n → m ≤ d
  bounded le uints m n h = ⊎_elim (λ e. omega (arith, e.0)) (λ u. uints m n u) h

  -- no `0` first
  pub plain_bound : (d : ℕ) → (slice_index s a ≡ 48 → ⊥) → a ≤ d → Each is_decimal_digit s a d → is_decimal_digit (slice_index s d) ≡ false → IsLongestBound s a d
  plain_bound d no_zero le each stops =
      ⊎_elim
      (λ lt. record { number = _; spelled = inr (decimal (record { nonempty = lt; holds = each }) (λ z. absurd (no_zero z)) refl); longest = bounded le uints })
      (λ ge. record { number = 0; spelled = inl (omega arith, refl); longest = bounded le uints })
      (cases_lt a d)
    where
      uints : (m n : ℕ) → IsUint s a m n → m ≤ d
      uints m n (decimal run alone e) = each_within is_decimal_digit s le stops run.holds
      uints m n (hexadecimal z x run e) = absurd (no_zero z)
      uints m n (binary z b run e) = absurd (no_zero z)

  zero_alone : slice_index s a ≡ 48 → (n : ℕ) × IsUint s a (a + 1) n
  zero_alone zero = (_, decimal (zero_run s a zero) (λ z. refl) refl)

  -- `0` without a letter
  pub zero_bound : slice_index s a ≡ 48 → is_x (slice_index s (a + 1)) ≡ false → is_b (slice_index s (a + 1)) ≡ false → IsLongestBound s a (a + 1)
  zero_bound zero no_x no_b = let u = zero_alone zero in record { number = u.0; spelled = inr u.1; longest = bounded (omega arith) uints }
    where
      uints : (m n : ℕ) → IsUint s a m n → m ≤ a + 1
      uints m n (decimal run alone e) = let same = alone zero in omega arith
      uints m n (hexadecimal z x run e) = absurd (false≢true (sym no_x ∙ x))
      uints m n (binary z b run e) = absurd (false≢true (sym no_b ∙ b))

  module _ (d : ℕ) (le : a + 2 ≤ d) where
    past : a + 1 ≤ d
    past = omega arith

    hex_uints : IsPrefix is_x s a → is_hex_digit (slice_index s d) ≡ false → (m n : ℕ) → IsUint s a m n → (m ≡ a + 1) ⊎ ((a + 2 < m) × (m ≤ d))
    hex_uints prefix stops m n (decimal run alone e) = inl (alone prefix.0)
    hex_uints prefix stops m n (hexadecimal z x run e) = inr (run.nonempty, each_within is_hex_digit s le stops run.holds)
    hex_uints prefix stops m n (binary z b run e) = absurd (x_b (slice_index s (a + 1)) prefix.1 b)

    binary_uints : IsPrefix is_b s a → is_binary_digit (slice_index s d) ≡ false → (m n : ℕ) → IsUint s a m n → (m ≡ a + 1) ⊎ ((a + 2 < m) × (m ≤ d))
    binary_uints prefix stops m n (decimal run alone e) = inl (alone prefix.0)
    binary_uints prefix stops m n (hexadecimal z x run e) = absurd (x_b (slice_index s (a + 1)) x prefix.1)
    binary_uints prefix stops m n (binary z b run e) = inr (run.nonempty, each_within is_binary_digit s le stops run.holds)

    prefixed_uints : (radix : Radix) → IsPrefix (marks_radix radix) s a → is_digit_in radix (slice_index s d) ≡ false → (m n : ℕ) → IsUint s a m n → (m ≡ a + 1) ⊎ ((a + 2 < m) × (m ≤ d))
    prefixed_uints Hexadecimal prefix stops m n h = hex_uints prefix stops m n h
    prefixed_uints Binary prefix stops m n h = binary_uints prefix stops m n h
    prefixed_uints Decimal prefix stops m n h = absurd (false≢true prefix.1)

    pub bare_bound : (radix : Radix) → IsPrefix (marks_radix radix) s a → is_digit_in radix (slice_index s d) ≡ false → d ≡ a + 2 → IsLongestBound s a (a + 1)
    bare_bound radix prefix stops none = let u = zero_alone prefix.0 in record { number = u.0; spelled = inr u.1; longest = bounded (omega arith) (λ m n h. ⊎_elim (λ e. omega arith) (λ more. absurd (omega (arith, more.0, more.1))) (prefixed_uints radix prefix stops m n h)) }

    prefixed_uint : (radix : Radix) → IsPrefix (marks_radix radix) s a → Each (is_digit_in radix) s (a + 2) d → a + 2 < d → (n : ℕ) × IsUint s a d n
    prefixed_uint Hexadecimal prefix each some = (_, hexadecimal prefix.0 prefix.1 (record { nonempty = some; holds = each }) refl)
    prefixed_uint Binary prefix each some = (_, binary prefix.0 prefix.1 (record { nonempty = some; holds = each }) refl)
    prefixed_uint Decimal prefix each some = absurd (false≢true prefix.1)

    pub prefixed_bound : (radix : Radix) → IsPrefix (marks_radix radix) s a → Each (is_digit_in radix) s (a + 2) d → is_digit_in radix (slice_index s d) ≡ false → a + 2 < d → IsLongestBound s a d
    prefixed_bound radix prefix each stops some =
        let u = prefixed_uint radix prefix each some in
        record { number = u.0; spelled = inr u.1; longest = bounded (omega arith) (λ m n h. ⊎_elim (λ e. omega arith) (λ more. more.1) (prefixed_uints radix prefix stops m n h)) }
