-- Which escapes are at an offset.
use Rattle.std.proofs.Common.{◌<◌, ◌-◌, ◌≡◌, ◌≢◌, ℕ, ◌+◌, ◌≤◌, inl, inr, Bool, true, false, List, Some, slice_index, sym, refl, ap, subst, ◌∙◌, ⊎_elim, arith}
use Rattle.std.proofs.lemmas.Bool.{false≢true, cases_lt, cases_eq}
use Rattle.std.proofs.lemmas.Bool.Decides.{nat_tests}
use lib.Utf8.{scalar_cases}
use Rattle.std.specs.Char.{IsScalar}
use Rattle.hex.specs.Hex.{is_hex_digit}
use Rattle.cddl_literal.specs.Bytes.{Each, IsRun}
use Rattle.cddl_literal.specs.Numbers.{number_in}
use Rattle.cddl_literal.specs.Escapes.{letter_in, IsUnit, IsHighSurrogate, IsLowSurrogate, pair_scalar, Escape, letter, unit, pair, braces}
use Rattle.cddl_literal.specs.declared.Quote.{Quote}
use Rattle.cddl_literal.specs.declared.Quote.TheVariants.{Double, Single}

-- runs end where the first byte is that does not pass
pub run_one : (p : ℕ → Bool) (s : List ℕ) (a j k : ℕ) → Each p s a j → a ≤ j → p (slice_index s j) ≡ false → Each p s a k → a ≤ k → p (slice_index s k) ≡ false → j ≡ k
run_one p s a j k first from stops second since halts =
    ⊎_elim
    (λ lt. absurd (false≢true (sym stops ∙ second j from lt)))
    (λ ge. ⊎_elim (λ lt. absurd (false≢true (sym halts ∙ first k since lt))) (λ le. omega arith) (cases_lt k j))
    (cases_lt j k)

pub no_letter_u : (quote : Quote) (b v : ℕ) → b ≡ 117 → letter_in quote b ≡ Some v → ⊥
no_letter_u Double b v e h = let same : letter_in Double 117 ≡ Some v = ap (letter_in Double) (sym e) ∙ h in cc
no_letter_u Single b v e h = let same : letter_in Single 117 ≡ Some v = ap (letter_in Single) (sym e) ∙ h in cc

not_hex : (b : ℕ) (c : ℕ) → b ≡ c → is_hex_digit c ≡ false → is_hex_digit b ≡ true → ⊥
not_hex b c e other hex = false≢true (sym other ∙ ap is_hex_digit (sym e) ∙ hex)

pub escape_backslash : {quote : Quote} {s : List ℕ} {i j v : ℕ} → Escape quote s i j v → slice_index s i ≡ 92
escape_backslash (letter b l e) = b
escape_backslash (unit u c e) = u.backslash
escape_backslash (pair h l u a w b f e) = u.backslash
escape_backslash (braces k b u o r c f a e) = b

pub escape_past : {quote : Quote} {s : List ℕ} {i j v : ℕ} → Escape quote s i j v → i + 2 ≤ j
escape_past (letter b l e) = omega arith
escape_past (unit u c e) = omega arith
escape_past (pair h l u a w b f e) = omega arith
escape_past (braces k b u o r c f a e) = let past = r.nonempty in omega arith

-- the escape of a letter other than `u`
pub letter_of : {quote : Quote} {s : List ℕ} {i j v : ℕ} → Escape quote s i j v → slice_index s (i + 1) ≢ 117 → (letter_in quote (slice_index s (i + 1)) ≡ Some v) × (j ≡ i + 2)
letter_of (letter b l e) other = (l, e)
letter_of (unit u c e) other = absurd (other u.letter)
letter_of (pair h l u a w b f e) other = absurd (other u.letter)
letter_of (braces k b u o r c f a e) other = absurd (other u)

-- the parts of an escape with braces
pub record IsBraced (s : List ℕ) (i j v : ℕ) : Type 0 where
  pub close : ℕ
  pub digits : IsRun is_hex_digit s (i + 3) close
  pub closes : slice_index s close ≡ 125
  pub number : v ≡ number_in 16 s (i + 3) close
  pub scalar : IsScalar v
  pub ends : j ≡ close + 1

unit_no_brace : {s : List ℕ} {i n : ℕ} → IsUnit s i n → slice_index s (i + 2) ≢ 123
unit_no_brace {s} {i} u brace = not_hex (slice_index s (i + 2)) 123 brace refl (u.digits (i + 2) (omega arith) (omega arith))

pub braced_of : {quote : Quote} {s : List ℕ} {i j v : ℕ} → Escape quote s i j v → slice_index s (i + 1) ≡ 117 → slice_index s (i + 2) ≡ 123 → IsBraced s i j v
braced_of {quote} {s} {i} {v = v} (letter b l e) u brace = absurd (no_letter_u quote (slice_index s (i + 1)) v u l)
braced_of (unit u c e) w brace = absurd (unit_no_brace u brace)
braced_of (pair h l u a w b f e) x brace = absurd (unit_no_brace u brace)
braced_of (braces k b u o r c f a e) w brace = record { close = k; digits = r; closes = c; number = f; scalar = a; ends = e }

-- the parts of an escape of two surrogates
pub record IsPair (s : List ℕ) (i j v : ℕ) : Type 0 where
  pub high : ℕ
  pub low : ℕ
  pub first : IsUnit s i high
  pub is_high : IsHighSurrogate high
  pub second : IsUnit s (i + 6) low
  pub is_low : IsLowSurrogate low
  pub number : v ≡ pair_scalar high low
  pub ends : j ≡ i + 12

-- the escape is one of `\u` and four digits, or two
pub data IsUnits (s : List ℕ) (i j v : ℕ) : Type 0 where
  alone : IsUnit s i v → IsScalar v → j ≡ i + 6 → IsUnits s i j v
  joins : IsPair s i j v → IsUnits s i j v

pub units_of : {quote : Quote} {s : List ℕ} {i j v : ℕ} → Escape quote s i j v → slice_index s (i + 1) ≡ 117 → slice_index s (i + 2) ≢ 123 → IsUnits s i j v
units_of {quote} {s} {i} {v = v} (letter b l e) u brace = absurd (no_letter_u quote (slice_index s (i + 1)) v u l)
units_of (unit u c e) w brace = alone u c e
units_of (pair h l u a w b f e) x brace = joins (record { high = h; low = l; first = u; is_high = a; second = w; is_low = b; number = f; ends = e })
units_of (braces k b u o r c f a e) w brace = absurd (brace o)

pub unit_one : {s : List ℕ} {i m n : ℕ} → IsUnit s i m → IsUnit s i n → n ≡ m
unit_one u w = w.number ∙ sym u.number

-- no surrogate is a scalar value
pub high_no_scalar : (n : ℕ) → IsHighSurrogate n → IsScalar n → ⊥
high_no_scalar n h s = ⊎_elim (λ a. omega arith) (λ b. omega arith) (scalar_cases n s)

units_one : {s : List ℕ} {i j v k w : ℕ} → IsUnits s i j v → IsUnits s i k w → (k ≡ j) × (w ≡ v)
units_one (alone u c e) (alone u2 c2 e2) = (omega arith, unit_one u u2)
units_one {v = v} (alone u c e) (joins p) = absurd (high_no_scalar p.high p.is_high (subst IsScalar (sym (unit_one u p.first)) c))
units_one {w = w} (joins p) (alone u c e) = absurd (high_no_scalar p.high p.is_high (subst IsScalar (unit_one p.first u) c))
units_one (joins p) (joins r) =
    let high : r.high ≡ p.high = unit_one p.first r.first in
    let low : r.low ≡ p.low = unit_one p.second r.second in
    (omega (arith, p.ends, r.ends), r.number ∙ ap (λ n. pair_scalar n r.low) high ∙ ap (pair_scalar p.high) low ∙ sym p.number)

braced_one : {s : List ℕ} {i j v k w : ℕ} → IsBraced s i j v → IsBraced s i k w → (k ≡ j) × (w ≡ v)
braced_one {s} {i} p r =
    let same : r.close ≡ p.close = run_one is_hex_digit s (i + 3) r.close p.close r.digits.holds (let n = r.digits.nonempty in omega arith) (ap is_hex_digit r.closes) p.digits.holds (let n = p.digits.nonempty in omega arith) (ap is_hex_digit p.closes) in
    (omega (arith, p.ends, r.ends), r.number ∙ ap (number_in 16 s (i + 3)) same ∙ sym p.number)

some_same : {m n : ℕ} → Some m ≡ Some n → n ≡ m
some_same e = cc

-- one escape at most is at an offset, and it means one character
pub escape_one : {quote : Quote} {s : List ℕ} {i j v k w : ℕ} → Escape quote s i j v → Escape quote s i k w → (k ≡ j) × (w ≡ v)
escape_one {s} {i} e f =
    elim (cases_eq (slice_index s (i + 1)) 117) [
      | inl u ↦ elim (cases_eq (slice_index s (i + 2)) 123) [
        | inl brace ↦ braced_one (braced_of e u brace) (braced_of f u brace)
        | inr other ↦ units_one (units_of e u other) (units_of f u other)
      ]
      | inr other ↦
          let first = letter_of e other in
          let second = letter_of f other in
          (omega (arith, first.1, second.1), some_same (sym first.0 ∙ second.0))
    ]

letter_ascii : (quote : Quote) (b v : ℕ) → letter_in quote b ≡ Some v → b < 128
letter_ascii Double b v h = grind (arith, nat_tests)
letter_ascii Single b v h = grind (arith, nat_tests)

hex_ascii : (b : ℕ) → is_hex_digit b ≡ true → b < 128
hex_ascii b h = grind (arith, nat_tests)

-- the last byte of an escape is ASCII
pub escape_ascii : {quote : Quote} {s : List ℕ} {i j v : ℕ} → Escape quote s i j v → slice_index s (j - 1) < 128
escape_ascii {quote} {s} {i} {j} {v} (letter b l e) = let last : i + 1 ≡ j - 1 = omega arith in subst (λ k. slice_index s k < 128) last (letter_ascii quote (slice_index s (i + 1)) v l)
escape_ascii {quote} {s} {i} {j} {v} (unit u c e) = let last : i + 5 ≡ j - 1 = omega arith in subst (λ k. slice_index s k < 128) last (hex_ascii (slice_index s (i + 5)) (u.digits (i + 5) (omega arith) (omega arith)))
escape_ascii {quote} {s} {i} {j} {v} (pair h l u a w b f e) = let last : i + 6 + 5 ≡ j - 1 = omega arith in subst (λ k. slice_index s k < 128) last (hex_ascii (slice_index s (i + 6 + 5)) (w.digits (i + 6 + 5) (omega arith) (omega arith)))
escape_ascii {quote} {s} {i} {j} {v} (braces k b u o r c f a e) = let last : k ≡ j - 1 = omega arith in subst (λ k. slice_index s k < 128) last (omega (arith, c))
