-- Literals begin and end with ASCII.
use Rattle.std.proofs.Common.{◌≡◌, ℕ, ◌+◌, ◌-◌, ◌<◌, ◌⊎◌, inl, inr, Bool, true, false, List, slice_index, subst, arith}
use Rattle.std.proofs.lemmas.Bool.Decides.{nat_tests}
use Rattle.hex.specs.Hex.{is_hex_digit}
use Rattle.cddl_literal.specs.Bytes.{IsRun, HasAsciiEnds, is_decimal_digit, is_binary_digit, is_h, is_b}
use Rattle.cddl_literal.specs.Numbers.{IsUint, decimal, hexadecimal, binary, Meaning, IsSigned, IsNumber}
use Rattle.cddl_literal.specs.Strings.{IsQuoted}
use Rattle.cddl_literal.specs.Prefixed.{IsPrefixed}
use Rattle.cddl_literal.specs.Literals.{IsBytes}
use Rattle.cddl_literal.specs.declared.Quote.{Quote}
use Rattle.cddl_literal.specs.declared.Quote.TheVariants.{Single}
use Rattle.cddl_literal.specs.declared.Coding.{Coding}
use Rattle.cddl_literal.proofs.UintFacts.{uint_past}
use Rattle.cddl_literal.proofs.StringFacts.{characters_le, quote_ascii}
use Rattle.cddl_literal.proofs.PrefixedFacts.{coded_le}
use Rattle.cddl_literal.proofs.OneMeaning.{opens_letter}
use Rattle.cddl_literal.proofs.CutFacts.{inside, quote_some, opens_le, uint_inside}

pub quoted_ends : (q : Quote) (s : List ℕ) (a b : ℕ) (v : List ℕ) → IsQuoted q s a b v → HasAsciiEnds s a b
quoted_ends q s a b v h =
    let within = inside s h.end (quote_some q (slice_index s h.end) h.closes) in
    let past = characters_le h.holds in
    let ends = h.ends in
    let last : h.end ≡ b - 1 = omega arith in
    record {
      nonempty = omega arith;
      within = omega arith;
      first = quote_ascii q (slice_index s a) h.opens;
      last = subst (λ k. slice_index s k < 128) last (quote_ascii q (slice_index s h.end) h.closes);
    }

letter_ascii : (b : ℕ) → (is_h b ≡ true) ⊎ (is_b b ≡ true) → b < 128
letter_ascii b (inl h) = grind (arith, nat_tests)
letter_ascii b (inr h) = grind (arith, nat_tests)

pub prefixed_ends : (c : Coding) (s : List ℕ) (a b : ℕ) (d : List ℕ) → IsPrefixed c s a b d → HasAsciiEnds s a b
prefixed_ends c s a b d h =
    let within = inside s h.end (λ z. omega (arith, h.closes)) in
    let past = coded_le h.holds in
    let opened = opens_le c s a h.start h.opens in
    let ends = h.ends in
    let last : h.end ≡ b - 1 = omega arith in
    record {
      nonempty = omega arith;
      within = omega arith;
      first = letter_ascii (slice_index s a) (opens_letter c s a h.start h.opens);
      last = subst (λ k. slice_index s k < 128) last (omega (arith, h.closes));
    }

pub bytes_ends : (s : List ℕ) (a b : ℕ) (v : List ℕ) → IsBytes s a b v → HasAsciiEnds s a b
bytes_ends s a b v (inl h) = quoted_ends Single s a b v h
bytes_ends s a b v (inr (c, d, p, e)) = prefixed_ends c s a b d p

digit_ascii : (b : ℕ) → is_decimal_digit b ≡ true → b < 128
digit_ascii b h = grind (arith, nat_tests)

hex_ascii : (b : ℕ) → is_hex_digit b ≡ true → b < 128
hex_ascii b h = grind (arith, nat_tests)

binary_ascii : (b : ℕ) → is_binary_digit b ≡ true → b < 128
binary_ascii b h = grind (arith, nat_tests)

run_last : (f : ℕ → Bool) → ((x : ℕ) → f x ≡ true → x < 128) → (s : List ℕ) (a b : ℕ) → IsRun f s a b → slice_index s (b - 1) < 128
run_last f ascii s a b r = let past = r.nonempty in ascii (slice_index s (b - 1)) (r.holds (b - 1) (omega arith) (omega arith))

uint_first : (s : List ℕ) (a b n : ℕ) → IsUint s a b n → slice_index s a < 128
uint_first s a b n (decimal r z h) = digit_ascii (slice_index s a) (r.holds a (omega arith) r.nonempty)
uint_first s a b n (hexadecimal o x r h) = omega arith
uint_first s a b n (binary o x r h) = omega arith

uint_last : (s : List ℕ) (a b n : ℕ) → IsUint s a b n → slice_index s (b - 1) < 128
uint_last s a b n (decimal r z h) = run_last is_decimal_digit digit_ascii s a b r
uint_last s a b n (hexadecimal o x r h) = run_last is_hex_digit hex_ascii s (a + 2) b r
uint_last s a b n (binary o x r h) = run_last is_binary_digit binary_ascii s (a + 2) b r

pub uint_ends : (s : List ℕ) (a b n : ℕ) → IsUint s a b n → HasAsciiEnds s a b
uint_ends s a b n h = record { nonempty = uint_past h; within = uint_inside s a b n h; first = uint_first s a b n h; last = uint_last s a b n h }

signed_ends : (s : List ℕ) (a b : ℕ) (minus : Bool) (n : ℕ) → IsSigned minus s a b n → HasAsciiEnds s a b
signed_ends s a b false n h = uint_ends s a b n h
signed_ends s a b true n h =
    let u = uint_ends s (a + 1) b n h.1 in
    let past = u.nonempty in
    record { nonempty = omega arith; within = u.within; first = omega (arith, h.0); last = u.last }

pub number_ends : (s : List ℕ) (a b : ℕ) (m : Meaning) → IsNumber s a b m → HasAsciiEnds s a b
number_ends s a b m (minus, n, h, e) = signed_ends s a b minus n h
