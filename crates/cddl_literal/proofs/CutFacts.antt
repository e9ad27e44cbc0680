-- What is in a part of a source is the same in that part alone.
use Rattle.std.proofs.Common.{◌≡◌, ◌≢◌, ℕ, ◌+◌, ◌-◌, ◌<◌, ◌≤◌, inl, inr, Bool, true, false, List, ◌∷◌, take, drop, length, slice_index, sym, refl, ap, subst, ◌∙◌, ⊎_elim, arith}
use Rattle.std.proofs.lemmas.Bool.{cases_lt}
use Rattle.std.proofs.lemmas.Bool.Decides.{nat_tests}
use Rattle.std.proofs.lemmas.List.{drop-take, drop-drop, take-take, get_or-take, get_or-drop, length-take-le, length-drop, get_or_past}
use Rattle.std.specs.Prelude.{slice_range}
use Rattle.hex.specs.Hex.{is_hex_digit}
use Rattle.cddl_literal.specs.Bytes.{Each, IsRun, is_decimal_digit, is_binary_digit, is_x, is_b, is_h, is_blank}
use Rattle.cddl_literal.specs.Numbers.{number_after, number_in, IsUint, decimal, hexadecimal, binary, Meaning, IsSigned, IsNumber}
use Rattle.cddl_literal.specs.Escapes.{IsUnit, Escape, letter, unit, pair, braces, letter_in}
use Rattle.cddl_literal.specs.Strings.{quote_byte, is_plain, Characters, none, plain, escape, line, IsQuoted}
use Rattle.cddl_literal.specs.Prefixed.{Coded, none as coded_end, blank, line as coded_line, comment, other, IsCrLf, IsCommentTo, EndsComment, is_in_inner_comment, is_other, Opens, IsPrefixed}
use Rattle.cddl_literal.specs.Literals.{IsBytes}
use Rattle.cddl_literal.specs.declared.Quote.{Quote}
use Rattle.cddl_literal.specs.declared.Quote.TheVariants.{Double, Single}
use Rattle.cddl_literal.specs.declared.Coding.{Coding}
use Rattle.cddl_literal.specs.declared.Coding.TheVariants.{Hex, Base64}
use Rattle.cddl_literal.proofs.EscapeFacts.{escape_past}
use Rattle.cddl_literal.proofs.UintFacts.{uint_past}
use Rattle.cddl_literal.proofs.StringFacts.{characters_le}
use Rattle.cddl_literal.proofs.PrefixedFacts.{coded_le}

-- t is the n bytes of s from a on
pub record IsPart (s t : List ℕ) (a n : ℕ) : Type 0 where
  pub at : (k : ℕ) → k < n → slice_index t k ≡ slice_index s (a + k)
  pub range : (x y : ℕ) → x ≤ y → y ≤ n → slice_range t x y ≡ slice_range s (a + x) (a + y)
  pub whole : length t ≡ n

module _ (s t : List ℕ) (a n : ℕ) (part : IsPart s t a n) where
  at_place : (k p : ℕ) → p ≡ a + k → k < n → slice_index t k ≡ slice_index s p
  at_place k p e lt = part.at k lt ∙ ap (λ m. slice_index s m) (sym e)

  byte_cut : (k p c : ℕ) → p ≡ a + k → k < n → slice_index s p ≡ c → slice_index t k ≡ c
  byte_cut k p c e lt h = at_place k p e lt ∙ h

  test_cut : (f : ℕ → Bool) (k p : ℕ) → p ≡ a + k → k < n → f (slice_index s p) ≡ true → f (slice_index t k) ≡ true
  test_cut f k p e lt h = ap f (at_place k p e lt) ∙ h

  each_cut : (f : ℕ → Bool) (x y p q : ℕ) → p ≡ a + x → q ≡ a + y → y ≤ n → Each f s p q → Each f t x y
  each_cut f x y p q e g le h = λ k low high. test_cut f k (a + k) refl (omega arith) (h (a + k) (omega arith) (omega arith))

  run_cut : (f : ℕ → Bool) (x y p q : ℕ) → p ≡ a + x → q ≡ a + y → y ≤ n → IsRun f s p q → IsRun f t x y
  run_cut f x y p q e g le h = record { nonempty = (let some = h.nonempty in omega arith); holds = each_cut f x y p q e g le h.holds }

  number_cut : (base x y p q m : ℕ) → p ≡ a + x → q ≡ a + y → x ≤ y → y ≤ n → m ≡ number_in base s p q → m ≡ number_in base t x y
  number_cut base x y p q m e g le in_part h = h ∙ ap (number_after base 0) (ap (λ k. slice_range s k q) e ∙ ap (λ k. slice_range s (a + x) k) g ∙ sym (part.range x y le in_part))

  uint_cut : (x y p q m : ℕ) → p ≡ a + x → q ≡ a + y → y ≤ n → IsUint s p q m → IsUint t x y m
  uint_cut x y p q m e g le (decimal r z h) =
      let some = r.nonempty in
      decimal (run_cut _ x y p q e g le r) (λ b. let one = z (sym (at_place x p e (omega arith)) ∙ b) in omega arith) (number_cut 10 x y p q m e g (omega arith) le h)
  uint_cut x y p q m e g le (hexadecimal o b r h) =
      let some = r.nonempty in
      hexadecimal (byte_cut x p 48 e (omega arith) o) (test_cut is_x (x + 1) (p + 1) (omega arith) (omega arith) b) (run_cut _ (x + 2) y (p + 2) q (omega arith) g le r) (number_cut 16 (x + 2) y (p + 2) q m (omega arith) g (omega arith) le h)
  uint_cut x y p q m e g le (binary o b r h) =
      let some = r.nonempty in
      binary (byte_cut x p 48 e (omega arith) o) (test_cut is_b (x + 1) (p + 1) (omega arith) (omega arith) b) (run_cut _ (x + 2) y (p + 2) q (omega arith) g le r) (number_cut 2 (x + 2) y (p + 2) q m (omega arith) g (omega arith) le h)

  unit_cut : (i p m : ℕ) → p ≡ a + i → i + 6 ≤ n → IsUnit s p m → IsUnit t i m
  unit_cut i p m e le u = record {
    backslash = byte_cut i p 92 e (omega arith) u.backslash;
    letter = byte_cut (i + 1) (p + 1) 117 (omega arith) (omega arith) u.letter;
    digits = each_cut is_hex_digit (i + 2) (i + 6) (p + 2) (p + 6) (omega arith) (omega arith) le u.digits;
    number = number_cut 16 (i + 2) (i + 6) (p + 2) (p + 6) m (omega arith) (omega arith) (omega arith) le u.number;
  }

  escape_cut : (quote : Quote) (i j p q v : ℕ) → p ≡ a + i → q ≡ a + j → j ≤ n → Escape quote s p q v → Escape quote t i j v
  escape_cut quote i j p q v e g le (letter b l h) =
      letter (byte_cut i p 92 e (omega arith) b) (ap (letter_in quote) (at_place (i + 1) (p + 1) (omega arith) (omega arith)) ∙ l) (omega arith)
  escape_cut quote i j p q v e g le (unit u c h) = unit (unit_cut i p v e (omega arith) u) c (omega arith)
  escape_cut quote i j p q v e g le (pair high low u f w k d h) =
      pair high low (unit_cut i p high e (omega arith) u) f (unit_cut (i + 6) (p + 6) low (omega arith) (omega arith) w) k d (omega arith)
  escape_cut quote i j p q v e g le (braces k b u o r c f d h) =
      let some = r.nonempty in
      let close : k ≡ a + (k - a) = omega arith in
      let inside : k - a < n = omega arith in
      braces (k - a) (byte_cut i p 92 e (omega arith) b) (byte_cut (i + 1) (p + 1) 117 (omega arith) (omega arith) u) (byte_cut (i + 2) (p + 2) 123 (omega arith) (omega arith) o) (run_cut _ (i + 3) (k - a) (p + 3) k (omega arith) close (omega arith) r) (byte_cut (k - a) k 125 close inside c) (number_cut 16 (i + 3) (k - a) (p + 3) k v (omega arith) close (omega arith) (omega arith) f) d (omega arith)

  characters_cut : (quote : Quote) (i j p q : ℕ) (v : List ℕ) → p ≡ a + i → q ≡ a + j → j ≤ n → Characters quote s p q v → Characters quote t i j v
  characters_cut quote i j p q v e g le (none same h) = none (omega arith) h
  characters_cut quote i j p q v e g le (plain {w = w} b r h) =
      let inner = characters_le r in
      plain (test_cut (is_plain quote) i p e (omega arith) b) (characters_cut quote (i + 1) j (p + 1) q w (omega arith) g le r) (h ∙ ap (λ x. x ∷ w) (sym (at_place i p e (omega arith))))
  characters_cut quote i j p q v e g le (escape {k = k} {w = w} x r h) =
      let inner = characters_le r in
      let past = escape_past x in
      let next : k ≡ a + (k - a) = omega arith in
      escape (escape_cut quote i (k - a) p k _ e next (omega arith) x) (characters_cut quote (k - a) j k q w next g le r) h
  characters_cut quote i j p q v e g le (line {w = w} o c f r h) =
      let inner = characters_le r in
      line o (byte_cut i p 13 e (omega arith) c) (byte_cut (i + 1) (p + 1) 10 (omega arith) (omega arith) f) (characters_cut quote (i + 2) j (p + 2) q w (omega arith) g le r) h

  cr_lf_cut : (i p : ℕ) → p ≡ a + i → i + 1 < n → IsCrLf s p → IsCrLf t i
  cr_lf_cut i p e lt h = (byte_cut i p 13 e (omega arith) h.0, byte_cut (i + 1) (p + 1) 10 (omega arith) lt h.1)

  comment_cut : (i k p q : ℕ) → p ≡ a + i → q ≡ a + k → k ≤ n → IsCommentTo s p q → IsCommentTo t i k
  comment_cut i k p q e g le m =
      let past = m.past in
      record { begins = byte_cut i p 59 e (omega arith) m.begins; past = omega arith; holds = each_cut is_in_inner_comment (i + 1) k (p + 1) q (omega arith) g le m.holds }

  -- a comment ends before what closes the string, or there
  ends_cut : (k j p q : ℕ) → p ≡ a + k → q ≡ a + j → k ≤ j → j < n → slice_index s q ≡ 39 → EndsComment s p → EndsComment t k
  ends_cut k j p q e g le lt closes (inl (inl h)) = inl (inl (byte_cut k p 10 e (omega arith) h))
  ends_cut k j p q e g le lt closes (inl (inr h)) =
      inl (inr (⊎_elim (λ before. cr_lf_cut k p e (omega arith) h) (λ there. let same : q ≡ p = omega arith in absurd (let b = ap (λ m. slice_index s m) same in omega (arith, b, h.0))) (cases_lt k j)))
  ends_cut k j p q e g le lt closes (inr h) = inr (byte_cut k p 39 e (omega arith) h)

  coded_cut : (i j p q : ℕ) (d : List ℕ) → p ≡ a + i → q ≡ a + j → j < n → slice_index s q ≡ 39 → Coded s p q d → Coded t i j d
  coded_cut i j p q d e g lt closes (coded_end same h) = coded_end (omega arith) h
  coded_cut i j p q d e g lt closes (blank b r) =
      let inner = coded_le r in
      blank (test_cut is_blank i p e (omega arith) b) (coded_cut (i + 1) j (p + 1) q d (omega arith) g lt closes r)
  coded_cut i j p q d e g lt closes (coded_line c r) =
      let inner = coded_le r in
      coded_line (cr_lf_cut i p e (omega arith) c) (coded_cut (i + 2) j (p + 2) q d (omega arith) g lt closes r)
  coded_cut i j p q d e g lt closes (comment {k = k} m ends r) =
      let inner = coded_le r in
      let past = m.past in
      let next : k ≡ a + (k - a) = omega arith in
      comment (comment_cut i (k - a) p k e next (omega arith) m) (ends_cut (k - a) j k q next g (omega arith) lt closes ends) (coded_cut (k - a) j k q d next g lt closes r)
  coded_cut i j p q d e g lt closes (other {c = c} w b no_line r h) =
      let inner = coded_le r in
      let size = part.whole in
      other (omega arith) (test_cut is_other i p e (omega arith) b) (λ l. no_line (sym (at_place i p e (omega arith)) ∙ l.0, sym (at_place (i + 1) (p + 1) (omega arith) (omega arith)) ∙ l.1)) (coded_cut (i + 1) j (p + 1) q c (omega arith) g lt closes r) (h ∙ ap (λ x. x ∷ c) (sym (at_place i p e (omega arith))))

  opens_cut : (coding : Coding) (i j p q : ℕ) → p ≡ a + i → q ≡ a + j → j ≤ n → Opens coding s p q → Opens coding t i j
  opens_cut Hex i j p q e g le h = (test_cut is_h i p e (omega (arith, h.2)) h.0, byte_cut (i + 1) (p + 1) 39 (omega arith) (omega (arith, h.2)) h.1, omega (arith, h.2))
  opens_cut Base64 i j p q e g le h = (test_cut is_b i p e (omega (arith, h.4)) h.0, byte_cut (i + 1) (p + 1) 54 (omega arith) (omega (arith, h.4)) h.1, byte_cut (i + 2) (p + 2) 52 (omega arith) (omega (arith, h.4)) h.2, byte_cut (i + 3) (p + 3) 39 (omega arith) (omega (arith, h.4)) h.3, omega (arith, h.4))

pub opens_le : (coding : Coding) (s : List ℕ) (a e : ℕ) → Opens coding s a e → a < e
opens_le Hex s a e h = omega (arith, h.2)
opens_le Base64 s a e h = omega (arith, h.4)

-- a byte that is not 0 is inside
pub inside : (s : List ℕ) (i : ℕ) → slice_index s i ≢ 0 → i < length s
inside s i h = ⊎_elim (λ lt. lt) (λ ge. absurd (h (get_or_past s i 0 ge))) (cases_lt i (length s))

pub part_of : (s : List ℕ) (a b : ℕ) → a ≤ b → b ≤ length s → IsPart s (slice_range s a b) a (b - a)
part_of s a b le in_source = record {
  at = λ k lt. get_or-take (b - a) (drop a s) k 0 lt ∙ get_or-drop a s k 0;
  range = λ x y low high.
      let rest : b - a ≡ x + (b - a - x) = omega arith in
      let size : y - x ≡ a + y - (a + x) = omega arith in
      ap (λ n. take (y - x) (drop x (take n (drop a s)))) rest
      ∙ ap (take (y - x)) (drop-take x (b - a - x) (drop a s))
      ∙ take-take (y - x) (b - a - x) (drop x (drop a s)) (omega arith)
      ∙ ap (take (y - x)) (drop-drop x a s)
      ∙ ap (λ n. take n (drop (a + x) s)) size;
  whole = length-take-le (b - a) (drop a s) (omega (arith, length-drop a s));
}

-- the offsets of a string's signs
pub quote_some : (q : Quote) (b : ℕ) → b ≡ quote_byte q → b ≢ 0
quote_some Double b e = λ z. omega arith
quote_some Single b e = λ z. omega arith

pub quoted_cut : (q : Quote) (s : List ℕ) (a b : ℕ) (v : List ℕ) → IsQuoted q s a b v → IsQuoted q (slice_range s a b) 0 (length (slice_range s a b)) v
quoted_cut q s a b v h =
    let within = inside s h.end (quote_some q (slice_index s h.end) h.closes) in
    let past = characters_le h.holds in
    let ends = h.ends in
    let part = part_of s a b (omega arith) (omega arith) in
    let size = part.whole in
    let end : h.end ≡ a + (h.end - a) = omega arith in
    record {
      end = h.end - a;
      opens = byte_cut s (slice_range s a b) a (b - a) part 0 a _ (omega arith) (omega arith) h.opens;
      holds = characters_cut s (slice_range s a b) a (b - a) part q 1 (h.end - a) (a + 1) h.end v refl end (omega arith) h.holds;
      closes = byte_cut s (slice_range s a b) a (b - a) part (h.end - a) h.end _ end (omega arith) h.closes;
      ends = omega arith;
    }

pub prefixed_cut : (c : Coding) (s : List ℕ) (a b : ℕ) (d : List ℕ) → IsPrefixed c s a b d → IsPrefixed c (slice_range s a b) 0 (length (slice_range s a b)) d
prefixed_cut c s a b d h =
    let within = inside s h.end (λ z. omega (arith, h.closes)) in
    let past = coded_le h.holds in
    let opened = opens_le c s a h.start h.opens in
    let ends = h.ends in
    let part = part_of s a b (omega arith) (omega arith) in
    let size = part.whole in
    let start : h.start ≡ a + (h.start - a) = omega arith in
    let end : h.end ≡ a + (h.end - a) = omega arith in
    record {
      start = h.start - a;
      end = h.end - a;
      opens = opens_cut s (slice_range s a b) a (b - a) part c 0 (h.start - a) a h.start (omega arith) start (omega arith) h.opens;
      holds = coded_cut s (slice_range s a b) a (b - a) part (h.start - a) (h.end - a) h.start h.end d start end (omega arith) h.closes h.holds;
      closes = byte_cut s (slice_range s a b) a (b - a) part (h.end - a) h.end _ end (omega arith) h.closes;
      ends = omega arith;
    }

pub bytes_cut : (s : List ℕ) (a b : ℕ) (v : List ℕ) → IsBytes s a b v → IsBytes (slice_range s a b) 0 (length (slice_range s a b)) v
bytes_cut s a b v (inl h) = inl (quoted_cut Single s a b v h)
bytes_cut s a b v (inr (c, d, p, e)) = inr (c, d, prefixed_cut c s a b d p, e)

digit_some : (b : ℕ) → is_decimal_digit b ≡ true → b ≢ 0
digit_some b h = grind (arith, nat_tests)

hex_some : (b : ℕ) → is_hex_digit b ≡ true → b ≢ 0
hex_some b h = grind (arith, nat_tests)

binary_some : (b : ℕ) → is_binary_digit b ≡ true → b ≢ 0
binary_some b h = grind (arith, nat_tests)

run_inside : (f : ℕ → Bool) → ((x : ℕ) → f x ≡ true → x ≢ 0) → (s : List ℕ) (a b : ℕ) → IsRun f s a b → b ≤ length s
run_inside f some s a b r =
    let past = r.nonempty in
    let last = inside s (b - 1) (some (slice_index s (b - 1)) (r.holds (b - 1) (omega arith) (omega arith))) in
    omega arith

pub uint_inside : (s : List ℕ) (a b n : ℕ) → IsUint s a b n → b ≤ length s
uint_inside s a b n (decimal r z h) = run_inside is_decimal_digit digit_some s a b r
uint_inside s a b n (hexadecimal o x r h) = run_inside is_hex_digit hex_some s (a + 2) b r
uint_inside s a b n (binary o x r h) = run_inside is_binary_digit binary_some s (a + 2) b r

signed_inside : (s : List ℕ) (a b : ℕ) (minus : Bool) (n : ℕ) → IsSigned minus s a b n → (a < b) × (b ≤ length s)
signed_inside s a b false n h = (uint_past h, uint_inside s a b n h)
signed_inside s a b true n h = (let past = uint_past h.1 in omega arith, uint_inside s (a + 1) b n h.1)

pub signed_cut : (s : List ℕ) (a b : ℕ) (minus : Bool) (n : ℕ) → IsSigned minus s a b n → IsSigned minus (slice_range s a b) 0 (length (slice_range s a b)) n
signed_cut s a b false n h =
    let in_source = signed_inside s a b false n h in
    let part = part_of s a b (omega (arith, in_source.0)) in_source.1 in
    subst (λ e. IsUint (slice_range s a b) 0 e n) (sym part.whole) (uint_cut s (slice_range s a b) a (b - a) part 0 (b - a) a b n (omega arith) (omega (arith, in_source.0)) (omega arith) h)
signed_cut s a b true n h =
    let in_source = signed_inside s a b true n h in
    let part = part_of s a b (omega (arith, in_source.0)) in_source.1 in (
      byte_cut s (slice_range s a b) a (b - a) part 0 a 45 (omega arith) (omega (arith, in_source.0)) h.0,
      subst (λ e. IsUint (slice_range s a b) 1 e n) (sym part.whole) (uint_cut s (slice_range s a b) a (b - a) part 1 (b - a) (a + 1) b n refl (omega (arith, in_source.0)) (omega arith) h.1),
    )

pub number_alone : (s : List ℕ) (a b : ℕ) (m : Meaning) → IsNumber s a b m → IsNumber (slice_range s a b) 0 (length (slice_range s a b)) m
number_alone s a b m (minus, n, h, e) = (minus, n, signed_cut s a b minus n h, e)
