-- With which bytes what can be read begins.
use Rattle.std.proofs.Common.{◌≡◌, ℕ, ◌⊎◌, Bool, true, false, inl, inr, ◌||◌, ◌==◌, List, slice_index, sym, refl, ap, ◌∙◌, ⊎_elim, arith}
use Rattle.std.proofs.lemmas.Bool.{false≢true, or_from, or_left, or_right, eq-eqb, ne_eqb}
use Rattle.std.proofs.lemmas.Bool.Decides.{nat_tests}
use Rattle.cddl_literal.specs.Bytes.{IsRun, is_decimal_digit, is_h, is_b}
use Rattle.cddl_literal.specs.Numbers.{IsUint, decimal, hexadecimal, binary, IsSigned}
use Rattle.cddl_literal.specs.Prefixed.{Opens}
use Rattle.cddl_literal.specs.Literals.{IsBytes}
use Rattle.cddl_literal.specs.declared.Coding.{Coding}
use Rattle.cddl_literal.specs.declared.Coding.TheVariants.{Hex, Base64}
use Rattle.cddl_token.specs.Bytes.{is_ealpha}
use Rattle.cddl_token.specs.Numbers.{IsMisspelled, zero_first, bare_hexadecimal, bare_binary, IsFloat, fraction, exponent, hex_exponent, hex_fraction, IsStar, HoldsLarge}
use Rattle.cddl_token.specs.Signs.{is_single}
use Rattle.cddl_token.specs.Spelling.{Misspelled, Fractional, TooLarge, Reading, Good, Bad, Spells}
use Rattle.cddl_token.specs.declared.Kind.TheVariants.{Name, NameOpen, Control, Number, Occur, Text, Bytes, Hash, TagOpen, TagHeadOpen, SimpleHeadOpen, Assign, TypeAssign, GroupAssign, Slash, DoubleSlash, Range, RangeBelow, Arrow, Cut, Colon, Comma, ParenOpen, ParenClose, BracketOpen, BracketClose, BraceOpen, BraceClose, AngleClose, Tilde, Ampersand, End}

-- a digit or `-`
abbrev pub is_signed : ℕ → Bool
is_signed b = is_decimal_digit b || b == 45

-- what can be read begins with such a byte
abbrev pub begins : Reading → ℕ → Bool
begins (Good Name) b = is_ealpha b
begins (Good NameOpen) b = is_ealpha b
begins (Good Control) b = b == 46
begins (Good Number) b = is_signed b
begins (Good Occur) b = ((is_decimal_digit b || b == 42) || b == 43) || b == 63
begins (Good Text) b = b == 34
begins (Good Bytes) b = (b == 39 || is_h b) || is_b b
begins (Good Hash) b = b == 35
begins (Good TagOpen) b = b == 35
begins (Good TagHeadOpen) b = b == 35
begins (Good SimpleHeadOpen) b = b == 35
begins (Good Assign) b = b == 61
begins (Good TypeAssign) b = b == 47
begins (Good GroupAssign) b = b == 47
begins (Good Slash) b = b == 47
begins (Good DoubleSlash) b = b == 47
begins (Good Range) b = b == 46
begins (Good RangeBelow) b = b == 46
begins (Good Arrow) b = b == 61
begins (Good Cut) b = b == 94
begins (Good Colon) b = b == 58
begins (Good Comma) b = b == 44
begins (Good ParenOpen) b = b == 40
begins (Good ParenClose) b = b == 41
begins (Good BracketOpen) b = b == 91
begins (Good BracketClose) b = b == 93
begins (Good BraceOpen) b = b == 123
begins (Good BraceClose) b = b == 125
begins (Good AngleClose) b = b == 62
begins (Good Tilde) b = b == 126
begins (Good Ampersand) b = b == 38
begins (Good End) b = false
begins (Bad _) b = (is_signed b || b == 42) || b == 35

zero_digit : (b : ℕ) → b ≡ 48 → is_decimal_digit b ≡ true
zero_digit b e = ap is_decimal_digit e

run_digit : {s : List ℕ} {a b : ℕ} → IsRun is_decimal_digit s a b → is_decimal_digit (slice_index s a) ≡ true
run_digit {s} {a} run = run.holds a (omega arith) run.nonempty

-- a number begins with a digit
pub uint_digit : {s : List ℕ} {a b n : ℕ} → IsUint s a b n → is_decimal_digit (slice_index s a) ≡ true
uint_digit (decimal run alone e) = run_digit run
uint_digit {s} {a} (hexadecimal z x run e) = zero_digit (slice_index s a) z
uint_digit {s} {a} (binary z b run e) = zero_digit (slice_index s a) z

pub misspelled_digit : {s : List ℕ} {a b : ℕ} → IsMisspelled s a b → is_decimal_digit (slice_index s a) ≡ true
misspelled_digit (zero_first run z e) = run_digit run
misspelled_digit {s} {a} (bare_hexadecimal p e) = zero_digit (slice_index s a) p.0
misspelled_digit {s} {a} (bare_binary p e) = zero_digit (slice_index s a) p.0

pub float_digit : {s : List ℕ} {a b : ℕ} → IsFloat s a b → is_decimal_digit (slice_index s a) ≡ true
float_digit (fraction run dot digit e) = run_digit run
float_digit (exponent run exp) = run_digit run
float_digit {s} {a} (hex_exponent p run exp) = zero_digit (slice_index s a) p.0
float_digit {s} {a} (hex_fraction p run dot more exp) = zero_digit (slice_index s a) p.0

signed_begins : (minus : Bool) (s : List ℕ) (a b n : ℕ) → IsSigned minus s a b n → is_signed (slice_index s a) ≡ true
signed_begins false s a b n h = or_left _ _ (uint_digit h)
signed_begins true s a b n h = or_right _ _ (eq-eqb _ _ h.0)

star_begins : (s : List ℕ) (a b low high : ℕ) → IsStar s a b low high → (is_decimal_digit (slice_index s a) ≡ true) ⊎ (slice_index s a ≡ 42)
star_begins s a b low high h =
    ⊎_elim (λ e. inr (ap (λ n. slice_index s n) e.0 ∙ h.sign)) (λ u. inl (uint_digit u)) h.before

opens_begins : (coding : Coding) (s : List ℕ) (a p : ℕ) → Opens coding s a p → ((slice_index s a == 39 || is_h (slice_index s a)) || is_b (slice_index s a)) ≡ true
opens_begins Hex s a p h = or_left _ _ (or_right _ _ h.0)
opens_begins Base64 s a p h = or_right _ _ h.0

bytes_begins : (s : List ℕ) (a b : ℕ) (v : List ℕ) → IsBytes s a b v → ((slice_index s a == 39 || is_h (slice_index s a)) || is_b (slice_index s a)) ≡ true
bytes_begins s a b v h = ⊎_elim (λ q. or_left _ _ (or_left _ _ (eq-eqb _ _ q.opens))) (λ d. opens_begins d.0 s a d.2.start d.2.opens) h

large_begins : (s : List ℕ) (a b : ℕ) → HoldsLarge s a b → ((is_signed (slice_index s a) || slice_index s a == 42) || slice_index s a == 35) ≡ true
large_begins s a b h =
    ⊎_elim
    (λ n. or_left _ _ (or_left _ _ (signed_begins n.0 s a b n.1 n.2)))
    (λ other. ⊎_elim
    (λ star. ⊎_elim (λ d. or_left _ _ (or_left _ _ (or_left _ _ d))) (λ e. or_left _ _ (or_right _ _ (eq-eqb _ _ e))) (star_begins s a b star.0 star.1 star.2))
    (λ hash. or_right _ _ (eq-eqb _ _ (⊎_elim (λ x. x.hash) (λ x. x.number.hash) hash.1)))
    other)
    h

pub misspelled_begins : (s : List ℕ) (a m : ℕ) → Spells (Bad Misspelled) s a m → is_signed (slice_index s a) ≡ true
misspelled_begins s a m h = ⊎_elim (λ e. or_right _ _ (eq-eqb _ _ e.1)) (λ z. ⊎_elim (λ x. or_left _ _ (misspelled_digit x)) (λ x. or_right _ _ (eq-eqb _ _ x.0)) z) h

pub float_begins : (s : List ℕ) (a m : ℕ) → Spells (Bad Fractional) s a m → is_signed (slice_index s a) ≡ true
float_begins s a m h = ⊎_elim (λ x. or_left _ _ (float_digit x)) (λ x. or_right _ _ (eq-eqb _ _ x.0)) h

pub begins_so : (q : Reading) (s : List ℕ) (a m : ℕ) → Spells q s a m → begins q (slice_index s a) ≡ true
begins_so (Good Name) s a m h = h.begins
begins_so (Good NameOpen) s a m h = h.2.begins
begins_so (Good Control) s a m h = eq-eqb _ _ h.0
begins_so (Good Number) s a m h = signed_begins h.1.0 s a m h.1.1 h.1.2
begins_so (Good Occur) s a m h =
    ⊎_elim
    (λ one. ⊎_elim (λ e. or_left _ _ (or_right _ _ (eq-eqb _ _ e.1))) (λ e. or_right _ _ (eq-eqb _ _ e.1)) one)
    (λ star. ⊎_elim (λ d. or_left _ _ (or_left _ _ (or_left _ _ d))) (λ e. or_left _ _ (or_left _ _ (or_right _ _ (eq-eqb _ _ e)))) (star_begins s a m star.0 star.1 star.2))
    h
begins_so (Good Text) s a m h = eq-eqb _ _ h.1.opens
begins_so (Good Bytes) s a m h = bytes_begins s a m h.0 h.1
begins_so (Good Hash) s a m h = eq-eqb _ _ (⊎_elim (λ x. ⊎_elim (λ y. y.1) (λ y. y.1) x) (λ x. x.1.hash) h)
begins_so (Good TagOpen) s a m h = eq-eqb _ _ (⊎_elim (λ x. x.1) (λ x. x.1.number.hash) h)
begins_so (Good End) s a m h = absurd h
begins_so (Bad Misspelled) s a m h = or_left _ _ (or_left _ _ (misspelled_begins s a m h))
begins_so (Bad Fractional) s a m h = or_left _ _ (or_left _ _ (float_begins s a m h))
begins_so (Bad TooLarge) s a m h = large_begins s a m h
begins_so (Good _) s a m h = eq-eqb _ _ h.1

-- what begins with another byte isn't there
pub elsewhere : (q : Reading) (s : List ℕ) (a m : ℕ) {b : ℕ} → slice_index s a ≡ b → begins q b ≡ false → Spells q s a m → ⊥
elsewhere q s a m first other h = false≢true (sym other ∙ sym (ap (begins q) first) ∙ begins_so q s a m h)

letter_h : (b : ℕ) → is_ealpha b ≡ false → is_h b ≡ false
letter_h b h = grind (arith, nat_tests)

letter_b : (b : ℕ) → is_ealpha b ≡ false → is_b b ≡ false
letter_b b h = grind (arith, nat_tests)

single_apart : (b k : ℕ) → is_single b ≡ false → is_single k ≡ true → (b == k) ≡ false
single_apart b k other it = ne_eqb b k (λ e. false≢true (sym other ∙ ap is_single e ∙ it))

-- nothing begins with another byte
module _ (b : ℕ) (letter : is_ealpha b ≡ false) (digit : is_decimal_digit b ≡ false) (single : is_single b ≡ false) (dash : b ≡ 45 → ⊥) (star : b ≡ 42 → ⊥) (text : b ≡ 34 → ⊥) (bytes : b ≡ 39 → ⊥) (hash : b ≡ 35 → ⊥) (equals : b ≡ 61 → ⊥) (slash : b ≡ 47 → ⊥) (dot : b ≡ 46 → ⊥) where
  signed_nothing : is_signed b ≡ false
  signed_nothing = or_from _ _ digit (ne_eqb _ _ dash)

  pub begins_nothing : (q : Reading) → begins q b ≡ false
  begins_nothing (Good Name) = letter
  begins_nothing (Good NameOpen) = letter
  begins_nothing (Good Control) = ne_eqb _ _ dot
  begins_nothing (Good Number) = signed_nothing
  begins_nothing (Good Occur) = or_from _ _ (or_from _ _ (or_from _ _ digit (ne_eqb _ _ star)) (single_apart b 43 single refl)) (single_apart b 63 single refl)
  begins_nothing (Good Text) = ne_eqb _ _ text
  begins_nothing (Good Bytes) = or_from _ _ (or_from _ _ (ne_eqb _ _ bytes) (letter_h b letter)) (letter_b b letter)
  begins_nothing (Good Assign) = ne_eqb _ _ equals
  begins_nothing (Good Arrow) = ne_eqb _ _ equals
  begins_nothing (Good TypeAssign) = ne_eqb _ _ slash
  begins_nothing (Good GroupAssign) = ne_eqb _ _ slash
  begins_nothing (Good Slash) = ne_eqb _ _ slash
  begins_nothing (Good DoubleSlash) = ne_eqb _ _ slash
  begins_nothing (Good Range) = ne_eqb _ _ dot
  begins_nothing (Good RangeBelow) = ne_eqb _ _ dot
  begins_nothing (Good Cut) = single_apart b 94 single refl
  begins_nothing (Good Colon) = single_apart b 58 single refl
  begins_nothing (Good Comma) = single_apart b 44 single refl
  begins_nothing (Good ParenOpen) = single_apart b 40 single refl
  begins_nothing (Good ParenClose) = single_apart b 41 single refl
  begins_nothing (Good BracketOpen) = single_apart b 91 single refl
  begins_nothing (Good BracketClose) = single_apart b 93 single refl
  begins_nothing (Good BraceOpen) = single_apart b 123 single refl
  begins_nothing (Good BraceClose) = single_apart b 125 single refl
  begins_nothing (Good AngleClose) = single_apart b 62 single refl
  begins_nothing (Good Tilde) = single_apart b 126 single refl
  begins_nothing (Good Ampersand) = single_apart b 38 single refl
  begins_nothing (Good End) = refl
  begins_nothing (Good _) = ne_eqb _ _ hash
  begins_nothing (Bad _) = or_from _ _ (or_from _ _ signed_nothing (ne_eqb _ _ star)) (ne_eqb _ _ hash)
