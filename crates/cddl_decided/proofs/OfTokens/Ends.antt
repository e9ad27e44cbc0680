-- What can be read at an offset has bytes, and its last one is within the source: a byte behind the source reads 0.
use Rattle.std.proofs.Common.{◌≡◌, ℕ, zero, suc, ◌+◌, ◌-◌, ◌<◌, ◌≤◌, Bool, true, false, List, length, slice_index, Option, Some, None, refl, sym, subst, ⊎_elim, arith}
use Rattle.std.proofs.lemmas.Bool.{cases_lt}
use Rattle.std.proofs.lemmas.Bool.Decides.{nat_tests}
use Rattle.std.proofs.lemmas.List.{get_or_past}
use Rattle.hex.specs.Hex.{is_hex_digit}
use Rattle.cddl_literal.specs.Bytes.{Each, IsRun, is_b, is_binary_digit, is_blank, is_decimal_digit, is_in_comment, is_x}
use Rattle.cddl_literal.specs.Escapes.{Escape, braces, letter, letter_in, pair, unit}
use Rattle.cddl_literal.specs.Literals.{IsBytes}
use Rattle.cddl_literal.specs.Numbers.{IsSigned, IsUint, binary, decimal, hexadecimal}
use Rattle.cddl_literal.specs.Prefixed as P
use Rattle.cddl_literal.specs.Prefixed.{Coded, EndsComment, HoldsCoded, IsCommentTo, Opens, is_in_inner_comment}
use Rattle.cddl_literal.specs.Strings as C
use Rattle.cddl_literal.specs.Strings.{Characters, IsQuoted, is_plain}
use Rattle.cddl_literal.specs.declared.Coding.{Coding}
use Rattle.cddl_literal.specs.declared.Coding.TheVariants.{Hex, Base64}
use Rattle.cddl_literal.specs.declared.Quote.{Quote}
use Rattle.cddl_literal.specs.declared.Quote.TheVariants.{Double, Single}
use Rattle.cddl_token.specs.Bytes.{is_ealpha, is_id_byte}
use Rattle.cddl_token.specs.Numbers.{HoldsLarge, IsBound, IsExponent, IsFloat, IsHashNumber, IsMisspelled, IsStar, IsTagNumberOpen, bare_binary, bare_hexadecimal, exponent, fraction, hex_exponent, hex_fraction, signed, unsigned, zero_first}
use Rattle.cddl_token.specs.Spelling.{Bad, Fractional, Good, IsId, Misspelled, Reading, Spells, TooLarge}
use Rattle.cddl_token.specs.declared.Kind.TheVariants.{Name, NameOpen, Control, Number, Occur, Text, Bytes, Hash, TagOpen, TagHeadOpen, SimpleHeadOpen, Assign, TypeAssign, GroupAssign, Slash, DoubleSlash, Range, RangeBelow, Arrow, Cut, Colon, Comma, ParenOpen, ParenClose, BracketOpen, BracketClose, BraceOpen, BraceClose, AngleClose, Tilde, Ampersand, End}

-- an offset at which a byte is not 0 is within the source
pub inside : (s : List ℕ) (i : ℕ) → 0 < slice_index s i → i < length s
inside s i some = ⊎_elim (λ lt. lt) (λ ge. let none = get_or_past s i 0 ge in absurd (omega arith)) (cases_lt i (length s))

pub inside_at : (s : List ℕ) (i c : ℕ) → slice_index s i ≡ c → 0 < c → i < length s
inside_at s i c e some = inside s i (omega arith)

-- from a to b are bytes, the last of which is not 0
pub record HasLast (s : List ℕ) (a b : ℕ) : Type 0 where
  pub past : a < b
  pub last : 0 < slice_index s (b - 1)

pub ends_within : (s : List ℕ) (a b : ℕ) → HasLast s a b → b ≤ length s
ends_within s a b h = let past = h.past in let lt = inside s (b - 1) h.last in omega arith

same_byte : (s : List ℕ) (i j : ℕ) → i ≡ j → 0 < slice_index s j → 0 < slice_index s i
same_byte s i j e h = subst (λ n. 0 < slice_index s n) (sym e) h

-- the last byte is this one, at j
at_last : (s : List ℕ) (a b j c : ℕ) → a < b → b - 1 ≡ j → slice_index s j ≡ c → 0 < c → HasLast s a b
at_last s a b j c past e h some = record { past = past; last = same_byte s (b - 1) j e (omega arith) }

of_last : (s : List ℕ) (a b j : ℕ) → a < b → b - 1 ≡ j → 0 < slice_index s j → HasLast s a b
of_last s a b j past e h = record { past = past; last = same_byte s (b - 1) j e h }

-- what ends so has its end also from further on the left
wider : (s : List ℕ) (a c b : ℕ) → a ≤ c → HasLast s c b → HasLast s a b
wider s a c b le h = let past = h.past in record { past = omega arith; last = h.last }

digit_some : (b : ℕ) → is_decimal_digit b ≡ true → 0 < b
digit_some b h = grind (arith, nat_tests)

hex_some : (b : ℕ) → is_hex_digit b ≡ true → 0 < b
hex_some b h = grind (arith, nat_tests)

binary_some : (b : ℕ) → is_binary_digit b ≡ true → 0 < b
binary_some b h = grind (arith, nat_tests)

x_some : (b : ℕ) → is_x b ≡ true → 0 < b
x_some b h = grind (arith, nat_tests)

b_some : (b : ℕ) → is_b b ≡ true → 0 < b
b_some b h = grind (arith, nat_tests)

id_some : (b : ℕ) → is_id_byte b ≡ true → 0 < b
id_some b h = grind (arith, nat_tests)

pub blank_some : (b : ℕ) → is_blank b ≡ true → 0 < b
blank_some b h = grind (arith, nat_tests)

pub comment_some : (b : ℕ) → is_in_comment b ≡ true → 0 < b
comment_some b h = grind (arith, nat_tests)

inner_some : (b : ℕ) → is_in_inner_comment b ≡ true → 0 < b
inner_some b h = grind (arith, nat_tests)

plain_some : (q : Quote) (b : ℕ) → is_plain q b ≡ true → 0 < b
plain_some Double b h = grind (arith, nat_tests)
plain_some Single b h = grind (arith, nat_tests)

none_is_some : (o : Option ℕ) (v : ℕ) → o ≡ None → o ≡ Some v → ⊥
none_is_some o v e f = cc

letter_some : (q : Quote) (b v : ℕ) → letter_in q b ≡ Some v → 0 < b
letter_some Double zero v h = absurd (none_is_some (letter_in Double zero) v refl h)
letter_some Single zero v h = absurd (none_is_some (letter_in Single zero) v refl h)
letter_some q (suc n) v h = omega arith

each_last : (passes : ℕ → Bool) (s : List ℕ) (a b : ℕ) → ((c : ℕ) → passes c ≡ true → 0 < c) → a < b → Each passes s a b → HasLast s a b
each_last passes s a b some past holds = record { past = past; last = some (slice_index s (b - 1)) (holds (b - 1) (omega arith) (omega arith)) }

run : (passes : ℕ → Bool) (s : List ℕ) (a b : ℕ) → ((c : ℕ) → passes c ≡ true → 0 < c) → IsRun passes s a b → HasLast s a b
run passes s a b some r = each_last passes s a b some r.nonempty r.holds

uint : (s : List ℕ) (a b n : ℕ) → IsUint s a b n → HasLast s a b
uint s a b n (decimal r alone e) = run is_decimal_digit s a b digit_some r
uint s a b n (hexadecimal z x r e) = wider s a (a + 2) b (omega arith) (run is_hex_digit s (a + 2) b hex_some r)
uint s a b n (binary z x r e) = wider s a (a + 2) b (omega arith) (run is_binary_digit s (a + 2) b binary_some r)

signed_number : (minus : Bool) (s : List ℕ) (a b n : ℕ) → IsSigned minus s a b n → HasLast s a b
signed_number false s a b n h = uint s a b n h
signed_number true s a b n h = wider s a (a + 1) b (omega arith) (uint s (a + 1) b n h.1)

id : (s : List ℕ) (a b : ℕ) → IsId s a b → HasLast s a b
id s a b h = each_last is_id_byte s a b id_some h.nonempty h.holds

bound_le : (s : List ℕ) (a b n : ℕ) → IsBound s a b n → a ≤ b
bound_le s a b n h = ⊎_elim (λ e. omega (arith, e.0)) (λ u. let x = uint s a b n u in let past = x.past in omega arith) h

star : (s : List ℕ) (a b low high : ℕ) → IsStar s a b low high → HasLast s a b
star s a b low high h =
    let before = bound_le s a h.star low h.before in
    ⊎_elim
    (λ e. at_last s a b h.star 42 (omega (arith, e.0)) (omega (arith, e.0)) h.sign (omega arith))
    (λ u. wider s a (h.star + 1) b (omega arith) (uint s (h.star + 1) b high u))
    h.after

hash_number : (s : List ℕ) (a b n : ℕ) → IsHashNumber s a b n → HasLast s a b
hash_number s a b n h = wider s a (a + 3) b (omega arith) (uint s (a + 3) b n h.number)

tag_open : (s : List ℕ) (a b n : ℕ) → IsTagNumberOpen s a b n → HasLast s a b
tag_open s a b n h =
    let x = hash_number s a h.paren n h.number in
    let past = x.past in
    let end = h.ends in
    at_last s a b h.paren 40 (omega arith) (omega arith) h.opens (omega arith)

exponent_last : (sign : ℕ → Bool) (s : List ℕ) (a b : ℕ) → IsExponent sign s a b → HasLast s a b
exponent_last sign s a b (unsigned l d e) = of_last s a b (a + 1) (omega arith) (omega arith) (digit_some (slice_index s (a + 1)) d)
exponent_last sign s a b (signed l g d e) = of_last s a b (a + 2) (omega arith) (omega arith) (digit_some (slice_index s (a + 2)) d)

float : (s : List ℕ) (a b : ℕ) → IsFloat s a b → HasLast s a b
float s a b (fraction {d = d} r dot digit e) = let past = r.nonempty in of_last s a b (d + 1) (omega arith) (omega arith) (digit_some (slice_index s (d + 1)) digit)
float s a b (exponent {d = d} r x) = let past = r.nonempty in wider s a d b (omega arith) (exponent_last _ s d b x)
float s a b (hex_exponent {d = d} p r x) = let past = r.nonempty in wider s a d b (omega arith) (exponent_last _ s d b x)
float s a b (hex_fraction {d = d} {e = e} p r dot f x) = let past = r.nonempty in let more = f.nonempty in wider s a e b (omega arith) (exponent_last _ s e b x)

misspelled : (s : List ℕ) (a b : ℕ) → IsMisspelled s a b → HasLast s a b
misspelled s a b (zero_first r z lt) = run is_decimal_digit s a b digit_some r
misspelled s a b (bare_hexadecimal p e) = of_last s a b (a + 1) (omega arith) (omega arith) (x_some (slice_index s (a + 1)) p.1)
misspelled s a b (bare_binary p e) = of_last s a b (a + 1) (omega arith) (omega arith) (b_some (slice_index s (a + 1)) p.1)

large : (s : List ℕ) (a b : ℕ) → HoldsLarge s a b → HasLast s a b
large s a b h =
    ⊎_elim
    (λ x. signed_number x.0 s a b x.1 x.2)
    (λ other. ⊎_elim
    (λ x. star s a b x.0 x.1 x.2)
    (λ x. ⊎_elim (λ y. hash_number s a b x.0 y) (λ y. tag_open s a b x.0 y) x.1)
    other)
    h

escape_last : (q : Quote) (s : List ℕ) (i k v : ℕ) → Escape q s i k v → HasLast s i k
escape_last q s i k v (letter b l e) = of_last s i k (i + 1) (omega arith) (omega arith) (letter_some q (slice_index s (i + 1)) v l)
escape_last q s i k v (unit u c e) = of_last s i k (i + 5) (omega arith) (omega arith) (hex_some (slice_index s (i + 5)) (u.digits (i + 5) (omega arith) (omega arith)))
escape_last q s i k v (pair h l x y z w e f) = of_last s i k (i + 11) (omega arith) (omega arith) (hex_some (slice_index s (i + 11)) (z.digits (i + 11) (omega arith) (omega arith)))
escape_last q s i k v (braces m b u o r c e w f) = let some = r.nonempty in at_last s i k m 125 (omega arith) (omega arith) c (omega arith)

characters_le : {q : Quote} {s : List ℕ} {i j : ℕ} {v : List ℕ} → Characters q s i j v → i ≤ j
characters_le (C.none e f) = omega arith
characters_le (C.plain b r e) = let le = characters_le r in omega arith
characters_le {q} {s} {i} (C.escape {k = k} {c = c} x r e) = let h = escape_last q s i k c x in let past = h.past in let le = characters_le r in omega arith
characters_le (C.line o c f r e) = let le = characters_le r in omega arith

-- a string's characters are within the source
pub characters_within : {q : Quote} {s : List ℕ} {i j : ℕ} {v : List ℕ} → Characters q s i j v → i ≤ length s → j ≤ length s
characters_within (C.none e f) le = omega arith
characters_within {q} {s} {i} (C.plain b r e) le = let lt = inside s i (plain_some q (slice_index s i) b) in characters_within r (omega arith)
characters_within {q} {s} {i} (C.escape {k = k} {c = c} x r e) le = characters_within r (ends_within s i k (escape_last q s i k c x))
characters_within {q} {s} {i} (C.line o c f r e) le = let lt = inside_at s (i + 1) 10 f (omega arith) in characters_within r (omega arith)

pub coded_le : {s : List ℕ} {i j : ℕ} {d : List ℕ} → Coded s i j d → i ≤ j
coded_le (P.none e f) = omega arith
coded_le (P.blank b r) = let le = coded_le r in omega arith
coded_le (P.line c r) = let le = coded_le r in omega arith
coded_le (P.comment c e r) = let le = coded_le r in let past = c.past in omega arith
coded_le (P.other l o c r e) = let le = coded_le r in omega arith

comment_end : (s : List ℕ) (k : ℕ) → EndsComment s k → k < length s
comment_end s k h = ⊎_elim (λ x. ⊎_elim (λ e. inside_at s k 10 e (omega arith)) (λ e. inside_at s k 13 e.0 (omega arith)) x) (λ e. inside_at s k 39 e (omega arith)) h

-- what a prefixed string holds is within the source
coded_within : {s : List ℕ} {i j : ℕ} {d : List ℕ} → Coded s i j d → i ≤ length s → j ≤ length s
coded_within (P.none e f) le = omega arith
coded_within {s} {i} (P.blank b r) le = let lt = inside s i (blank_some (slice_index s i) b) in coded_within r (omega arith)
coded_within {s} {i} (P.line c r) le = let lt = inside_at s (i + 1) 10 c.1 (omega arith) in coded_within r (omega arith)
coded_within {s} (P.comment {k = k} c e r) le = let lt = comment_end s k e in coded_within r (omega arith)
coded_within (P.other l o c r e) le = coded_within r (omega arith)

comment_within : (s : List ℕ) (i p : ℕ) → IsCommentTo s i p → p ≤ length s
comment_within s i p c =
    let past = c.past in
    let lt = inside_at s i 59 c.begins (omega arith) in
    ⊎_elim
    (λ more. ends_within s (i + 1) p (each_last is_in_inner_comment s (i + 1) p inner_some more c.holds))
    (λ one. omega arith)
    (cases_lt (i + 1) p)

pub held_within : (s : List ℕ) (i p : ℕ) → i ≤ length s → HoldsCoded s i p → p ≤ length s
held_within s i p le h = ⊎_elim (λ e. let x = coded_within h.2 le in omega arith) (λ c. comment_within s h.0 p c) h.3

pub opens_past : (coding : Coding) (s : List ℕ) (a p : ℕ) → Opens coding s a p → a < p
opens_past Hex s a p h = omega (arith, h.2)
opens_past Base64 s a p h = omega (arith, h.4)

quote_some : (q : Quote) → 0 < C.quote_byte q
quote_some Double = omega arith
quote_some Single = omega arith

-- a quote is within the source
pub quote_inside : (q : Quote) (s : List ℕ) (i : ℕ) → slice_index s i ≡ C.quote_byte q → i < length s
quote_inside q s i e = inside_at s i (C.quote_byte q) e (quote_some q)

quoted : (q : Quote) (s : List ℕ) (a b : ℕ) (v : List ℕ) → IsQuoted q s a b v → HasLast s a b
quoted q s a b v h = let le = characters_le h.holds in let end = h.ends in at_last s a b h.end (C.quote_byte q) (omega arith) (omega arith) h.closes (quote_some q)

bytes : (s : List ℕ) (a b : ℕ) (v : List ℕ) → IsBytes s a b v → HasLast s a b
bytes s a b v h =
    ⊎_elim
    (λ q. quoted Single s a b v q)
    (λ d. let p = d.2 in let past = opens_past d.0 s a p.start p.opens in let le = coded_le p.holds in let end = p.ends in at_last s a b p.end 39 (omega arith) (omega arith) p.closes (omega arith))
    h

-- what is read has bytes, and is within the source
pub spelled : (q : Reading) (s : List ℕ) (a b : ℕ) → Spells q s a b → HasLast s a b
spelled (Good Name) s a b h = id s a b h
spelled (Good NameOpen) s a b h = let x = id s a h.0 h.2 in let past = x.past in at_last s a b h.0 60 (omega (arith, h.1)) (omega (arith, h.1)) h.3 (omega arith)
spelled (Good Control) s a b h = wider s a (a + 1) b (omega arith) (id s (a + 1) b h.1)
spelled (Good Number) s a b h = signed_number h.1.0 s a b h.1.1 h.1.2
spelled (Good Occur) s a b h =
    ⊎_elim
    (λ one. ⊎_elim (λ e. at_last s a b a 43 (omega (arith, e.0)) (omega (arith, e.0)) e.1 (omega arith)) (λ e. at_last s a b a 63 (omega (arith, e.0)) (omega (arith, e.0)) e.1 (omega arith)) one)
    (λ x. star s a b x.0 x.1 x.2)
    h
spelled (Good Text) s a b h = quoted Double s a b h.0 h.1
spelled (Good Bytes) s a b h = bytes s a b h.0 h.1
spelled (Good Hash) s a b h =
    ⊎_elim
    (λ x. ⊎_elim (λ y. at_last s a b a 35 (omega (arith, y.0)) (omega (arith, y.0)) y.1 (omega arith)) (λ y. of_last s a b (a + 1) (omega (arith, y.0)) (omega (arith, y.0)) (digit_some (slice_index s (a + 1)) y.2)) x)
    (λ x. hash_number s a b x.0 x.1)
    h
spelled (Good TagOpen) s a b h = ⊎_elim (λ x. at_last s a b (a + 2) 40 (omega (arith, x.0)) (omega (arith, x.0)) x.3 (omega arith)) (λ x. tag_open s a b x.0 x.1) h
spelled (Good TagHeadOpen) s a b h = at_last s a b (a + 3) 60 (omega (arith, h.0)) (omega (arith, h.0)) h.4 (omega arith)
spelled (Good SimpleHeadOpen) s a b h = at_last s a b (a + 3) 60 (omega (arith, h.0)) (omega (arith, h.0)) h.4 (omega arith)
spelled (Good Assign) s a b h = at_last s a b a 61 (omega (arith, h.0)) (omega (arith, h.0)) h.1 (omega arith)
spelled (Good TypeAssign) s a b h = at_last s a b (a + 1) 61 (omega (arith, h.0)) (omega (arith, h.0)) h.2 (omega arith)
spelled (Good GroupAssign) s a b h = at_last s a b (a + 2) 61 (omega (arith, h.0)) (omega (arith, h.0)) h.3 (omega arith)
spelled (Good Slash) s a b h = at_last s a b a 47 (omega (arith, h.0)) (omega (arith, h.0)) h.1 (omega arith)
spelled (Good DoubleSlash) s a b h = at_last s a b (a + 1) 47 (omega (arith, h.0)) (omega (arith, h.0)) h.2 (omega arith)
spelled (Good Range) s a b h = at_last s a b (a + 1) 46 (omega (arith, h.0)) (omega (arith, h.0)) h.2 (omega arith)
spelled (Good RangeBelow) s a b h = at_last s a b (a + 2) 46 (omega (arith, h.0)) (omega (arith, h.0)) h.3 (omega arith)
spelled (Good Arrow) s a b h = at_last s a b (a + 1) 62 (omega (arith, h.0)) (omega (arith, h.0)) h.2 (omega arith)
spelled (Good Cut) s a b h = at_last s a b a 94 (omega (arith, h.0)) (omega (arith, h.0)) h.1 (omega arith)
spelled (Good Colon) s a b h = at_last s a b a 58 (omega (arith, h.0)) (omega (arith, h.0)) h.1 (omega arith)
spelled (Good Comma) s a b h = at_last s a b a 44 (omega (arith, h.0)) (omega (arith, h.0)) h.1 (omega arith)
spelled (Good ParenOpen) s a b h = at_last s a b a 40 (omega (arith, h.0)) (omega (arith, h.0)) h.1 (omega arith)
spelled (Good ParenClose) s a b h = at_last s a b a 41 (omega (arith, h.0)) (omega (arith, h.0)) h.1 (omega arith)
spelled (Good BracketOpen) s a b h = at_last s a b a 91 (omega (arith, h.0)) (omega (arith, h.0)) h.1 (omega arith)
spelled (Good BracketClose) s a b h = at_last s a b a 93 (omega (arith, h.0)) (omega (arith, h.0)) h.1 (omega arith)
spelled (Good BraceOpen) s a b h = at_last s a b a 123 (omega (arith, h.0)) (omega (arith, h.0)) h.1 (omega arith)
spelled (Good BraceClose) s a b h = at_last s a b a 125 (omega (arith, h.0)) (omega (arith, h.0)) h.1 (omega arith)
spelled (Good AngleClose) s a b h = at_last s a b a 62 (omega (arith, h.0)) (omega (arith, h.0)) h.1 (omega arith)
spelled (Good Tilde) s a b h = at_last s a b a 126 (omega (arith, h.0)) (omega (arith, h.0)) h.1 (omega arith)
spelled (Good Ampersand) s a b h = at_last s a b a 38 (omega (arith, h.0)) (omega (arith, h.0)) h.1 (omega arith)
spelled (Good End) s a b h = absurd h
spelled (Bad Misspelled) s a b h =
    ⊎_elim
    (λ e. at_last s a b a 45 (omega (arith, e.0)) (omega (arith, e.0)) e.1 (omega arith))
    (λ x. ⊎_elim (λ y. misspelled s a b y) (λ y. wider s a (a + 1) b (omega arith) (misspelled s (a + 1) b y.1)) x)
    h
spelled (Bad Fractional) s a b h = ⊎_elim (λ y. float s a b y) (λ y. wider s a (a + 1) b (omega arith) (float s (a + 1) b y.1)) h
spelled (Bad TooLarge) s a b h = large s a b h
