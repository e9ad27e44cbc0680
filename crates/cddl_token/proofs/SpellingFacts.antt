-- What is read has bytes, and begins and ends with ASCII.
use Rattle.std.proofs.Common.{◌≡◌, ℕ, ◌+◌, ◌-◌, ◌<◌, ◌≤◌, Bool, true, false, List, slice_index, sym, subst, ⊎_elim, arith}
use Rattle.std.proofs.lemmas.Bool.Decides.{nat_tests}
use Rattle.hex.specs.Hex.{is_hex_digit}
use Rattle.cddl_literal.specs.Bytes.{IsRun, is_decimal_digit, is_binary_digit}
use Rattle.cddl_literal.specs.Numbers.{IsUint, decimal, hexadecimal, binary, IsSigned}
use Rattle.cddl_literal.specs.Strings.{IsQuoted, Characters, none, plain, escape, line}
use Rattle.cddl_literal.specs.Escapes.{Escape, letter, unit, pair, braces}
use Rattle.cddl_literal.specs.Prefixed.{Opens}
use Rattle.cddl_literal.specs.Literals.{IsBytes}
use Rattle.cddl_literal.specs.declared.Coding.{Coding}
use Rattle.cddl_literal.specs.declared.Coding.TheVariants.{Hex, Base64}
use Rattle.cddl_literal.specs.declared.Quote.{Quote}
use Rattle.cddl_literal.specs.declared.Quote.TheVariants.{Double, Single}
use Rattle.cddl_token.specs.Bytes.{is_ealpha, is_id_byte}
use Rattle.cddl_token.specs.Numbers.{IsBound, IsStar}
use Rattle.cddl_token.specs.Spelling.{IsId, Good, Spells}
use Rattle.cddl_token.specs.declared.Kind.{Kind}
use Rattle.cddl_token.specs.declared.Kind.TheVariants.{Name, NameOpen, Control, Number, Occur, Text, Bytes, Hash, TagOpen, TagHeadOpen, SimpleHeadOpen, Assign, TypeAssign, GroupAssign, Slash, DoubleSlash, Range, RangeBelow, Arrow, Cut, Colon, Comma, ParenOpen, ParenClose, BracketOpen, BracketClose, BraceOpen, BraceClose, AngleClose, Tilde, Ampersand, End}
use Rattle.cddl_token.proofs.BeginFacts.{begins, begins_so}
use Rattle.cddl_token.proofs.ShapeOne.{uint_past}
use Rattle.cddl_token.proofs.NameFacts.{id_last}
use Rattle.cddl_token.proofs.CodedFacts.{coded_le}

-- ASCII at one offset is ASCII at the same offset
same_ascii : (s : List ℕ) (i j : ℕ) → i ≡ j → slice_index s j < 128 → slice_index s i < 128
same_ascii s i j e h = subst (λ n. slice_index s n < 128) (sym e) h

known_ascii : (s : List ℕ) (i j c : ℕ) → i ≡ j → slice_index s j ≡ c → c < 128 → slice_index s i < 128
known_ascii s i j c e h small = same_ascii s i j e (omega arith)

letter_ascii : (b : ℕ) → is_ealpha b ≡ true → b < 128
letter_ascii b h = grind (arith, nat_tests)

id_ascii : (b : ℕ) → is_id_byte b ≡ true → b < 128
id_ascii b h = grind (arith, nat_tests)

digit_ascii : (b : ℕ) → is_decimal_digit b ≡ true → b < 128
digit_ascii b h = grind (arith, nat_tests)

hex_ascii : (b : ℕ) → is_hex_digit b ≡ true → b < 128
hex_ascii b h = grind (arith, nat_tests)

binary_ascii : (b : ℕ) → is_binary_digit b ≡ true → b < 128
binary_ascii b h = grind (arith, nat_tests)

run_last : (passes : ℕ → Bool) (s : List ℕ) {a b : ℕ} → IsRun passes s a b → passes (slice_index s (b - 1)) ≡ true
run_last passes s {a} {b} run = let some = run.nonempty in run.holds (b - 1) (omega arith) (omega arith)

uint_last : (s : List ℕ) {a b n : ℕ} → IsUint s a b n → slice_index s (b - 1) < 128
uint_last s {b = b} (decimal run alone e) = digit_ascii (slice_index s (b - 1)) (run_last is_decimal_digit s run)
uint_last s {b = b} (hexadecimal z x run e) = hex_ascii (slice_index s (b - 1)) (run_last is_hex_digit s run)
uint_last s {b = b} (binary z x run e) = binary_ascii (slice_index s (b - 1)) (run_last is_binary_digit s run)

signed_last : (minus : Bool) (s : List ℕ) (a b n : ℕ) → IsSigned minus s a b n → slice_index s (b - 1) < 128
signed_last false s a b n h = uint_last s h
signed_last true s a b n h = uint_last s h.1

signed_past : (minus : Bool) (s : List ℕ) (a b n : ℕ) → IsSigned minus s a b n → a < b
signed_past false s a b n h = uint_past s h
signed_past true s a b n h = let past = uint_past s h.1 in omega arith

bound_past : (s : List ℕ) {a b n : ℕ} → IsBound s a b n → a ≤ b
bound_past s h = ⊎_elim (λ e. omega (arith, e.0)) (λ u. let past = uint_past s u in omega arith) h

star_past : (s : List ℕ) {a b low high : ℕ} → IsStar s a b low high → a < b
star_past s h = let before = bound_past s h.before in let after = bound_past s h.after in omega arith

star_last : (s : List ℕ) {a b low high : ℕ} → IsStar s a b low high → slice_index s (b - 1) < 128
star_last s {b = b} h = ⊎_elim (λ e. known_ascii s (b - 1) h.star 42 (omega (arith, e.0)) h.sign (omega arith)) (λ u. uint_last s u) h.after

id_last_ascii : (s : List ℕ) {a b : ℕ} → IsId s a b → slice_index s (b - 1) < 128
id_last_ascii s {b = b} id = id_ascii (slice_index s (b - 1)) (id_last id)

escape_end_past : {q : Quote} {s : List ℕ} {i k v : ℕ} → Escape q s i k v → i < k
escape_end_past (letter b l e) = omega arith
escape_end_past (unit u c e) = omega arith
escape_end_past (pair h l x y z w e f) = omega arith
escape_end_past (braces k b u o run c e v f) = let some = run.nonempty in omega arith

characters_le : {q : Quote} {s : List ℕ} {i j : ℕ} {v : List ℕ} → Characters q s i j v → i ≤ j
characters_le (none e f) = omega arith
characters_le (plain b r e) = let le = characters_le r in omega arith
characters_le (escape x r e) = let past = escape_end_past x in let le = characters_le r in omega arith
characters_le (line o c f r e) = let le = characters_le r in omega arith

quoted_past : (q : Quote) (s : List ℕ) (a b : ℕ) (v : List ℕ) → IsQuoted q s a b v → a < b
quoted_past q s a b v h = let le = characters_le h.holds in let end = h.ends in omega arith

pub opens_past : (coding : Coding) (s : List ℕ) (a p : ℕ) → Opens coding s a p → a < p
opens_past Hex s a p h = omega (arith, h.2)
opens_past Base64 s a p h = omega (arith, h.4)

bytes_past : (s : List ℕ) (a b : ℕ) (v : List ℕ) → IsBytes s a b v → a < b
bytes_past s a b v h = ⊎_elim (λ q. quoted_past Single s a b v q) (λ d. let p = d.2 in let first = opens_past d.0 s a p.start p.opens in let le = coded_le p.holds in let end = p.ends in omega arith) h

bytes_last_ascii : (s : List ℕ) (a b : ℕ) (v : List ℕ) → IsBytes s a b v → slice_index s (b - 1) < 128
bytes_last_ascii s a b v h =
    ⊎_elim
    (λ q. known_ascii s (b - 1) q.end 39 (let end = q.ends in omega arith) q.closes (omega arith))
    (λ d. let p = d.2 in known_ascii s (b - 1) p.end 39 (let end = p.ends in omega arith) p.closes (omega arith))
    h

-- what is read has bytes
pub spelled_past : (k : Kind) (s : List ℕ) (a b : ℕ) → Spells (Good k) s a b → a < b
spelled_past Name s a b h = h.nonempty
spelled_past NameOpen s a b h = let past = h.2.nonempty in omega (arith, h.1)
spelled_past Control s a b h = let id = h.1 in let past = id.nonempty in omega arith
spelled_past Number s a b h = signed_past h.1.0 s a b h.1.1 h.1.2
spelled_past Occur s a b h = ⊎_elim (λ one. ⊎_elim (λ e. omega (arith, e.0)) (λ e. omega (arith, e.0)) one) (λ x. star_past s x.2) h
spelled_past Text s a b h = quoted_past Double s a b h.0 h.1
spelled_past Bytes s a b h = bytes_past s a b h.0 h.1
spelled_past Hash s a b h = ⊎_elim (λ x. ⊎_elim (λ y. omega (arith, y.0)) (λ y. omega (arith, y.0)) x) (λ x. let it = x.1 in let past = uint_past s it.number in omega arith) h
spelled_past TagOpen s a b h = ⊎_elim (λ x. omega (arith, x.0)) (λ x. let it = x.1 in let hash = it.number in let past = uint_past s hash.number in let end = it.ends in omega arith) h
spelled_past TagHeadOpen s a b h = omega (arith, h.0)
spelled_past SimpleHeadOpen s a b h = omega (arith, h.0)
spelled_past Assign s a b h = omega (arith, h.0)
spelled_past TypeAssign s a b h = omega (arith, h.0)
spelled_past GroupAssign s a b h = omega (arith, h.0)
spelled_past Slash s a b h = omega (arith, h.0)
spelled_past DoubleSlash s a b h = omega (arith, h.0)
spelled_past Range s a b h = omega (arith, h.0)
spelled_past RangeBelow s a b h = omega (arith, h.0)
spelled_past Arrow s a b h = omega (arith, h.0)
spelled_past Cut s a b h = omega (arith, h.0)
spelled_past Colon s a b h = omega (arith, h.0)
spelled_past Comma s a b h = omega (arith, h.0)
spelled_past ParenOpen s a b h = omega (arith, h.0)
spelled_past ParenClose s a b h = omega (arith, h.0)
spelled_past BracketOpen s a b h = omega (arith, h.0)
spelled_past BracketClose s a b h = omega (arith, h.0)
spelled_past BraceOpen s a b h = omega (arith, h.0)
spelled_past BraceClose s a b h = omega (arith, h.0)
spelled_past AngleClose s a b h = omega (arith, h.0)
spelled_past Tilde s a b h = omega (arith, h.0)
spelled_past Ampersand s a b h = omega (arith, h.0)
spelled_past End s a b h = absurd h

last_ascii : (k : Kind) (s : List ℕ) (a b : ℕ) → Spells (Good k) s a b → slice_index s (b - 1) < 128
last_ascii Name s a b h = id_last_ascii s h
last_ascii NameOpen s a b h = known_ascii s (b - 1) h.0 60 (omega (arith, h.1)) h.3 (omega arith)
last_ascii Control s a b h = id_last_ascii s h.1
last_ascii Number s a b h = signed_last h.1.0 s a b h.1.1 h.1.2
last_ascii Occur s a b h = ⊎_elim (λ one. ⊎_elim (λ e. known_ascii s (b - 1) a 43 (omega (arith, e.0)) e.1 (omega arith)) (λ e. known_ascii s (b - 1) a 63 (omega (arith, e.0)) e.1 (omega arith)) one) (λ x. star_last s x.2) h
last_ascii Text s a b h = let q = h.1 in known_ascii s (b - 1) q.end 34 (let end = q.ends in omega arith) q.closes (omega arith)
last_ascii Bytes s a b h = bytes_last_ascii s a b h.0 h.1
last_ascii Hash s a b h =
    ⊎_elim
    (λ x. ⊎_elim (λ y. known_ascii s (b - 1) a 35 (omega (arith, y.0)) y.1 (omega arith)) (λ y. same_ascii s (b - 1) (a + 1) (omega (arith, y.0)) (digit_ascii (slice_index s (a + 1)) y.2)) x)
    (λ x. let it = x.1 in uint_last s it.number)
    h
last_ascii TagOpen s a b h = ⊎_elim (λ x. known_ascii s (b - 1) (a + 2) 40 (omega (arith, x.0)) x.3 (omega arith)) (λ x. let it = x.1 in known_ascii s (b - 1) it.paren 40 (let end = it.ends in omega arith) it.opens (omega arith)) h
last_ascii TagHeadOpen s a b h = known_ascii s (b - 1) (a + 3) 60 (omega (arith, h.0)) h.4 (omega arith)
last_ascii SimpleHeadOpen s a b h = known_ascii s (b - 1) (a + 3) 60 (omega (arith, h.0)) h.4 (omega arith)
last_ascii Assign s a b h = known_ascii s (b - 1) a 61 (omega (arith, h.0)) h.1 (omega arith)
last_ascii TypeAssign s a b h = known_ascii s (b - 1) (a + 1) 61 (omega (arith, h.0)) h.2 (omega arith)
last_ascii GroupAssign s a b h = known_ascii s (b - 1) (a + 2) 61 (omega (arith, h.0)) h.3 (omega arith)
last_ascii Slash s a b h = known_ascii s (b - 1) a 47 (omega (arith, h.0)) h.1 (omega arith)
last_ascii DoubleSlash s a b h = known_ascii s (b - 1) (a + 1) 47 (omega (arith, h.0)) h.2 (omega arith)
last_ascii Range s a b h = known_ascii s (b - 1) (a + 1) 46 (omega (arith, h.0)) h.2 (omega arith)
last_ascii RangeBelow s a b h = known_ascii s (b - 1) (a + 2) 46 (omega (arith, h.0)) h.3 (omega arith)
last_ascii Arrow s a b h = known_ascii s (b - 1) (a + 1) 62 (omega (arith, h.0)) h.2 (omega arith)
last_ascii Cut s a b h = known_ascii s (b - 1) a 94 (omega (arith, h.0)) h.1 (omega arith)
last_ascii Colon s a b h = known_ascii s (b - 1) a 58 (omega (arith, h.0)) h.1 (omega arith)
last_ascii Comma s a b h = known_ascii s (b - 1) a 44 (omega (arith, h.0)) h.1 (omega arith)
last_ascii ParenOpen s a b h = known_ascii s (b - 1) a 40 (omega (arith, h.0)) h.1 (omega arith)
last_ascii ParenClose s a b h = known_ascii s (b - 1) a 41 (omega (arith, h.0)) h.1 (omega arith)
last_ascii BracketOpen s a b h = known_ascii s (b - 1) a 91 (omega (arith, h.0)) h.1 (omega arith)
last_ascii BracketClose s a b h = known_ascii s (b - 1) a 93 (omega (arith, h.0)) h.1 (omega arith)
last_ascii BraceOpen s a b h = known_ascii s (b - 1) a 123 (omega (arith, h.0)) h.1 (omega arith)
last_ascii BraceClose s a b h = known_ascii s (b - 1) a 125 (omega (arith, h.0)) h.1 (omega arith)
last_ascii AngleClose s a b h = known_ascii s (b - 1) a 62 (omega (arith, h.0)) h.1 (omega arith)
last_ascii Tilde s a b h = known_ascii s (b - 1) a 126 (omega (arith, h.0)) h.1 (omega arith)
last_ascii Ampersand s a b h = known_ascii s (b - 1) a 38 (omega (arith, h.0)) h.1 (omega arith)
last_ascii End s a b h = absurd h

first_ascii : (k : Kind) (b : ℕ) → begins (Good k) b ≡ true → b < 128
first_ascii Name b h = letter_ascii b h
first_ascii NameOpen b h = letter_ascii b h
first_ascii k b h = grind (arith, nat_tests)

pub spelled_ascii : (k : Kind) (s : List ℕ) (a b : ℕ) → Spells (Good k) s a b → (slice_index s a < 128) × (slice_index s (b - 1) < 128)
spelled_ascii k s a b h = (first_ascii k (slice_index s a) (begins_so (Good k) s a b h), last_ascii k s a b h)
