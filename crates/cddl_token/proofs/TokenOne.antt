-- There is one way to read a source.
use Rattle.std.proofs.Common.{◌≡◌, ℕ, ◌+◌, ◌-◌, ◌≤◌, true, false, List, ◌∷◌, length, slice_index, sym, refl, ap, subst, ◌∙◌, ⊎_elim, arith}
use Rattle.std.proofs.lemmas.Bool.{false≢true, cases_lt, cases_Bool}
use Rattle.std.proofs.lemmas.Bool.Decides.{nat_tests}
use Rattle.std.proofs.lemmas.List.{get_or_past}
use Rattle.cddl_literal.specs.Bytes.{is_decimal_digit, is_blank, is_in_comment}
use Rattle.cddl_literal.specs.Literals.{IsBytes}
use Rattle.cddl_token.specs.Bytes.{is_ealpha, is_id_byte}
use Rattle.cddl_token.specs.Signs.{is_single}
use Rattle.cddl_token.specs.Spelling.{Misspelled, Fractional, TooLarge, Reading, Good, Bad, Spells, IsLongest}
use Rattle.cddl_token.specs.Tokens.{IsLineEnd, IsComment, GapFrom, none, blank, line, comment, StartsNoGap, Tokenized, ends, more, token, Spanned}
use Rattle.cddl_token.specs.declared.Kind.{Kind}
use Rattle.cddl_token.specs.declared.Kind.TheVariants.{Name, NameOpen, Control, Number, Occur, Text, Bytes, Hash, TagOpen, TagHeadOpen, SimpleHeadOpen, Assign, TypeAssign, GroupAssign, Slash, DoubleSlash, Range, RangeBelow, Arrow, Cut, Colon, Comma, ParenOpen, ParenClose, BracketOpen, BracketClose, BraceOpen, BraceClose, AngleClose, Tilde, Ampersand, End}
use Rattle.cddl_token.proofs.Laws.{Laws}
use Rattle.cddl_token.proofs.BeginFacts.{begins, elsewhere, begins_nothing}
use Rattle.cddl_token.proofs.NameFacts.{name_one, name_open_one, control_one, range_one, range_below_one, letter_begins, bytes_last, id_last}
use Rattle.cddl_token.proofs.NumberOne.{number_one, occur_one, misspelled_one, float_one}
use Rattle.cddl_token.proofs.HashOne.{hash_one, tag_open_one, tag_head_one, simple_head_one, too_large_one}
use Rattle.cddl_token.proofs.SignOne as sign
use Rattle.cddl_token.proofs.StringFacts.{opening}

-- a comment doesn't hold the end of a line
pub line_end_apart : (s : List ℕ) (k : ℕ) → IsLineEnd s k → is_in_comment (slice_index s k) ≡ false
line_end_apart s k end = ⊎_elim (λ e. ⊎_elim (λ past. ap is_in_comment (get_or_past s k 0 (omega arith))) (λ lf. ap is_in_comment lf) e) (λ crlf. ap is_in_comment crlf.0) end

comment_within : {s : List ℕ} {i j k : ℕ} → IsComment s i j → IsComment s i k → k ≤ j
comment_within {s} {i} {j} {k} first second = ⊎_elim (λ lt. absurd (false≢true (sym (line_end_apart s j first.ends) ∙ second.holds j (let past = first.past in omega arith) lt))) (λ le. le) (cases_lt j k)

pub gap_le : {s : List ℕ} {i j : ℕ} → GapFrom s i j → i ≤ j
gap_le (none e) = omega arith
gap_le (blank p r) = let le = gap_le r in omega arith
gap_le (line p r) = let le = gap_le r in omega arith
gap_le (comment p r) = let le = gap_le r in let past = p.past in omega arith

gap_within : {s : List ℕ} {i j k : ℕ} → GapFrom s i j → GapFrom s i k → StartsNoGap s j → k ≤ j
gap_within (none e) (none f) stop = omega arith
gap_within {s} (none e) (blank p r) stop = absurd (false≢true (sym stop.blank ∙ ap (λ n. is_blank (slice_index s n)) (sym e) ∙ p))
gap_within {s} (none e) (line p r) stop = absurd (stop.line (ap (λ n. slice_index s n) (sym e) ∙ p.0, ap (λ n. slice_index s (n + 1)) (sym e) ∙ p.1))
gap_within {s} (none e) (comment {k = l} p r) stop = absurd (stop.comment l (subst (λ n. IsComment s n l) e p))
gap_within (blank p r) (none e) stop = let le = gap_le r in omega arith
gap_within (blank p r) (blank q r2) stop = gap_within r r2 stop
gap_within (blank p r) (line q r2) stop = absurd (false≢true (rw q.0 at p))
gap_within (blank p r) (comment q r2) stop = absurd (false≢true (let e = q.begins in rw e at p))
gap_within (line p r) (none e) stop = let le = gap_le r in omega arith
gap_within (line p r) (blank q r2) stop = absurd (false≢true (rw p.0 at q))
gap_within (line p r) (line q r2) stop = gap_within r r2 stop
gap_within (line p r) (comment q r2) stop = absurd (let e = q.begins in omega (arith, p.0))
gap_within (comment p r) (none e) stop = let le = gap_le r in let past = p.past in omega arith
gap_within (comment p r) (blank q r2) stop = absurd (false≢true (let e = p.begins in rw e at q))
gap_within (comment p r) (line q r2) stop = absurd (let e = p.begins in omega (arith, q.0))
gap_within {s} {j = j} {k = k} (comment {k = l} p r) (comment {k = m} q r2) stop =
    let upper = comment_within p q in
    let lower = comment_within q p in
    let same : m ≡ l = omega arith in
    gap_within r (subst (λ n. GapFrom s n k) same r2) stop

pub gap_one : {s : List ℕ} {i j k : ℕ} → GapFrom s i j → GapFrom s i k → StartsNoGap s j → StartsNoGap s k → j ≡ k
gap_one first second stop halt = let upper = gap_within first second stop in let lower = gap_within second first halt in omega arith

-- nothing begins with white space or `;`
letter_blank : (b : ℕ) → is_blank b ≡ true → is_ealpha b ≡ false
letter_blank b h = grind (arith, nat_tests)

digit_blank : (b : ℕ) → is_blank b ≡ true → is_decimal_digit b ≡ false
digit_blank b h = grind (arith, nat_tests)

single_blank : (b : ℕ) → is_blank b ≡ true → is_single b ≡ false
single_blank b h = grind (arith, nat_tests)

blank_apart : (b k : ℕ) → is_blank b ≡ true → is_blank k ≡ false → b ≡ k → ⊥
blank_apart b k h other e = false≢true (sym other ∙ ap is_blank (sym e) ∙ h)

blank_begins : (q : Reading) (b : ℕ) → is_blank b ≡ true → begins q b ≡ false
blank_begins q b h = begins_nothing b (letter_blank b h) (digit_blank b h) (single_blank b h) (blank_apart b _ h refl) (blank_apart b _ h refl) (blank_apart b _ h refl) (blank_apart b _ h refl) (blank_apart b _ h refl) (blank_apart b _ h refl) (blank_apart b _ h refl) (blank_apart b _ h refl) q

pub byte_begins : (q : Reading) (s : List ℕ) (a b k : ℕ) → slice_index s a ≡ k → ((q : Reading) → begins q k ≡ false) → Spells q s a b → ⊥
byte_begins q s a b k e no_one h = elsewhere q s a b e (no_one q) h

-- nothing begins with `;`, a carriage return, or after the end
pub semicolon : (q : Reading) (s : List ℕ) (a b : ℕ) → slice_index s a ≡ 59 → Spells q s a b → ⊥
semicolon q s a b e h = byte_begins q s a b 59 e (begins_nothing 59 refl refl refl (λ e. omega arith) (λ e. omega arith) (λ e. omega arith) (λ e. omega arith) (λ e. omega arith) (λ e. omega arith) (λ e. omega arith) (λ e. omega arith)) h

return_begins : (q : Reading) (s : List ℕ) (a b : ℕ) → slice_index s a ≡ 13 → Spells q s a b → ⊥
return_begins q s a b e h = byte_begins q s a b 13 e (begins_nothing 13 refl refl refl (λ e. omega arith) (λ e. omega arith) (λ e. omega arith) (λ e. omega arith) (λ e. omega arith) (λ e. omega arith) (λ e. omega arith) (λ e. omega arith)) h

pub nothing_at_end : (q : Reading) (s : List ℕ) (a b : ℕ) → a ≡ length s → Spells q s a b → ⊥
nothing_at_end q s a b e h = byte_begins q s a b 0 (get_or_past s a 0 (omega arith)) (begins_nothing 0 refl refl refl (λ e. omega arith) (λ e. omega arith) (λ e. omega arith) (λ e. omega arith) (λ e. omega arith) (λ e. omega arith) (λ e. omega arith) (λ e. omega arith)) h

spelled_no_gap : (q : Reading) (s : List ℕ) (a b : ℕ) → Spells q s a b → StartsNoGap s a
spelled_no_gap q s a b h = record {
  blank = ⊎_elim (λ yes. absurd (elsewhere q s a b refl (blank_begins q _ yes) h)) (λ otherwise. otherwise) (cases_Bool (is_blank (slice_index s a)));
  line = λ l. return_begins q s a b l.0 h;
  comment = λ k c. semicolon q s a b c.begins h;
}

pub end_no_gap : (s : List ℕ) → StartsNoGap s (length s)
end_no_gap s = let zero = get_or_past s (length s) 0 (omega arith) in record {
  blank = ap is_blank zero;
  line = λ l. omega (arith, l.0);
  comment = λ k c. let e = c.begins in omega arith;
}

module _ (s : List ℕ) (a b : ℕ) where
  text_one : slice_index s a ≡ 34 → (r : Reading) → Spells r s a b → r ≡ Good Text
  text_one first (Good Text) h = refl
  text_one first r h = absurd (elsewhere r s a b first refl h)

  plain_elsewhere : slice_index s a ≡ 39 → (r : Reading) → Spells r s a b → r ≡ Good Bytes
  plain_elsewhere first (Good Bytes) h = refl
  plain_elsewhere first r h = absurd (elsewhere r s a b first refl h)

  quote_last : (v : List ℕ) → IsBytes s a b v → (c : ℕ) → slice_index s (b - 1) ≡ c → (c ≡ 39 → ⊥) → ⊥
  quote_last v h c last other = bytes_last s a b v h (λ e. other (sym last ∙ e))

  letter_bytes : (v : List ℕ) → IsBytes s a b v → is_ealpha (slice_index s a) ≡ true → (r : Reading) → Spells r s a b → r ≡ Good Bytes
  letter_bytes v h letter (Good Bytes) k = refl
  letter_bytes v h letter (Good Name) k = absurd (bytes_last s a b v h (λ e. false≢true (ap is_id_byte (sym e) ∙ id_last k)))
  letter_bytes v h letter (Good NameOpen) k = absurd (quote_last v h 60 (ap (λ n. slice_index s n) (let same : b - 1 ≡ k.0 = omega (arith, k.1) in same) ∙ k.3) (λ e. omega arith))
  letter_bytes v h letter r k = absurd (elsewhere r s a b refl (letter_begins r (slice_index s a) letter tt) k)

  bytes_one : (v : List ℕ) → IsBytes s a b v → (r : Reading) → Spells r s a b → r ≡ Good Bytes
  bytes_one v h r k = ⊎_elim (λ q. plain_elsewhere q.opens r k) (λ d. letter_bytes v h (opening d.0 s a d.2.start d.2.opens).letter r k) h

  -- bytes spell one thing
  pub spelled_one : Laws → (q r : Reading) → Spells q s a b → Spells r s a b → r ≡ q
  spelled_one laws (Good Name) r h k = name_one s a b h r k
  spelled_one laws (Good NameOpen) r h k = name_open_one s a b h.0 h.1 h.2 h.3 r k
  spelled_one laws (Good Control) r h k = control_one s a b h.0 h.1 r k
  spelled_one laws (Good Number) r h k = number_one s a b (λ m. laws.not_too_large s a b m) h r k
  spelled_one laws (Good Occur) r h k = occur_one s a b h r k
  spelled_one laws (Good Text) r h k = text_one h.1.opens r k
  spelled_one laws (Good Bytes) r h k = bytes_one h.0 h.1 r k
  spelled_one laws (Good Hash) r h k = hash_one s a b h r k
  spelled_one laws (Good TagOpen) r h k = tag_open_one s a b h r k
  spelled_one laws (Good TagHeadOpen) r h k = tag_head_one s a b h r k
  spelled_one laws (Good SimpleHeadOpen) r h k = simple_head_one s a b h r k
  spelled_one laws (Good Assign) r h k = sign.assign_one s a b h.1 h.0 r k
  spelled_one laws (Good TypeAssign) r h k = sign.type_assign_one s a b h.1 h.0 h.2 r k
  spelled_one laws (Good GroupAssign) r h k = sign.group_assign_one s a b h.1 h.0 r k
  spelled_one laws (Good Slash) r h k = sign.slash_one s a b h.1 h.0 r k
  spelled_one laws (Good DoubleSlash) r h k = sign.double_slash_one s a b h.1 h.0 h.2 r k
  spelled_one laws (Good Range) r h k = range_one s a b h.1 h.2 h.0 r k
  spelled_one laws (Good RangeBelow) r h k = range_below_one s a b h.1 h.2 h.0 r k
  spelled_one laws (Good Arrow) r h k = sign.arrow_one s a b h.1 h.0 r k
  spelled_one laws (Good Cut) r h k = sign.cut_one s a b h.1 r k
  spelled_one laws (Good Colon) r h k = sign.colon_one s a b h.1 r k
  spelled_one laws (Good Comma) r h k = sign.comma_one s a b h.1 r k
  spelled_one laws (Good ParenOpen) r h k = sign.paren_open_one s a b h.1 r k
  spelled_one laws (Good ParenClose) r h k = sign.paren_close_one s a b h.1 r k
  spelled_one laws (Good BracketOpen) r h k = sign.bracket_open_one s a b h.1 r k
  spelled_one laws (Good BracketClose) r h k = sign.bracket_close_one s a b h.1 r k
  spelled_one laws (Good BraceOpen) r h k = sign.brace_open_one s a b h.1 r k
  spelled_one laws (Good BraceClose) r h k = sign.brace_close_one s a b h.1 r k
  spelled_one laws (Good AngleClose) r h k = sign.angle_close_one s a b h.1 r k
  spelled_one laws (Good Tilde) r h k = sign.tilde_one s a b h.1 r k
  spelled_one laws (Good Ampersand) r h k = sign.ampersand_one s a b h.1 r k
  spelled_one laws (Good End) r h k = absurd h
  spelled_one laws (Bad Misspelled) r h k = misspelled_one s a b h r k
  spelled_one laws (Bad Fractional) r h k = float_one s a b h r k
  spelled_one laws (Bad TooLarge) r h k = too_large_one s a b (λ m. laws.not_too_large s a b m) h r k

pub longest_no_gap : {q : Reading} {s : List ℕ} {a b : ℕ} → IsLongest q s a b → StartsNoGap s a
longest_no_gap {q} {s} {a} {b} l = spelled_no_gap q s a b l.spelled

pub longest_end : {q r : Reading} {s : List ℕ} {a b c : ℕ} → IsLongest q s a b → IsLongest r s a c → c ≡ b
longest_end {q} {r} {b = b} {c = c} first second = let upper = first.longest r c second.spelled in let lower = second.longest q b first.spelled in omega arith

pub longest_one : Laws → {q r : Reading} {s : List ℕ} {a b c : ℕ} → IsLongest q s a b → IsLongest r s a c → r ≡ q
longest_one laws {q} {r} {s} {a} {b} first second = spelled_one s a b laws q r first.spelled (subst (Spells r s a) (longest_end first second) second.spelled)

pub good_kind : {k l : Kind} → Good k ≡ Good l → k ≡ l
good_kind e = cc

-- one list of tokens
pub tokenized_one : Laws → {s : List ℕ} {i : ℕ} {ts us : List Spanned} → Tokenized s i ts → Tokenized s i us → us ≡ ts
tokenized_one laws (ends g e) (ends g2 e2) = e2 ∙ sym e
tokenized_one laws {s} (ends g e) (more {a = a} {b = b} {kind = k} g2 t r) =
    absurd (let l = t.longest in nothing_at_end (Good k) s a b (gap_one g2 g (longest_no_gap l) (end_no_gap s)) l.spelled)
tokenized_one laws {s} (more {a = a} {b = b} {kind = k} g t r) (ends g2 e) =
    absurd (let l = t.longest in nothing_at_end (Good k) s a b (gap_one g g2 (longest_no_gap l) (end_no_gap s)) l.spelled)
tokenized_one laws {s} (more {a = a} {b = b} {kind = k} {ts = ts} g t r) (more {a = c} {b = d} {kind = m} {ts = us} g2 t2 r2) =
    let l = t.longest in
    let l2 = t2.longest in
    let from : c ≡ a = gap_one g2 g (longest_no_gap l2) (longest_no_gap l) in
    let second : IsLongest (Good m) s a d = subst (λ n. IsLongest (Good m) s n d) from l2 in
    let past : d ≡ b = longest_end l second in
    let kind : m ≡ k = good_kind (longest_one laws l second) in
    let rest : us ≡ ts = tokenized_one laws r (subst (λ n. Tokenized s n us) past r2) in
    (λ i. token (kind i) (from i) (past i) ∷ rest i)
