-- A source that is refused is refused for one fault, and has no tokens.
use Rattle.std.proofs.Common.{◌≡◌, ℕ, ◌+◌, ◌<◌, ◌≤◌, inl, inr, List, length, slice_index, true, false, sym, refl, ap, subst, ◌∙◌, ⊎_elim, arith}
use Rattle.std.proofs.lemmas.Bool.{false≢true, cases_lt}
use Rattle.std.proofs.lemmas.Bool.Decides.{nat_tests}
use Rattle.std.proofs.lemmas.List.{get_or_past}
use Rattle.cddl_literal.specs.Bytes.{Each, is_in_comment, is_blank}
use Rattle.cddl_literal.specs.Strings.{quote_byte, IsFurthest, HoldsCharacters}
use Rattle.cddl_literal.specs.Prefixed.{Opens, HoldsCoded, IsPrefixed}
use Rattle.cddl_literal.specs.Literals.{IsBytes}
use Rattle.cddl_literal.specs.declared.Quote.{Quote}
use Rattle.cddl_literal.specs.declared.Quote.TheVariants.{Double, Single}
use Rattle.cddl_literal.specs.declared.Coding.{Coding}
use Rattle.cddl_literal.specs.declared.Coding.TheVariants.{Hex, Base64}
use Rattle.cddl_token.specs.Bytes.{is_ealpha, is_id_byte}
use Rattle.cddl_token.specs.declared.Code.{Code}
use Rattle.cddl_token.specs.Strings.{StopsAt, unclosed, bad_escape, bad_character, StringFault, quoted, prefixed, bad_bytes, OpensString}
use Rattle.cddl_token.specs.Spelling.{IsId, Flaw, flaw_code, Reading, Good, Bad, Spells, IsLongest}
use Rattle.cddl_token.specs.declared.Kind.{Kind}
use Rattle.cddl_token.specs.declared.Kind.TheVariants.{Name, NameOpen, Text, Bytes}
use Rattle.cddl_token.specs.Tokens.{IsLineEnd, StartsNoGap, IsToken, FaultAt, flawed, in_string, in_comment, unknown, Tokenized, ends, more, Refused, here, later, Spanned}
use Rattle.cddl_token.proofs.Laws.{Laws}
use Rattle.cddl_token.proofs.BeginFacts.{elsewhere}
use Rattle.cddl_token.proofs.NameFacts.{letter_begins, opens_elsewhere}
use Rattle.cddl_token.proofs.StringFacts.{opening, opens_one}
use Rattle.cddl_token.proofs.TokenOne.{gap_one, line_end_apart, longest_no_gap, longest_end, longest_one, end_no_gap, nothing_at_end, semicolon}

-- the furthest offset is one
furthest_one : {P : ℕ → Type 0} {p r : ℕ} → IsFurthest P p → IsFurthest P r → r ≡ p
furthest_one {P} {p} {r} h k = let up = h.furthest r k.reached in let down = k.furthest p h.reached in omega arith

stops_one : {s : List ℕ} {a p : ℕ} {c d : Code} {i j : ℕ} → StopsAt s a p c i → StopsAt s a p d j → (d ≡ c) × (j ≡ i)
stops_one (unclosed past e) (unclosed past2 f) = (refl, omega arith)
stops_one {s} {p = p} (unclosed past e) (bad_escape b f) = absurd (let zero = get_or_past s p 0 past in omega arith)
stops_one (unclosed past e) (bad_character lt n f) = absurd (omega arith)
stops_one {s} {p = p} (bad_escape b e) (unclosed past f) = absurd (let zero = get_or_past s p 0 past in omega arith)
stops_one (bad_escape b e) (bad_escape b2 f) = (refl, omega arith)
stops_one (bad_escape b e) (bad_character lt n f) = absurd (n b)
stops_one (bad_character lt n e) (unclosed past f) = absurd (omega arith)
stops_one (bad_character lt n e) (bad_escape b f) = absurd (n b)
stops_one (bad_character lt n e) (bad_character lt2 n2 f) = (refl, omega arith)

quote_letter : (q : Quote) → is_ealpha (quote_byte q) ≡ false
quote_letter Double = refl
quote_letter Single = refl

-- no quote where a prefix opens
quote_no_prefix : (q : Quote) (c : Coding) (s : List ℕ) (a p : ℕ) → slice_index s a ≡ quote_byte q → Opens c s a p → ⊥
quote_no_prefix q c s a p first opens = false≢true (sym (quote_letter q) ∙ ap is_ealpha (sym first) ∙ (opening c s a p opens).letter)

quotes_one : (q r : Quote) (b : ℕ) → b ≡ quote_byte q → b ≡ quote_byte r → r ≡ q
quotes_one Double Double b e f = refl
quotes_one Double Single b e f = absurd (omega arith)
quotes_one Single Double b e f = absurd (omega arith)
quotes_one Single Single b e f = refl

-- a closed string with prefix does not stop before its quote
closed_prefix : Laws → (s : List ℕ) (a : ℕ) (c : Coding) (e p : ℕ) → Opens c s a e → IsFurthest (HoldsCoded s e) p → (slice_index s p ≡ 39 → ⊥) → (k : Coding) (b : ℕ) (d : List ℕ) → IsPrefixed k s a b d → ⊥
closed_prefix laws s a c e p opens far halt k b d h =
    let one = opens_one c k s a e h.start opens h.opens in
    halt (laws.prefixed k s a b e p d h (subst (λ n. Opens n s a e) (sym one.0) opens) far).1

string_fault_one : Laws → {s : List ℕ} {a : ℕ} {c d : Code} {i j : ℕ} → StringFault s a c i → StringFault s a d j → (d ≡ c) × (j ≡ i)
string_fault_one laws {s} {a} {d = d} {j = j} (quoted q p first far halt stop) (quoted r t first2 far2 halt2 stop2) =
    let same : r ≡ q = quotes_one q r (slice_index s a) first first2 in
    let place : t ≡ p = furthest_one far (subst (λ n. IsFurthest (HoldsCharacters n s (a + 1)) t) same far2) in
    stops_one stop (subst (λ n. StopsAt s a n d j) place stop2)
string_fault_one laws {s} {a} (quoted q p first far halt stop) (prefixed c e t opens far2 halt2 stop2) = absurd (quote_no_prefix q c s a e first opens)
string_fault_one laws {s} {a} (quoted q p first far halt stop) (bad_bytes b bad code at) = absurd (let it = bad.2 in quote_no_prefix q bad.0 s a it.start first it.opens)
string_fault_one laws {s} {a} (prefixed c e t opens far2 halt2 stop2) (quoted q p first far halt stop) = absurd (quote_no_prefix q c s a e first opens)
string_fault_one laws {s} {a} {d = d} {j = j} (prefixed c e p opens far halt stop) (prefixed c2 e2 t opens2 far2 halt2 stop2) =
    let one = opens_one c c2 s a e e2 opens opens2 in
    let place : t ≡ p = furthest_one far (subst (λ n. IsFurthest (HoldsCoded s n) t) one.1 far2) in
    stops_one stop (subst (λ n. StopsAt s a n d j) place stop2)
string_fault_one laws {s} {a} (prefixed c e p opens far halt stop) (bad_bytes b bad code at) =
    absurd (closed_prefix laws s a c e p opens far halt bad.0 b bad.1 bad.2)
string_fault_one laws {s} {a} (bad_bytes b bad code at) (quoted q p first far halt stop) = absurd (let it = bad.2 in quote_no_prefix q bad.0 s a it.start first it.opens)
string_fault_one laws {s} {a} (bad_bytes b bad code at) (prefixed c e p opens far halt stop) =
    absurd (closed_prefix laws s a c e p opens far halt bad.0 b bad.1 bad.2)
string_fault_one laws (bad_bytes b bad code at) (bad_bytes b2 bad2 code2 at2) = (code2 ∙ sym code, omega arith)

opens_quote : (q : Quote) {s : List ℕ} {a : ℕ} → slice_index s a ≡ quote_byte q → OpensString s a
opens_quote Double first = inl (inl first)
opens_quote Single first = inl (inr first)

string_opens : {s : List ℕ} {a : ℕ} {code : Code} {at : ℕ} → StringFault s a code at → OpensString s a
string_opens (quoted q p first far halt stop) = opens_quote q first
string_opens (prefixed c e p opens far halt stop) = inr (c, e, opens)
string_opens (bad_bytes b bad code at) = let it = bad.2 in inr (bad.0, it.start, it.opens)

-- a fault of a string hides no token
module _ (laws : Laws) (s : List ℕ) (a : ℕ) where
  quoted_hides : (q : Quote) (p : ℕ) → slice_index s a ≡ quote_byte q → IsFurthest (HoldsCharacters q s (a + 1)) p → (slice_index s p ≡ quote_byte q → ⊥) → (r : Reading) (b : ℕ) → Spells r s a b → ⊥
  quoted_hides Double p first far halt (Good Text) b h = halt (laws.quoted Double s a b p h.0 h.1 far).1
  quoted_hides Double p first far halt r b h = elsewhere r s a b first refl h
  quoted_hides Single p first far halt (Good Bytes) b h =
      ⊎_elim
      (λ x. halt (laws.quoted Single s a b p h.0 x far).1)
      (λ x. let it = x.2 in quote_no_prefix Single x.0 s a it.start first it.opens)
      h.1
  quoted_hides Single p first far halt r b h = elsewhere r s a b first refl h

  -- after a prefix no `<` is before the quote
  prefix_no_open : (c : Coding) (p e : ℕ) → Opens c s a p → a < e → slice_index s e ≡ 60 → IsId s a e → ⊥
  prefix_no_open Hex p e opens past sign id =
      ⊎_elim
      (λ lt. false≢true (ap is_id_byte (sym opens.1) ∙ id.holds (a + 1) (omega arith) lt))
      (λ ge. let same : e ≡ a + 1 = omega arith in let here = ap (λ n. slice_index s n) same in omega (arith, opens.1))
      (cases_lt (a + 1) e)
  prefix_no_open Base64 p e opens past sign id =
      ⊎_elim
      (λ lt. false≢true (ap is_id_byte (sym opens.3) ∙ id.holds (a + 3) (omega arith) lt))
      (λ ge. ⊎_elim
      (λ lt. let same : e ≡ a + 1 = omega arith in let here = ap (λ n. slice_index s n) same in omega (arith, opens.1))
      (λ more. ⊎_elim
      (λ lt. let same : e ≡ a + 2 = omega arith in let here = ap (λ n. slice_index s n) same in omega (arith, opens.2))
      (λ last. let same : e ≡ a + 3 = omega arith in let here = ap (λ n. slice_index s n) same in omega (arith, opens.3))
      (cases_lt e (a + 3)))
      (cases_lt e (a + 2)))
      (cases_lt (a + 3) e)

  -- where a prefix opens there is no token but a byte string
  prefix_hides : (c : Coding) (p : ℕ) → Opens c s a p → ((v : List ℕ) (b : ℕ) → IsBytes s a b v → ⊥) → (k : Kind) (b : ℕ) → IsToken k s a b → ⊥
  prefix_hides c p opens no_bytes Name b t = t.allowed (c, p, opens)
  prefix_hides c p opens no_bytes NameOpen b t = let l = t.longest in let h = l.spelled in let id = h.2 in prefix_no_open c p h.0 opens id.nonempty h.3 id
  prefix_hides c p opens no_bytes Bytes b t = let l = t.longest in let h = l.spelled in no_bytes h.0 b h.1
  prefix_hides c p opens no_bytes k b t = let l = t.longest in elsewhere (Good k) s a b refl (letter_begins (Good k) (slice_index s a) (opening c s a p opens).letter tt) l.spelled

  prefix_no_bytes : (c : Coding) (e p : ℕ) → Opens c s a e → IsFurthest (HoldsCoded s e) p → (slice_index s p ≡ 39 → ⊥) → (v : List ℕ) (b : ℕ) → IsBytes s a b v → ⊥
  prefix_no_bytes c e p opens far halt v b h =
      ⊎_elim (λ x. quote_no_prefix Single c s a e x.opens opens) (λ x. closed_prefix laws s a c e p opens far halt x.0 b x.1 x.2) h

  string_hides : {code : Code} {at : ℕ} → StringFault s a code at → (k : Kind) (b : ℕ) → IsToken k s a b → ⊥
  string_hides (quoted q p first far halt stop) k b t = let l = t.longest in quoted_hides q p first far halt (Good k) b l.spelled
  string_hides (prefixed c e p opens far halt stop) k b t = prefix_hides c e opens (prefix_no_bytes c e p opens far halt) k b t
  string_hides (bad_bytes e bad code at) k b t = let it = bad.2 in prefix_hides bad.0 it.start it.opens (λ v c h. laws.not_bad s a c e v h bad) k b t

  -- no number begins where a string opens
  string_no_flaw : OpensString s a → (f : Flaw) (b : ℕ) → Spells (Bad f) s a b → ⊥
  string_no_flaw h f b k =
      ⊎_elim
      (λ q. ⊎_elim (λ e. elsewhere (Bad f) s a b e refl k) (λ e. elsewhere (Bad f) s a b e refl k) q)
      (λ p. elsewhere (Bad f) s a b refl (letter_begins (Bad f) (slice_index s a) (opening p.0 s a p.1 p.2).letter tt) k)
      h

letter_other : (b k : ℕ) → is_ealpha b ≡ true → is_ealpha k ≡ false → b ≡ k → ⊥
letter_other b k h other e = false≢true (sym other ∙ ap is_ealpha (sym e) ∙ h)

letter_blank : (b : ℕ) → is_ealpha b ≡ true → is_blank b ≡ false
letter_blank b h = grind (arith, nat_tests)

string_no_gap : (s : List ℕ) (a : ℕ) → OpensString s a → StartsNoGap s a
string_no_gap s a h =
    ⊎_elim
    (λ q. ⊎_elim
    (λ e. record { blank = ap is_blank e; line = λ l. omega (arith, l.0); comment = λ k c. let b = c.begins in omega arith })
    (λ e. record { blank = ap is_blank e; line = λ l. omega (arith, l.0); comment = λ k c. let b = c.begins in omega arith })
    q)
    (λ p. let letter = (opening p.0 s a p.1 p.2).letter in record {
      blank = letter_blank (slice_index s a) letter;
      line = λ l. letter_other (slice_index s a) 13 letter refl l.0;
      comment = λ k c. letter_other (slice_index s a) 59 letter refl c.begins;
    })
    h

string_no_comment : (s : List ℕ) (a : ℕ) → OpensString s a → slice_index s a ≡ 59 → ⊥
string_no_comment s a h first = opens_elsewhere s a first refl h

first_other : (s : List ℕ) {a i j : ℕ} → a < i → Each is_in_comment s (a + 1) j → is_in_comment (slice_index s i) ≡ false → j ≤ i
first_other s {a} {i} {j} past holds other = ⊎_elim (λ lt. absurd (false≢true (sym other ∙ holds i (omega arith) lt))) (λ le. le) (cases_lt i j)

bad_flaw : {f g : Flaw} → Bad f ≡ Bad g → f ≡ g
bad_flaw e = cc

good_bad : {k : Kind} {f : Flaw} → Good k ≡ Bad f → ⊥
good_bad e = cc

fault_no_gap : {s : List ℕ} {a : ℕ} {code : Code} {at : ℕ} → FaultAt s a code at → StartsNoGap s a
fault_no_gap (flawed e c l) = longest_no_gap l
fault_no_gap {s} {a} (in_string f) = string_no_gap s a (string_opens f)
fault_no_gap {s} (in_comment {at = at} e past within holds other no_end) = record {
  blank = ap is_blank e;
  line = λ l. omega (arith, l.0);
  comment = λ k c. ⊎_elim
      (λ lt. false≢true (sym other ∙ c.holds at (omega arith) lt))
      (λ ge. ⊎_elim
      (λ lt. let p = c.past in false≢true (sym (line_end_apart s k c.ends) ∙ holds k (omega arith) lt))
      (λ le. let same : k ≡ at = omega arith in no_end (subst (IsLineEnd s) same c.ends))
      (cases_lt k at))
      (cases_lt at k);
}
fault_no_gap (unknown e stop string semicolon nothing) = stop

fault_one : Laws → {s : List ℕ} {a : ℕ} {c d : Code} {i j : ℕ} → FaultAt s a c i → FaultAt s a d j → (d ≡ c) × (j ≡ i)
fault_one laws (flawed {flaw = f} e c l) (flawed {flaw = g} e2 c2 l2) = let same : g ≡ f = bad_flaw (longest_one laws l l2) in (c2 ∙ ap flaw_code same ∙ sym c, omega arith)
fault_one laws {s} {a} (flawed {flaw = f} {b = b} e c l) (in_string g) = absurd (string_no_flaw laws s a (string_opens g) f b l.spelled)
fault_one laws {s} {a} (flawed {flaw = f} {b = b} e c l) (in_comment first p w h o n) = absurd (semicolon (Bad f) s a b first l.spelled)
fault_one laws (flawed {flaw = f} {b = b} e c l) (unknown e2 g q x nothing) = absurd (nothing (Bad f) b l.spelled)
fault_one laws {s} {a} (in_string g) (flawed {flaw = f} {b = b} e c l) = absurd (string_no_flaw laws s a (string_opens g) f b l.spelled)
fault_one laws (in_string f) (in_string g) = string_fault_one laws f g
fault_one laws {s} {a} (in_string f) (in_comment first p w h o n) = absurd (string_no_comment s a (string_opens f) first)
fault_one laws (in_string f) (unknown e g q x nothing) = absurd (q (string_opens f))
fault_one laws {s} {a} (in_comment first p w h o n) (flawed {flaw = f} {b = b} e c l) = absurd (semicolon (Bad f) s a b first l.spelled)
fault_one laws {s} {a} (in_comment first p w h o n) (in_string f) = absurd (string_no_comment s a (string_opens f) first)
fault_one laws {s} (in_comment f p w h o n) (in_comment f2 p2 w2 h2 o2 n2) = (refl, (let upper = first_other s p h2 o in let lower = first_other s p2 h o2 in omega arith))
fault_one laws (in_comment f p w h o n) (unknown e g q x nothing) = absurd (x f)
fault_one laws (unknown e2 g q x nothing) (flawed {flaw = f} {b = b} e c l) = absurd (nothing (Bad f) b l.spelled)
fault_one laws (unknown e g q x nothing) (in_string f) = absurd (q (string_opens f))
fault_one laws (unknown e g q x nothing) (in_comment f p w h o n) = absurd (x f)
fault_one laws (unknown e g q x nothing) (unknown e2 g2 q2 x2 nothing2) = (refl, omega arith)

not_faulty : Laws → {s : List ℕ} {a b : ℕ} {k : Kind} {code : Code} {at : ℕ} → IsToken k s a b → FaultAt s a code at → ⊥
not_faulty laws t (flawed e c l) = good_bad (longest_one laws l t.longest)
not_faulty laws {s} {a} {b} {k} t (in_string f) = string_hides laws s a f k b t
not_faulty laws {s} {a} {b} {k} t (in_comment e past within holds other no_end) = let l = t.longest in semicolon (Good k) s a b e l.spelled
not_faulty laws {b = b} {k = k} t (unknown e stop string semicolon nothing) = let l = t.longest in nothing (Good k) b l.spelled

token_no_gap : {s : List ℕ} {a b : ℕ} {k : Kind} → IsToken k s a b → StartsNoGap s a
token_no_gap t = longest_no_gap t.longest

-- what has tokens isn't refused
pub not_both : Laws → {s : List ℕ} {i : ℕ} {ts : List Spanned} {code : Code} {at : ℕ} → Tokenized s i ts → Refused s i code at → ⊥
not_both laws {s} (ends g e) (here {a = a} g2 lt f) = let same : a ≡ length s = gap_one g2 g (fault_no_gap f) (end_no_gap s) in omega arith
not_both laws {s} (ends g e) (later {a = a} {b = b} {kind = k} g2 t r) = let l = t.longest in nothing_at_end (Good k) s a b (gap_one g2 g (token_no_gap t) (end_no_gap s)) l.spelled
not_both laws {s} {code = code} {at = at} (more {a = a} {b = b} {kind = k} g t r) (here {a = c} g2 lt f) =
    let from : c ≡ a = gap_one g2 g (fault_no_gap f) (token_no_gap t) in
    not_faulty laws t (subst (λ n. FaultAt s n code at) from f)
not_both laws {s} {code = code} {at = at} (more {a = a} {b = b} {kind = k} g t r) (later {a = c} {b = d} {kind = m} g2 t2 r2) =
    let l = t.longest in
    let from : c ≡ a = gap_one g2 g (token_no_gap t2) (token_no_gap t) in
    let second : IsLongest (Good m) s a d = subst (λ n. IsLongest (Good m) s n d) from t2.longest in
    not_both laws r (subst (λ n. Refused s n code at) (longest_end l second) r2)

pub refused_one : Laws → {s : List ℕ} {i : ℕ} {c d : Code} {p q : ℕ} → Refused s i c p → Refused s i d q → (d ≡ c) × (q ≡ p)
refused_one laws {s} {d = d} {q = q} (here {a = a} g lt f) (here {a = b} g2 lt2 f2) =
    let from : b ≡ a = gap_one g2 g (fault_no_gap f2) (fault_no_gap f) in
    fault_one laws f (subst (λ n. FaultAt s n d q) from f2)
refused_one laws {s} {c = c} {p = p} (here {a = a} g lt f) (later {a = b} g2 t r) =
    let from : a ≡ b = gap_one g g2 (fault_no_gap f) (token_no_gap t) in
    absurd (not_faulty laws t (subst (λ n. FaultAt s n c p) from f))
refused_one laws {s} {d = d} {q = q} (later {a = b} g2 t r) (here {a = a} g lt f) =
    let from : a ≡ b = gap_one g g2 (fault_no_gap f) (token_no_gap t) in
    absurd (not_faulty laws t (subst (λ n. FaultAt s n d q) from f))
refused_one laws {s} {d = d} {q = q} (later {a = a} {b = b} {kind = k} g t r) (later {a = e} {b = f} {kind = m} g2 t2 r2) =
    let l = t.longest in
    let from : e ≡ a = gap_one g2 g (token_no_gap t2) (token_no_gap t) in
    let second : IsLongest (Good m) s a f = subst (λ n. IsLongest (Good m) s n f) from t2.longest in
    refused_one laws r (subst (λ n. Refused s n d q) (longest_end l second) r2)
