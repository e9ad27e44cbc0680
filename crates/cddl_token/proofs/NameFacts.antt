-- Nothing that can be read where an id begins is longer.
use Rattle.std.proofs.Common.{◌≡◌, ℕ, ◌+◌, ◌-◌, ◌<◌, ◌≤◌, Bool, true, false, ◌||◌, ◌==◌, List, slice_index, sym, refl, ap, ◌∙◌, ⊎_elim, arith}
use Rattle.std.proofs.lemmas.Bool.{false≢true, cases_lt, or_from, or_left, or_right, ne_eqb}
use Rattle.std.proofs.lemmas.Bool.Decides.{nat_tests}
use Rattle.cddl_literal.specs.Bytes.{Each, is_decimal_digit, is_h, is_b}
use Rattle.cddl_literal.specs.Prefixed.{Opens}
use Rattle.cddl_literal.specs.declared.Coding.{Coding}
use Rattle.cddl_literal.specs.declared.Coding.TheVariants.{Hex, Base64}
use Rattle.cddl_literal.specs.Literals.{IsBytes}
use Rattle.cddl_token.specs.Bytes.{is_ealpha, is_id_byte, is_mark}
use Rattle.cddl_token.specs.Strings.{OpensPrefixed, OpensString}
use Rattle.cddl_token.specs.Spelling.{IsId, Reading, Good, Bad, Spells}
use Rattle.cddl_token.specs.Tokens.{IsToken}
use Rattle.cddl_token.proofs.BeginFacts.{begins, is_signed, elsewhere}
use Rattle.cddl_token.specs.declared.Kind.TheVariants.{Name, NameOpen, Control, Number, Occur, Bytes, Range, RangeBelow, End}

letter_signed : (b : ℕ) → is_ealpha b ≡ true → is_signed b ≡ false
letter_signed b h = grind (arith, nat_tests)

letter_other : (b k : ℕ) → is_ealpha b ≡ true → is_ealpha k ≡ false → (b == k) ≡ false
letter_other b k h other = ne_eqb b k (λ e. false≢true (sym other ∙ ap is_ealpha (sym e) ∙ h))

letter_digit : (b : ℕ) → is_ealpha b ≡ true → is_decimal_digit b ≡ false
letter_digit b h = grind (arith, nat_tests)

abbrev pub IsNoName : Reading → Type 0
IsNoName (Good Name) = ⊥
IsNoName (Good NameOpen) = ⊥
IsNoName (Good Bytes) = ⊥
IsNoName _ = Unit {0}

-- only names and byte strings begin with a letter
pub letter_begins : (q : Reading) (b : ℕ) → is_ealpha b ≡ true → IsNoName q → begins q b ≡ false
letter_begins (Good Name) b h other = absurd other
letter_begins (Good NameOpen) b h other = absurd other
letter_begins (Good Bytes) b h other = absurd other
letter_begins (Good Number) b h other = letter_signed b h
letter_begins (Good Occur) b h other = or_from _ _ (or_from _ _ (or_from _ _ (letter_digit b h) (letter_other b _ h refl)) (letter_other b _ h refl)) (letter_other b _ h refl)
letter_begins (Good End) b h other = refl
letter_begins (Good _) b h other = letter_other b _ h refl
letter_begins (Bad _) b h other = or_from _ _ (or_from _ _ (letter_signed b h) (letter_other b _ h refl)) (letter_other b _ h refl)

-- a byte string that begins with a letter opens with a prefix
pub bytes_open : (s : List ℕ) (a b : ℕ) (v : List ℕ) → is_ealpha (slice_index s a) ≡ true → IsBytes s a b v → OpensPrefixed s a
bytes_open s a b v letter h = ⊎_elim (λ q. absurd (false≢true (ap is_ealpha (sym q.opens) ∙ letter))) (λ d. (d.0, d.2.start, d.2.opens)) h

-- `<` is in no id
id_apart : {s : List ℕ} {a e f : ℕ} → IsId s a e → IsId s a f → f ≤ e → slice_index s f ≡ 60 → f ≡ e
id_apart {s} {a} {e} {f} long short le sign = ⊎_elim (λ lt. absurd (false≢true (ap is_id_byte (sym sign) ∙ long.holds f (let h = short.nonempty in omega arith) lt))) (λ ge. omega arith) (cases_lt f e)

module _ (s : List ℕ) (a e : ℕ) (id : IsId s a e) (longest : (m : ℕ) → IsId s a m → m ≤ e) (no_string : OpensPrefixed s a → ⊥) where
  name_longest : (slice_index s e ≡ 60 → ⊥) → (q : Reading) (m : ℕ) → Spells q s a m → m ≤ e
  name_longest closed (Good Name) m h = longest m h
  name_longest closed (Good NameOpen) m h = absurd (closed (ap (λ n. slice_index s n) (sym (id_apart id h.2 (longest h.0 h.2) h.3)) ∙ h.3))
  name_longest closed (Good Bytes) m h = absurd (no_string (bytes_open s a m h.0 id.begins h.1))
  name_longest closed q m h = absurd (elsewhere q s a m refl (letter_begins q (slice_index s a) id.begins tt) h)

  name_open_longest : (q : Reading) (m : ℕ) → Spells q s a m → m ≤ e + 1
  name_open_longest (Good Name) m h = let le = longest m h in omega arith
  name_open_longest (Good NameOpen) m h = let le = longest h.0 h.2 in omega (arith, h.1)
  name_open_longest (Good Bytes) m h = absurd (no_string (bytes_open s a m h.0 id.begins h.1))
  name_open_longest q m h = absurd (elsewhere q s a m refl (letter_begins q (slice_index s a) id.begins tt) h)

  pub name_token : (slice_index s e ≡ 60 → ⊥) → IsToken Name s a e
  name_token closed = record { longest = record { spelled = id; longest = name_longest closed }; allowed = no_string }

  pub name_open_token : slice_index s e ≡ 60 → IsToken NameOpen s a (e + 1)
  name_open_token sign = record { longest = record { spelled = (e, refl, id, sign); longest = name_open_longest }; allowed = tt }

-- the last byte of an id
pub id_last : {s : List ℕ} {a b : ℕ} → IsId s a b → is_id_byte (slice_index s (b - 1)) ≡ true
id_last {s} {a} {b} id = id.holds (b - 1) (let some = id.nonempty in omega arith) (let some = id.nonempty in omega arith)

pub letter_no_mark : (b : ℕ) → is_ealpha b ≡ true → is_mark b ≡ false
letter_no_mark b h = or_from _ _ (letter_other b _ h refl) (letter_other b _ h refl)

pub letter_of_id : (b : ℕ) → is_ealpha b ≡ true → is_id_byte b ≡ true
letter_of_id b h = or_left _ _ (or_left _ _ h)

-- no id goes past marks and then a byte of no id
pub id_ends : (s : List ℕ) (a e i m : ℕ) → a < e → e ≤ i → Each is_mark s e i → is_id_byte (slice_index s i) ≡ false → IsId s a m → m ≤ e
id_ends s a e i m from passed marks other id =
    ⊎_elim
    (λ more. absurd (⊎_elim (λ past. false≢true (sym other ∙ id.holds i (omega arith) past)) (λ before. false≢true (sym id.ends ∙ marks (m - 1) (omega arith) (omega arith))) (cases_lt i m)))
    (λ le. le)
    (cases_lt e m)

-- `.` and what may follow it
module _ (s : List ℕ) (a : ℕ) where
  control_longest : (e : ℕ) → slice_index s a ≡ 46 → IsId s (a + 1) e → ((m : ℕ) → IsId s (a + 1) m → m ≤ e) → (q : Reading) (m : ℕ) → Spells q s a m → m ≤ e
  control_longest e first id longest (Good Control) m h = longest m h.1
  control_longest e first id longest (Good Range) m h = absurd (false≢true (ap is_ealpha (sym h.2) ∙ id.begins))
  control_longest e first id longest (Good RangeBelow) m h = absurd (false≢true (ap is_ealpha (sym h.2) ∙ id.begins))
  control_longest e first id longest q m h = absurd (elsewhere q s a m first refl h)

  pub control_token : (e : ℕ) → slice_index s a ≡ 46 → IsId s (a + 1) e → ((m : ℕ) → IsId s (a + 1) m → m ≤ e) → IsToken Control s a e
  control_token e first id longest = record { longest = record { spelled = (first, id); longest = control_longest e first id longest }; allowed = tt }

  pub lone_dot : slice_index s a ≡ 46 → (slice_index s (a + 1) ≡ 46 → ⊥) → is_ealpha (slice_index s (a + 1)) ≡ false → (q : Reading) (m : ℕ) → Spells q s a m → ⊥
  lone_dot first second letter (Good Range) m h = second h.2
  lone_dot first second letter (Good RangeBelow) m h = second h.2
  lone_dot first second letter (Good Control) m h = let id = h.1 in false≢true (sym letter ∙ id.begins)
  lone_dot first second letter q m h = elsewhere q s a m first refl h

  range_longest : slice_index s a ≡ 46 → slice_index s (a + 1) ≡ 46 → (slice_index s (a + 2) ≡ 46 → ⊥) → (q : Reading) (m : ℕ) → Spells q s a m → m ≤ a + 2
  range_longest first second third (Good Control) m h = absurd (let id = h.1 in false≢true (ap is_ealpha (sym second) ∙ id.begins))
  range_longest first second third (Good Range) m h = omega (arith, h.0)
  range_longest first second third (Good RangeBelow) m h = absurd (third h.3)
  range_longest first second third q m h = absurd (elsewhere q s a m first refl h)

  pub range_token : slice_index s a ≡ 46 → slice_index s (a + 1) ≡ 46 → (slice_index s (a + 2) ≡ 46 → ⊥) → IsToken Range s a (a + 2)
  range_token first second third = record { longest = record { spelled = (refl, first, second); longest = range_longest first second third }; allowed = tt }

  range_below_longest : slice_index s a ≡ 46 → slice_index s (a + 1) ≡ 46 → (q : Reading) (m : ℕ) → Spells q s a m → m ≤ a + 3
  range_below_longest first second (Good Control) m h = absurd (let id = h.1 in false≢true (ap is_ealpha (sym second) ∙ id.begins))
  range_below_longest first second (Good Range) m h = omega (arith, h.0)
  range_below_longest first second (Good RangeBelow) m h = omega (arith, h.0)
  range_below_longest first second q m h = absurd (elsewhere q s a m first refl h)

  pub range_below_token : slice_index s a ≡ 46 → slice_index s (a + 1) ≡ 46 → slice_index s (a + 2) ≡ 46 → IsToken RangeBelow s a (a + 3)
  range_below_token first second third = record { longest = record { spelled = (refl, first, second, third); longest = range_below_longest first second }; allowed = tt }

prefix_first : (coding : Coding) (s : List ℕ) (a p : ℕ) → Opens coding s a p → (is_h (slice_index s a) || is_b (slice_index s a)) ≡ true
prefix_first Hex s a p h = or_left _ _ h.0
prefix_first Base64 s a p h = or_right _ _ h.0

-- no string opens with another byte
pub opens_elsewhere : (s : List ℕ) (a : ℕ) {b : ℕ} → slice_index s a ≡ b → ((b == 34 || b == 39) || (is_h b || is_b b)) ≡ false → OpensString s a → ⊥
opens_elsewhere s a {b} first other h =
    let P : ℕ → Bool = λ n. (n == 34 || n == 39) || (is_h n || is_b n) in
    false≢true (sym other ∙ sym (ap P first) ∙ ⊎_elim (λ q. ⊎_elim (λ e. ap P e) (λ e. ap P e) q) (λ p. or_right _ _ (prefix_first p.0 s a p.1 p.2)) h)

pub dot_opens : (s : List ℕ) (a : ℕ) → slice_index s a ≡ 46 → OpensString s a → ⊥
dot_opens s a first = opens_elsewhere s a first refl

-- a byte string ends with `'`
pub bytes_last : (s : List ℕ) (a b : ℕ) (v : List ℕ) → IsBytes s a b v → (slice_index s (b - 1) ≡ 39 → ⊥) → ⊥
bytes_last s a b v h no_quote =
    ⊎_elim
    (λ q. no_quote (ap (λ n. slice_index s n) (let same : b - 1 ≡ q.end = let e = q.ends in omega arith in same) ∙ q.closes))
    (λ d. let p = d.2 in no_quote (ap (λ n. slice_index s n) (let same : b - 1 ≡ p.end = let e = p.ends in omega arith in same) ∙ p.closes))
    h

-- what is spelled as a name is nothing else
module _ (s : List ℕ) (a b : ℕ) where
  pub name_one : IsId s a b → (r : Reading) → Spells r s a b → r ≡ Good Name
  name_one h (Good Name) k = refl
  name_one h (Good NameOpen) k = absurd (false≢true (ap is_id_byte (sym k.3) ∙ h.holds k.0 (let past = k.2.nonempty in omega arith) (omega (arith, k.1))))
  name_one h (Good Bytes) k = absurd (bytes_last s a b k.0 k.1 (λ e. false≢true (ap is_id_byte (sym e) ∙ id_last h)))
  name_one h r k = absurd (elsewhere r s a b refl (letter_begins r (slice_index s a) h.begins tt) k)

  pub name_open_one : (e : ℕ) → b ≡ e + 1 → IsId s a e → slice_index s e ≡ 60 → (r : Reading) → Spells r s a b → r ≡ Good NameOpen
  name_open_one e end id sign (Good Name) h = absurd (false≢true (ap is_id_byte (sym sign) ∙ h.holds e (let past = id.nonempty in omega arith) (omega arith)))
  name_open_one e end id sign (Good NameOpen) h = refl
  name_open_one e end id sign (Good Bytes) h = absurd (bytes_last s a b h.0 h.1 (λ quote. let same : b - 1 ≡ e = omega arith in let f = ap (λ n. slice_index s n) same in omega arith))
  name_open_one e end id sign r h = absurd (elsewhere r s a b refl (letter_begins r (slice_index s a) id.begins tt) h)

  pub control_one : slice_index s a ≡ 46 → IsId s (a + 1) b → (r : Reading) → Spells r s a b → r ≡ Good Control
  control_one first id (Good Control) h = refl
  control_one first id (Good Range) h = absurd (false≢true (ap is_ealpha (sym h.2) ∙ id.begins))
  control_one first id (Good RangeBelow) h = absurd (false≢true (ap is_ealpha (sym h.2) ∙ id.begins))
  control_one first id r h = absurd (elsewhere r s a b first refl h)

  pub range_one : slice_index s a ≡ 46 → slice_index s (a + 1) ≡ 46 → b ≡ a + 2 → (r : Reading) → Spells r s a b → r ≡ Good Range
  range_one first second end (Good Range) h = refl
  range_one first second end (Good Control) h = absurd (let id = h.1 in false≢true (ap is_ealpha (sym second) ∙ id.begins))
  range_one first second end (Good RangeBelow) h = absurd (omega (arith, h.0))
  range_one first second end r h = absurd (elsewhere r s a b first refl h)

  pub range_below_one : slice_index s a ≡ 46 → slice_index s (a + 1) ≡ 46 → b ≡ a + 3 → (r : Reading) → Spells r s a b → r ≡ Good RangeBelow
  range_below_one first second end (Good RangeBelow) h = refl
  range_below_one first second end (Good Control) h = absurd (let id = h.1 in false≢true (ap is_ealpha (sym second) ∙ id.begins))
  range_below_one first second end (Good Range) h = absurd (omega (arith, h.0))
  range_below_one first second end r h = absurd (elsewhere r s a b first refl h)
