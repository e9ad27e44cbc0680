-- Nothing that can be read where a string opens is longer.
use Rattle.std.proofs.Common.{◌≡◌, ℕ, ◌+◌, ◌-◌, ◌<◌, ◌≤◌, inl, inr, true, false, List, [], Some, length, slice_index, sym, refl, ap, subst, ◌∙◌, ⊎_elim, arith}
use Rattle.std.proofs.lemmas.Bool.{false≢true, cases_lt}
use Rattle.std.proofs.lemmas.List.{get_or_past}
use Rattle.cddl_literal.specs.Bytes.{is_h, is_b}
use Rattle.cddl_literal.specs.Strings.{quote_byte, HoldsCharacters, IsFurthest, IsQuoted}
use Rattle.cddl_literal.specs.Prefixed.{Opens, IsPrefixed, HoldsCoded, Coded, none, coded_bytes}
use Rattle.cddl_literal.specs.declared.Quote.{Quote}
use Rattle.cddl_literal.specs.declared.Quote.TheVariants.{Double, Single}
use Rattle.cddl_literal.specs.declared.Coding.{Coding}
use Rattle.cddl_literal.specs.declared.Coding.TheVariants.{Hex, Base64}
use Rattle.cddl_token.specs.Strings.{OpensString}
use Rattle.cddl_token.specs.Bytes.{is_ealpha, is_id_byte}
use Rattle.cddl_token.proofs.EachFacts.{each_within}
use Rattle.cddl_token.proofs.NameFacts.{letter_begins}
use Rattle.std.proofs.lemmas.Bool.Decides.{nat_tests}
use Rattle.cddl_token.specs.Spelling.{IsId, Reading, Good, Spells}
use Rattle.cddl_token.specs.declared.Kind.TheVariants.{Name, NameOpen, Text, Bytes}
use Rattle.cddl_token.specs.Tokens.{IsToken}
use Rattle.cddl_token.proofs.BeginFacts.{elsewhere}

-- no prefix opens where another byte is
pub opens_apart : (coding : Coding) (s : List ℕ) (a p : ℕ) → is_h (slice_index s a) ≡ false → is_b (slice_index s a) ≡ false → Opens coding s a p → ⊥
opens_apart Hex s a p no_h no_b h = false≢true (sym no_h ∙ h.0)
opens_apart Base64 s a p no_h no_b h = false≢true (sym no_b ∙ h.0)

-- a string in quotes ends at the furthest offset that its characters reach
pub quoted_within : (q : Quote) (s : List ℕ) (a p m : ℕ) (v : List ℕ) → IsFurthest (HoldsCharacters q s (a + 1)) p → IsQuoted q s a m v → m ≤ p + 1
quoted_within q s a p m v far h = let le = far.furthest h.end (v, h.holds) in omega (arith, h.ends)

module _ (s : List ℕ) (a p : ℕ) where
  text_longest : slice_index s a ≡ 34 → IsFurthest (HoldsCharacters Double s (a + 1)) p → (q : Reading) (m : ℕ) → Spells q s a m → m ≤ p + 1
  text_longest first far (Good Text) m h = quoted_within Double s a p m h.0 far h.1
  text_longest first far q m h = absurd (elsewhere q s a m first refl h)

  plain_longest : slice_index s a ≡ 39 → IsFurthest (HoldsCharacters Single s (a + 1)) p → (q : Reading) (m : ℕ) → Spells q s a m → m ≤ p + 1
  plain_longest first far (Good Bytes) m h = ⊎_elim (λ x. quoted_within Single s a p m h.0 far x) (λ d. absurd (opens_apart d.0 s a d.2.start (ap is_h first) (ap is_b first) d.2.opens)) h.1
  plain_longest first far q m h = absurd (elsewhere q s a m first refl h)

  pub text_token : slice_index s a ≡ 34 → IsFurthest (HoldsCharacters Double s (a + 1)) p → slice_index s p ≡ 34 → IsToken Text s a (p + 1)
  text_token first far close = let held = far.reached in record { longest = record { spelled = (held.0, record { end = p; opens = first; holds = held.1; closes = close; ends = refl }); longest = text_longest first far }; allowed = tt }

  pub plain_token : slice_index s a ≡ 39 → IsFurthest (HoldsCharacters Single s (a + 1)) p → slice_index s p ≡ 39 → IsToken Bytes s a (p + 1)
  plain_token first far close = let held = far.reached in record { longest = record { spelled = (held.0, inl (record { end = p; opens = first; holds = held.1; closes = close; ends = refl })); longest = plain_longest first far }; allowed = tt }

quote_positive : (q : Quote) → 0 < quote_byte q
quote_positive Double = omega arith
quote_positive Single = omega arith

-- where a quote is the source goes on
pub closed_within : (q : Quote) (s : List ℕ) (p : ℕ) → slice_index s p ≡ quote_byte q → p + 1 ≤ length s
closed_within q s p close =
    ⊎_elim (λ lt. omega arith) (λ ge. let zero = get_or_past s p 0 ge in let some = quote_positive q in absurd (omega arith)) (cases_lt p (length s))

-- what was found between quotes
pub text_found : (quote : Quote) (s : List ℕ) (a p : ℕ) → quote ≡ Double → slice_index s a ≡ quote_byte quote → IsFurthest (HoldsCharacters quote s (a + 1)) p → slice_index s p ≡ quote_byte quote → IsToken Text s a (p + 1) × (p + 1 ≤ length s)
text_found Double s a p is first far close = (text_token s a p first far close, closed_within Double s p close)
text_found Single s a p is first far close = cc

pub plain_found : (quote : Quote) (s : List ℕ) (a p : ℕ) → quote ≡ Single → slice_index s a ≡ quote_byte quote → IsFurthest (HoldsCharacters quote s (a + 1)) p → slice_index s p ≡ quote_byte quote → IsToken Bytes s a (p + 1) × (p + 1 ≤ length s)
plain_found Double s a p is first far close = cc
plain_found Single s a p is first far close = (plain_token s a p first far close, closed_within Single s p close)

h_b : (b : ℕ) → is_h b ≡ true → is_b b ≡ true → ⊥
h_b b h k = grind (arith, nat_tests)

h_letter : (b : ℕ) → is_h b ≡ true → is_ealpha b ≡ true
h_letter b h = grind (arith, nat_tests)

b_letter : (b : ℕ) → is_b b ≡ true → is_ealpha b ≡ true
b_letter b h = grind (arith, nat_tests)

-- a prefix is a letter first and a quote last
pub record IsOpening (s : List ℕ) (a p : ℕ) : Type 0 where
  pub letter : is_ealpha (slice_index s a) ≡ true
  pub past : a < p
  pub quote : slice_index s (p - 1) ≡ 39

pub opening : (coding : Coding) (s : List ℕ) (a p : ℕ) → Opens coding s a p → IsOpening s a p
opening Hex s a p h = record { letter = h_letter (slice_index s a) h.0; past = omega (arith, h.2); quote = ap (λ n. slice_index s n) (let same : p - 1 ≡ a + 1 = omega (arith, h.2) in same) ∙ h.1 }
opening Base64 s a p h = record { letter = b_letter (slice_index s a) h.0; past = omega (arith, h.4); quote = ap (λ n. slice_index s n) (let same : p - 1 ≡ a + 3 = omega (arith, h.4) in same) ∙ h.3 }

-- one prefix opens at an offset
pub opens_one : (c d : Coding) (s : List ℕ) (a p r : ℕ) → Opens c s a p → Opens d s a r → (d ≡ c) × (r ≡ p)
opens_one Hex Hex s a p r h k = (refl, omega (arith, h.2, k.2))
opens_one Hex Base64 s a p r h k = absurd (h_b (slice_index s a) h.0 k.0)
opens_one Base64 Hex s a p r h k = absurd (h_b (slice_index s a) k.0 h.0)
opens_one Base64 Base64 s a p r h k = (refl, omega (arith, h.4, k.4))

module _ (coding : Coding) (s : List ℕ) (a start p : ℕ) (opens : Opens coding s a start) (far : IsFurthest (HoldsCoded s start) p) where
  front : start ≤ p
  front = far.furthest start (start, [], none refl refl, inl refl)

  id_within : {m : ℕ} → IsId s a m → m ≤ start - 1
  id_within id = let first = opening coding s a start opens in each_within is_id_byte s (let past = first.past in let le : a ≤ start - 1 = omega arith in le) (ap is_id_byte first.quote) id.holds

  prefixed_within : (c : Coding) (m : ℕ) (d : List ℕ) → IsPrefixed c s a m d → m ≤ p + 1
  prefixed_within c m d h =
      let same = opens_one coding c s a start h.start opens h.opens in
      let le = far.furthest h.end (h.end, d, subst (λ n. Coded s n h.end d) same.1 h.holds, inl refl) in
      omega (arith, h.ends)

  prefixed_longest : (q : Reading) (m : ℕ) → Spells q s a m → m ≤ p + 1
  prefixed_longest (Good Name) m h = let le = id_within h in let low = front in omega arith
  prefixed_longest (Good NameOpen) m h = let le = id_within h.2 in let low = front in omega (arith, h.1)
  prefixed_longest (Good Bytes) m h = ⊎_elim (λ x. absurd (let first = opening coding s a start opens in false≢true (ap is_ealpha (sym x.opens) ∙ first.letter))) (λ x. prefixed_within x.0 m x.1 x.2) h.1
  prefixed_longest q m h = absurd (elsewhere q s a m refl (letter_begins q (slice_index s a) (opening coding s a start opens).letter tt) h)

  pub prefixed_token : (d v : List ℕ) → Coded s start p d → slice_index s p ≡ 39 → coded_bytes coding d ≡ Some v → IsToken Bytes s a (p + 1)
  prefixed_token d v held close value = record { longest = record { spelled = (v, inr (coding, d, record { start = start; end = p; opens = opens; holds = held; closes = close; ends = refl }, value)); longest = prefixed_longest }; allowed = tt }

-- no string opens where no letter and no quote is
pub opens_nothing : (s : List ℕ) (a : ℕ) → is_ealpha (slice_index s a) ≡ false → (slice_index s a ≡ 34 → ⊥) → (slice_index s a ≡ 39 → ⊥) → OpensString s a → ⊥
opens_nothing s a other double single h =
    ⊎_elim (λ q. ⊎_elim (λ e. double e) (λ e. single e) q) (λ p. false≢true (sym other ∙ (opening p.0 s a p.1 p.2).letter)) h
