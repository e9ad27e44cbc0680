-- A spelling has one end and one meaning.
use Rattle.std.proofs.Common.{◌≡◌, ◌≢◌, ℕ, ◌+◌, ◌≤◌, ◌⊎◌, inl, inr, Bool, true, false, List, [], ◌∷◌, ◌++◌, Some, slice_index, sym, refl, ap, subst, ◌∙◌, ⊎_elim, arith}
use Rattle.std.proofs.lemmas.Bool.Decides.{nat_tests}
use Rattle.std.specs.Char.{encode_utf8}
use Rattle.lists.proofs.Lemmas.{some_none}
use Rattle.cddl_literal.specs.Bytes.{is_h, is_b, is_blank}
use Rattle.cddl_literal.specs.Numbers.{Meaning, IsNumber, IsTooLarge, signed}
use Rattle.cddl_literal.specs.Strings.{quote_byte, is_plain, Characters, none, plain, escape, line, HoldsCharacters, IsQuoted, IsFurthest}
use Rattle.cddl_literal.specs.Prefixed.{Coded, none as coded_end, blank, line as coded_line, comment, other, is_other, HoldsCoded, Opens, IsPrefixed, coded_bytes}
use Rattle.cddl_literal.specs.Literals.{IsBytes, IsBadBytes}
use Rattle.cddl_literal.specs.declared.Quote.{Quote}
use Rattle.cddl_literal.specs.declared.Quote.TheVariants.{Double, Single}
use Rattle.cddl_literal.specs.declared.Coding.{Coding}
use Rattle.cddl_literal.specs.declared.Coding.TheVariants.{Hex, Base64}
use Rattle.cddl_literal.proofs.EscapeFacts.{escape_backslash, escape_past}
use Rattle.cddl_literal.proofs.UintFacts.{signed_one}
use Rattle.cddl_literal.proofs.StringFacts.{characters_le, characters_none, after_plain, after_escape, after_line, moves, IsStuck, stuck_ends, quote_other}
use Rattle.cddl_literal.proofs.PrefixedFacts as coded

-- the value of characters
pub characters_one : {q : Quote} {s : List ℕ} {i j : ℕ} {v w : List ℕ} → Characters q s i j v → Characters q s i j w → w ≡ v
characters_one (none e f) k = characters_none k e ∙ sym f
characters_one {s = s} {i = i} (plain b r e) k =
    let le = characters_le r in
    let m = moves (slice_index s i ∷ []) (omega arith) (after_plain b k) in
    m.2 ∙ ap (λ l. slice_index s i ∷ l) (characters_one r m.1) ∙ sym e
characters_one (escape {c = c} x r e) k =
    let le = characters_le r in
    let past = escape_past x in
    let m = moves (encode_utf8 c) (omega arith) (after_escape x k) in
    m.2 ∙ ap (λ l. encode_utf8 c ++ l) (characters_one r m.1) ∙ sym e
characters_one (line o c f r e) k =
    let le = characters_le r in
    let m = moves (10 ∷ []) (omega arith) (after_line (c, f) k) in
    m.2 ∙ ap (λ l. 10 ∷ l) (characters_one r m.1) ∙ sym e

quote_no_escape : (q : Quote) (b : ℕ) → b ≡ quote_byte q → b ≢ 92
quote_no_escape Double b e f = omega arith
quote_no_escape Single b e f = omega arith

quote_no_line : (q : Quote) (b : ℕ) → b ≡ quote_byte q → b ≢ 13
quote_no_line Double b e f = omega arith
quote_no_line Single b e f = omega arith

quote_stuck : (q : Quote) (s : List ℕ) (i : ℕ) → slice_index s i ≡ quote_byte q → IsStuck q s i
quote_stuck q s i e = record {
  plain = ap (is_plain q) e ∙ quote_other q;
  escape = λ k c x. quote_no_escape q (slice_index s i) e (escape_backslash x);
  line = λ o h. quote_no_line q (slice_index s i) e h.0;
}

-- no characters go past what closes the string
pub characters_stop : {q : Quote} {s : List ℕ} {i e p : ℕ} {v w : List ℕ} → Characters q s i e v → slice_index s e ≡ quote_byte q → Characters q s i p w → p ≤ e
characters_stop {q} {s} {i} {e} (none same f) closes k =
    let here : slice_index s i ≡ quote_byte q = ap (λ n. slice_index s n) same ∙ closes in
    let end = stuck_ends (quote_stuck q s i here) k in
    omega (arith, end.0)
characters_stop {q} {s} {i} {e} {p} (plain b r f) closes k =
    let le = characters_le r in
    ⊎_elim (λ h. omega (arith, h.0)) (λ h. characters_stop r closes h.1) (after_plain b k)
characters_stop {q} {s} {i} {e} {p} (escape x r f) closes k =
    let le = characters_le r in
    let past = escape_past x in
    ⊎_elim (λ h. omega (arith, h.0)) (λ h. characters_stop r closes h.1) (after_escape x k)
characters_stop {q} {s} {i} {e} {p} (line o c g r f) closes k =
    let le = characters_le r in
    ⊎_elim (λ h. omega (arith, h.0)) (λ h. characters_stop r closes h.1) (after_line (c, g) k)

pub quoted_one : {q : Quote} {s : List ℕ} {a b c : ℕ} {v w : List ℕ} → IsQuoted q s a b v → IsQuoted q s a c w → (c ≡ b) × (w ≡ v)
quoted_one {q} {s} {a} {w = w} h k =
    let upper = characters_stop h.holds h.closes k.holds in
    let lower = characters_stop k.holds k.closes h.holds in
    let same : k.end ≡ h.end = omega arith in
    (omega (arith, h.ends, k.ends), characters_one h.holds (subst (λ e. Characters q s (a + 1) e w) same k.holds))

-- a string closes where its characters stop
pub quoted_stops : {q : Quote} {s : List ℕ} {a b p : ℕ} {v : List ℕ} → IsQuoted q s a b v → IsFurthest (HoldsCharacters q s (a + 1)) p → (b ≡ p + 1) × (slice_index s p ≡ quote_byte q)
quoted_stops {q} {s} {p = p} h k =
    let upper = characters_stop h.holds h.closes k.reached.1 in
    let lower = k.furthest h.end (_, h.holds) in
    let same : h.end ≡ p = omega arith in
    (omega (arith, h.ends), ap (λ n. slice_index s n) (sym same) ∙ h.closes)

-- the same of strings with prefix
other_no_comment : (b : ℕ) → is_other b ≡ true → b ≢ 59
other_no_comment b h = grind (arith, nat_tests)

other_no_blank : (b : ℕ) → is_other b ≡ true → is_blank b ≡ false
other_no_blank b h = grind (arith, nat_tests)

pub coded_one : {s : List ℕ} {i j : ℕ} {d e : List ℕ} → Coded s i j d → Coded s i j e → e ≡ d
coded_one (coded_end same f) k = coded.coded_none k same ∙ sym f
coded_one (blank b r) k = let le = coded.coded_le r in coded_one r (coded.moves (omega arith) (coded.after_blank b k))
coded_one (coded_line c r) k = let le = coded.coded_le r in coded_one r (coded.moves (omega arith) (coded.after_line c k))
coded_one {s} (comment {k = m} t ends r) k =
    let le = coded.coded_le r in
    let past = t.past in
    coded_one r (coded.moves_comment (omega arith) (coded.after_comment t (coded.ends_other s m ends) k))
coded_one {s} {i} (other w b n r f) k =
    let le = coded.coded_le r in
    let m = coded.moves_other (omega arith) (coded.after_other (other_no_comment (slice_index s i) b) (other_no_blank (slice_index s i) b) n k) in
    m.2 ∙ ap (λ l. slice_index s i ∷ l) (coded_one r m.1) ∙ sym f

pub coded_stop : {s : List ℕ} {i e p : ℕ} {d : List ℕ} → Coded s i e d → slice_index s e ≡ 39 → HoldsCoded s i p → p ≤ e
coded_stop {s} {i} {e} {p} (coded_end same f) closes h =
    let here : slice_index s i ≡ 39 = ap (λ n. slice_index s n) same ∙ closes in
    let le : p ≤ i = coded.left_stop (inl here) (inr h) in
    omega arith
coded_stop (blank b r) closes h = let le = coded.coded_le r in ⊎_elim (λ p. omega arith) (λ k. coded_stop r closes k) (coded.left_blank b (inr h))
coded_stop (coded_line c r) closes h = let le = coded.coded_le r in ⊎_elim (λ p. omega arith) (λ k. coded_stop r closes k) (coded.left_line c (inr h))
coded_stop {s} (comment {k = m} t ends r) closes h = let le = coded.coded_le r in ⊎_elim (λ p. omega arith) (λ k. coded_stop r closes k.1) (coded.left_comment t (coded.ends_other s m ends) (inr h))
coded_stop {s} {i} (other w b n r f) closes h = let le = coded.coded_le r in ⊎_elim (λ p. omega arith) (λ k. coded_stop r closes k) (coded.left_other (other_no_comment (slice_index s i) b) (other_no_blank (slice_index s i) b) n (inr h))

letter_h_b : (b : ℕ) → is_h b ≡ true → is_b b ≡ true → ⊥
letter_h_b b h k = grind (arith, nat_tests)

quote_no_letter : (b : ℕ) → b ≡ 39 → (is_h b ≡ true) ⊎ (is_b b ≡ true) → ⊥
quote_no_letter b e (inl h) = grind (arith, nat_tests)
quote_no_letter b e (inr h) = grind (arith, nat_tests)

pub opens_letter : (coding : Coding) (s : List ℕ) (a e : ℕ) → Opens coding s a e → (is_h (slice_index s a) ≡ true) ⊎ (is_b (slice_index s a) ≡ true)
opens_letter Hex s a e h = inl h.0
opens_letter Base64 s a e h = inr h.0

opens_one : (c d : Coding) (s : List ℕ) (a e f : ℕ) → Opens c s a e → Opens d s a f → (d ≡ c) × (f ≡ e)
opens_one Hex Hex s a e f h k = (refl, omega (arith, h.2, k.2))
opens_one Base64 Base64 s a e f h k = (refl, omega (arith, h.4, k.4))
opens_one Hex Base64 s a e f h k = absurd (letter_h_b (slice_index s a) h.0 k.0)
opens_one Base64 Hex s a e f h k = absurd (letter_h_b (slice_index s a) k.0 h.0)

pub prefixed_one : (c d : Coding) (s : List ℕ) (a b e : ℕ) (v w : List ℕ) → IsPrefixed c s a b v → IsPrefixed d s a e w → (d ≡ c) × (e ≡ b) × (w ≡ v)
prefixed_one c d s a b e v w h k =
    let opens = opens_one c d s a h.start k.start h.opens k.opens in
    let second : Coded s h.start k.end w = subst (λ n. Coded s n k.end w) opens.1 k.holds in
    let upper = coded_stop h.holds h.closes (k.end, w, second, inl refl) in
    let first : Coded s k.start h.end v = subst (λ n. Coded s n h.end v) (sym opens.1) h.holds in
    let lower = coded_stop k.holds k.closes (h.end, v, first, inl refl) in
    let same : k.end ≡ h.end = omega arith in
    (opens.0, omega (arith, h.ends, k.ends), coded_one h.holds (subst (λ n. Coded s h.start n w) same second))

-- a string with prefix closes where what it may hold stops
pub prefixed_stops : (c : Coding) (s : List ℕ) (a b e p : ℕ) (d : List ℕ) → IsPrefixed c s a b d → Opens c s a e → IsFurthest (HoldsCoded s e) p → (b ≡ p + 1) × (slice_index s p ≡ 39)
prefixed_stops c s a b e p d h opens k =
    let start : h.start ≡ e = (opens_one c c s a e h.start opens h.opens).1 in
    let held : Coded s e h.end d = subst (λ n. Coded s n h.end d) start h.holds in
    let upper = coded_stop held h.closes k.reached in
    let lower = k.furthest h.end (h.end, d, held, inl refl) in
    let same : h.end ≡ p = omega arith in
    (omega (arith, h.ends), ap (λ n. slice_index s n) (sym same) ∙ h.closes)

some_one : {A : Type 0} {x y : A} → Some x ≡ Some y → y ≡ x
some_one e = cc

coded_bytes_one : (c d : Coding) (u v : List ℕ) → d ≡ c → v ≡ u → coded_bytes d v ≡ coded_bytes c u
coded_bytes_one c d u v same e = ap (λ k. coded_bytes k v) same ∙ ap (coded_bytes c) e

pub bytes_one : (s : List ℕ) (a b e : ℕ) (v w : List ℕ) → IsBytes s a b v → IsBytes s a e w → (e ≡ b) × (w ≡ v)
bytes_one s a b e v w (inl h) (inl k) = quoted_one h k
bytes_one s a b e v w (inl h) (inr (c, d, p, f)) = absurd (quote_no_letter (slice_index s a) h.opens (opens_letter c s a p.start p.opens))
bytes_one s a b e v w (inr (c, d, p, f)) (inl k) = absurd (quote_no_letter (slice_index s a) k.opens (opens_letter c s a p.start p.opens))
bytes_one s a b e v w (inr (c, d, p, f)) (inr (c2, d2, p2, f2)) =
    let one = prefixed_one c c2 s a b e d d2 p p2 in
    (one.1, some_one (sym f ∙ sym (coded_bytes_one c c2 d d2 one.0 one.2) ∙ f2))

pub bytes_not_bad : (s : List ℕ) (a b e : ℕ) (v : List ℕ) → IsBytes s a b v → IsBadBytes s a e → ⊥
bytes_not_bad s a b e v (inl h) (c, d, p, f) = quote_no_letter (slice_index s a) h.opens (opens_letter c s a p.start p.opens)
bytes_not_bad s a b e v (inr (c, d, p, f)) (c2, d2, p2, f2) =
    let one = prefixed_one c c2 s a b e d d2 p p2 in
    some_none (sym f ∙ sym (coded_bytes_one c c2 d d2 one.0 one.2) ∙ f2)

pub bad_one : (s : List ℕ) (a b e : ℕ) → IsBadBytes s a b → IsBadBytes s a e → e ≡ b
bad_one s a b e (c, d, p, f) (c2, d2, p2, f2) = (prefixed_one c c2 s a b e d d2 p p2).1

signed_same : (p q : Bool) (m n : ℕ) → q ≡ p → n ≡ m → signed q n ≡ signed p m
signed_same p q m n e f = ap (λ k. signed k n) e ∙ ap (signed p) f

pub number_one : (s : List ℕ) (a b : ℕ) (m n : Meaning) → IsNumber s a b m → IsNumber s a b n → n ≡ m
number_one s a b m n (p, x, h, e) (q, y, k, f) =
    let one = signed_one s a b x y p q h k in
    some_one (sym e ∙ sym (signed_same p q x y one.0 one.1) ∙ f)

pub number_not_large : (s : List ℕ) (a b : ℕ) (m : Meaning) → IsNumber s a b m → IsTooLarge s a b → ⊥
number_not_large s a b m (p, x, h, e) (q, y, k, f) =
    let one = signed_one s a b x y p q h k in
    some_none (sym e ∙ sym (signed_same p q x y one.0 one.1) ∙ f)
