-- What characters are from an offset on.
use Rattle.std.proofs.Common.{suc, zero, ⊎_elim, ◌<◌, ◌≡◌, ℕ, ◌+◌, ◌≤◌, ◌⊎◌, inl, inr, true, false, List, [], ◌∷◌, ◌++◌, length, slice_index, sym, refl, ap, subst, ◌∙◌, arith}
use Rattle.std.proofs.lemmas.Bool.{false≢true, cases_lt}
use Rattle.std.proofs.lemmas.List.{get_or_past}
use Rattle.std.proofs.lemmas.Bool.Decides.{nat_tests}
use Rattle.std.specs.Prelude.{slice_range}
use Rattle.std.specs.Char.{encode_utf8}
use Rattle.cddl_literal.specs.Bytes.{Each}
use Rattle.cddl_literal.specs.Escapes.{Escape}
use Rattle.cddl_literal.specs.Strings.{quote_byte, is_plain, Characters, none, plain, escape, line, HoldsCharacters}
use Rattle.cddl_literal.specs.Prefixed.{IsCrLf}
use Rattle.cddl_literal.specs.declared.Quote.{Quote}
use Rattle.cddl_literal.specs.declared.Quote.TheVariants.{Double, Single}
use Rattle.cddl_literal.proofs.RangeFacts.{range_none, range_more}
use Rattle.cddl_literal.proofs.EscapeFacts.{escape_backslash, escape_past, escape_one}

plain_other : (q : Quote) (b c : ℕ) → b ≡ c → is_plain q c ≡ false → is_plain q b ≡ true → ⊥
plain_other q b c e other here = false≢true (sym other ∙ ap (is_plain q) (sym e) ∙ here)

plain_92 : (q : Quote) → is_plain q 92 ≡ false
plain_92 Double = refl
plain_92 Single = refl

plain_13 : (q : Quote) → is_plain q 13 ≡ false
plain_13 Double = refl
plain_13 Single = refl

pub quote_other : (q : Quote) → is_plain q (quote_byte q) ≡ false
quote_other Double = refl
quote_other Single = refl

-- nothing more, or `front` and what is from k on
abbrev pub Goes : Quote → List ℕ → ℕ → ℕ → ℕ → List ℕ → List ℕ → Type 0
Goes q s i k p front v = ((p ≡ i) × (v ≡ [])) ⊎ ((w : List ℕ) × Characters q s k p w × (v ≡ front ++ w))

pub after_plain : {q : Quote} {s : List ℕ} {i p : ℕ} {v : List ℕ} → is_plain q (slice_index s i) ≡ true → Characters q s i p v → Goes q s i (i + 1) p (slice_index s i ∷ []) v
after_plain here (none e f) = inl (sym e, f)
after_plain here (plain {w = w} b r e) = inr (w, r, e)
after_plain {q} {s} {i} here (escape x r e) = absurd (plain_other q (slice_index s i) 92 (escape_backslash x) (plain_92 q) here)
after_plain {q} {s} {i} here (line o c f r e) = absurd (plain_other q (slice_index s i) 13 c (plain_13 q) here)

pub after_escape : {q : Quote} {s : List ℕ} {i k c p : ℕ} {v : List ℕ} → Escape q s i k c → Characters q s i p v → Goes q s i k p (encode_utf8 c) v
after_escape x (none e f) = inl (sym e, f)
after_escape {q} {s} {i} x (plain b r e) = absurd (plain_other q (slice_index s i) 92 (escape_backslash x) (plain_92 q) b)
after_escape {q} {s} {i} {k} {c} {p} {v} x (escape {k = m} {c = d} {w = w} y r e) =
    let one = escape_one x y in
    inr (w, subst (λ n. Characters q s n p w) one.0 r, e ∙ ap (λ n. encode_utf8 n ++ w) one.1)
after_escape x (line o c f r e) = absurd (let b = escape_backslash x in omega arith)

pub after_line : {q : Quote} {s : List ℕ} {i p : ℕ} {v : List ℕ} → IsCrLf s i → Characters q s i p v → Goes q s i (i + 2) p (10 ∷ []) v
after_line here (none e f) = inl (sym e, f)
after_line {q} {s} {i} here (plain b r e) = absurd (plain_other q (slice_index s i) 13 here.0 (plain_13 q) b)
after_line here (escape x r e) = absurd (let b = escape_backslash x in omega (arith, here.0))
after_line here (line {w = w} o c f r e) = inr (w, r, e)

-- where no character is
pub record IsStuck (q : Quote) (s : List ℕ) (i : ℕ) : Type 0 where
  pub plain : is_plain q (slice_index s i) ≡ false
  pub escape : (k c : ℕ) → Escape q s i k c → ⊥
  pub line : q ≡ Single → IsCrLf s i → ⊥

pub stuck_ends : {q : Quote} {s : List ℕ} {i p : ℕ} {v : List ℕ} → IsStuck q s i → Characters q s i p v → (p ≡ i) × (v ≡ [])
stuck_ends stuck (none e f) = (sym e, f)
stuck_ends stuck (plain b r e) = absurd (false≢true (sym stuck.plain ∙ b))
stuck_ends stuck (escape x r e) = absurd (stuck.escape _ _ x)
stuck_ends stuck (line o c f r e) = absurd (stuck.line o (c, f))

goes_on : {q : Quote} {s : List ℕ} {i k p : ℕ} (front : List ℕ) {v : List ℕ} → i ≤ k → Goes q s i k p front v → (p ≤ k) ⊎ HoldsCharacters q s k p
goes_on front le (inl h) = inl (omega (arith, h.0))
goes_on front le (inr h) = inr (h.0, h.1)

-- one step of the search for the furthest offset
pub left_plain : {q : Quote} {s : List ℕ} {i p : ℕ} → is_plain q (slice_index s i) ≡ true → (p ≤ i) ⊎ HoldsCharacters q s i p → (p ≤ i + 1) ⊎ HoldsCharacters q s (i + 1) p
left_plain here (inl le) = inl (omega arith)
left_plain {s = s} {i = i} here (inr h) = goes_on (slice_index s i ∷ []) (omega arith) (after_plain here h.1)

pub left_escape : {q : Quote} {s : List ℕ} {i k c p : ℕ} → Escape q s i k c → (p ≤ i) ⊎ HoldsCharacters q s i p → (p ≤ k) ⊎ HoldsCharacters q s k p
left_escape x (inl le) = inl (let past = escape_past x in omega arith)
left_escape {c = c} x (inr h) = goes_on (encode_utf8 c) (let past = escape_past x in omega arith) (after_escape x h.1)

pub left_line : {q : Quote} {s : List ℕ} {i p : ℕ} → IsCrLf s i → (p ≤ i) ⊎ HoldsCharacters q s i p → (p ≤ i + 2) ⊎ HoldsCharacters q s (i + 2) p
left_line here (inl le) = inl (omega arith)
left_line here (inr h) = goes_on (10 ∷ []) (omega arith) (after_line here h.1)

pub left_stuck : {q : Quote} {s : List ℕ} {i p : ℕ} → IsStuck q s i → (p ≤ i) ⊎ HoldsCharacters q s i p → p ≤ i
left_stuck stuck (inl le) = le
left_stuck stuck (inr h) = let e = stuck_ends stuck h.1 in omega (arith, e.0)

plain_0 : (q : Quote) → is_plain q 0 ≡ false
plain_0 Double = refl
plain_0 Single = refl

pub end_stuck : (q : Quote) (s : List ℕ) (i : ℕ) → length s ≤ i → IsStuck q s i
end_stuck q s i past =
    let zero = get_or_past s i 0 past in
    record {
      plain = ap (is_plain q) zero ∙ plain_0 q;
      escape = λ k c x. absurd (let b = escape_backslash x in omega arith);
      line = λ o h. absurd (omega (arith, h.0));
    }

pub characters_le : {q : Quote} {s : List ℕ} {i j : ℕ} {v : List ℕ} → Characters q s i j v → i ≤ j
characters_le (none e f) = omega arith
characters_le (plain b r e) = let le = characters_le r in omega arith
characters_le (escape x r e) = let le = characters_le r in let past = escape_past x in omega arith
characters_le (line o c f r e) = let le = characters_le r in omega arith

pub characters_none : {q : Quote} {s : List ℕ} {i j : ℕ} {v : List ℕ} → Characters q s i j v → i ≡ j → v ≡ []
characters_none (none e f) same = f
characters_none (plain b r e) same = absurd (let le = characters_le r in omega arith)
characters_none (escape x r e) same = absurd (let le = characters_le r in let past = escape_past x in omega arith)
characters_none (line o c f r e) same = absurd (let le = characters_le r in omega arith)

-- what is before the end goes on
pub moves : {q : Quote} {s : List ℕ} {i k j : ℕ} (front : List ℕ) {v : List ℕ} → i < j → Goes q s i k j front v → (w : List ℕ) × Characters q s k j w × (v ≡ front ++ w)
moves front lt (inl h) = absurd (omega (arith, h.0))
moves front lt (inr h) = h

-- a character that is no escape and no line stands for itself
pub is_plain_here : {q : Quote} {s : List ℕ} {i j : ℕ} {v : List ℕ} → i < j → ((k c : ℕ) → Escape q s i k c → ⊥) → (q ≡ Single → IsCrLf s i → ⊥) → Characters q s i j v → is_plain q (slice_index s i) ≡ true
is_plain_here lt no_escape no_line (none e f) = absurd (omega arith)
is_plain_here lt no_escape no_line (plain b r e) = b
is_plain_here lt no_escape no_line (escape x r e) = absurd (no_escape _ _ x)
is_plain_here lt no_escape no_line (line o c f r e) = absurd (no_line o (c, f))

-- bytes that stand for themselves, n of them
pub after_run : (n : ℕ) (q : Quote) (s : List ℕ) (i e j : ℕ) (v : List ℕ) → i + n ≡ e → e ≤ j → e ≤ length s → Each (is_plain q) s i e → Characters q s i j v → (w : List ℕ) × Characters q s e j w × (v ≡ slice_range s i e ++ w)
after_run zero q s i e j v sum le in_source all r =
    let same : i ≡ e = omega arith in
    (v, subst (λ k. Characters q s k j v) same r, sym (ap (λ k. slice_range s k e ++ v) same ∙ ap (λ l. l ++ v) (range_none s e)))
after_run (suc n) q s i e j v sum le in_source all r =
    let next = moves (slice_index s i ∷ []) (omega arith) (after_plain (all i (omega arith) (omega arith)) r) in
    let rest = after_run n q s (i + 1) e j next.0 (omega arith) le in_source (λ k low high. all k (omega arith) high) next.1 in
    (rest.0, rest.1, next.2 ∙ ap (λ l. slice_index s i ∷ l) rest.2 ∙ sym (ap (λ l. l ++ rest.0) (range_more s i e (omega arith) (omega arith))))

-- bytes that stand for themselves end before what closes the string
pub run_within : (q : Quote) (s : List ℕ) (i e j : ℕ) → Each (is_plain q) s i e → i ≤ j → slice_index s j ≡ quote_byte q → e ≤ j
run_within q s i e j all le closes = ⊎_elim (λ lt. absurd (false≢true (sym (ap (is_plain q) closes ∙ quote_other q) ∙ all j le lt))) (λ ge. ge) (cases_lt j e)

plain_above : (q : Quote) (b : ℕ) → 128 ≤ b → is_plain q b ≡ true
plain_above Double b h = grind (arith, nat_tests)
plain_above Single b h = grind (arith, nat_tests)

-- what does not stand for itself is ASCII
pub other_ascii : (q : Quote) (b : ℕ) → is_plain q b ≡ false → b < 128
other_ascii q b h = ⊎_elim (λ lt. lt) (λ ge. absurd (false≢true (sym h ∙ plain_above q b ge))) (cases_lt b 128)

pub quote_ascii : (q : Quote) (b : ℕ) → b ≡ quote_byte q → b < 128
quote_ascii q b e = other_ascii q b (ap (is_plain q) e ∙ quote_other q)

-- a run that begins with such a byte is not empty
pub run_moves : (q : Quote) (s : List ℕ) (i e : ℕ) → i ≤ e → is_plain q (slice_index s i) ≡ true → is_plain q (slice_index s e) ≡ false → i < e
run_moves q s i e le here stops = ⊎_elim (λ lt. lt) (λ ge. let same : i ≡ e = omega arith in absurd (false≢true (sym stops ∙ ap (λ k. is_plain q (slice_index s k)) (sym same) ∙ here))) (cases_lt i e)
