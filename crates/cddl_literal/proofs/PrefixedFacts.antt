-- What is in a byte string with prefix from an offset on.
use Rattle.std.proofs.Common.{◌≡◌, ◌≢◌, ℕ, ◌+◌, ◌<◌, ◌≤◌, ◌⊎◌, inl, inr, true, false, List, [], ◌∷◌, length, slice_index, sym, ap, subst, ◌∙◌, ⊎_elim, arith}
use Rattle.std.proofs.lemmas.Bool.{false≢true, cases_lt}
use Rattle.std.proofs.lemmas.Bool.Decides.{nat_tests}
use Rattle.std.proofs.lemmas.List.{get_or_past}
use Rattle.cddl_literal.specs.Bytes.{is_blank}
use Rattle.cddl_literal.specs.Prefixed.{Coded, none, blank, line, comment, other, IsCrLf, IsCommentTo, EndsComment, is_in_inner_comment, is_other, HoldsCoded}
use Rattle.cddl_literal.proofs.EscapeFacts.{run_one}

pub coded_le : {s : List ℕ} {i j : ℕ} {d : List ℕ} → Coded s i j d → i ≤ j
coded_le (none e f) = omega arith
coded_le (blank b r) = let le = coded_le r in omega arith
coded_le (line c r) = let le = coded_le r in omega arith
coded_le (comment m e r) = let le = coded_le r in let past = m.past in omega arith
coded_le (other w b n r e) = let le = coded_le r in omega arith

pub coded_none : {s : List ℕ} {i j : ℕ} {d : List ℕ} → Coded s i j d → i ≡ j → d ≡ []
coded_none (none e f) same = f
coded_none (blank b r) same = absurd (let le = coded_le r in omega arith)
coded_none (line c r) same = absurd (let le = coded_le r in omega arith)
coded_none (comment m e r) same = absurd (let le = coded_le r in let past = m.past in omega arith)
coded_none (other w b n r e) same = absurd (let le = coded_le r in omega arith)

-- classes of bytes that have nothing in common
blank_59 : (b : ℕ) → is_blank b ≡ true → b ≢ 59
blank_59 b h = grind (arith, nat_tests)

blank_13 : (b : ℕ) → is_blank b ≡ true → b ≢ 13
blank_13 b h = grind (arith, nat_tests)

other_59 : (b : ℕ) → is_other b ≡ true → b ≢ 59
other_59 b h = grind (arith, nat_tests)

pub other_stop : (b : ℕ) → is_other b ≡ true → (b ≡ 39) ⊎ (b ≡ 92) → ⊥
other_stop b h (inl e) = grind (arith, nat_tests)
other_stop b h (inr e) = grind (arith, nat_tests)

blank_stop : (b : ℕ) → is_blank b ≡ true → (b ≡ 39) ⊎ (b ≡ 92) → ⊥
blank_stop b h (inl e) = grind (arith, nat_tests)
blank_stop b h (inr e) = grind (arith, nat_tests)

other_blank : (b : ℕ) → is_other b ≡ true → is_blank b ≡ true → ⊥
other_blank b h k = grind (arith, nat_tests)

-- what ends a comment is not in it
pub ends_other : (s : List ℕ) (k : ℕ) → EndsComment s k → is_in_inner_comment (slice_index s k) ≡ false
ends_other s k (inl (inl e)) = ap is_in_inner_comment e
ends_other s k (inl (inr e)) = ap is_in_inner_comment e.0
ends_other s k (inr e) = ap is_in_inner_comment e

comment_one : {s : List ℕ} {i k m : ℕ} → IsCommentTo s i k → is_in_inner_comment (slice_index s k) ≡ false → IsCommentTo s i m → is_in_inner_comment (slice_index s m) ≡ false → k ≡ m
comment_one {s} {i} {k} {m} first stop second halt = run_one is_in_inner_comment s (i + 1) k m first.holds (let past = first.past in omega arith) stop second.holds (let past = second.past in omega arith) halt

-- Nothing more from i on, or d from k on.
abbrev pub Goes : List ℕ → ℕ → ℕ → ℕ → List ℕ → Type 0
Goes s i k j d = ((j ≡ i) × (d ≡ [])) ⊎ Coded s k j d

pub after_blank : {s : List ℕ} {i j : ℕ} {d : List ℕ} → is_blank (slice_index s i) ≡ true → Coded s i j d → Goes s i (i + 1) j d
after_blank here (none e f) = inl (sym e, f)
after_blank here (blank b r) = inr r
after_blank {s} {i} here (line c r) = absurd (blank_13 (slice_index s i) here c.0)
after_blank {s} {i} here (comment m e r) = absurd (blank_59 (slice_index s i) here m.begins)
after_blank {s} {i} here (other w b n r e) = absurd (other_blank (slice_index s i) b here)

pub after_line : {s : List ℕ} {i j : ℕ} {d : List ℕ} → IsCrLf s i → Coded s i j d → Goes s i (i + 2) j d
after_line here (none e f) = inl (sym e, f)
after_line {s} {i} here (blank b r) = absurd (blank_13 (slice_index s i) b here.0)
after_line here (line c r) = inr r
after_line here (comment m e r) = absurd (let b = m.begins in omega (arith, here.0))
after_line here (other w b n r e) = absurd (n here)

pub after_comment : {s : List ℕ} {i k j : ℕ} {d : List ℕ} → IsCommentTo s i k → is_in_inner_comment (slice_index s k) ≡ false → Coded s i j d → ((j ≡ i) × (d ≡ [])) ⊎ (EndsComment s k × Coded s k j d)
after_comment here stop (none e f) = inl (sym e, f)
after_comment {s} {i} here stop (blank b r) = absurd (blank_59 (slice_index s i) b here.begins)
after_comment here stop (line c r) = absurd (let b = here.begins in omega (arith, c.0))
after_comment {s} {i} {k} {j} {d} here stop (comment {k = n} m e r) =
    let same : n ≡ k = comment_one m (ends_other s n e) here stop in
    inr (subst (EndsComment s) same e, subst (λ p. Coded s p j d) same r)
after_comment {s} {i} here stop (other w b n r e) = absurd (other_59 (slice_index s i) b here.begins)

pub after_other : {s : List ℕ} {i j : ℕ} {d : List ℕ} → slice_index s i ≢ 59 → is_blank (slice_index s i) ≡ false → (IsCrLf s i → ⊥) → Coded s i j d → ((j ≡ i) × (d ≡ [])) ⊎ ((c : List ℕ) × Coded s (i + 1) j c × (d ≡ slice_index s i ∷ c))
after_other here stop cr (none e f) = inl (sym e, f)
after_other here stop cr (blank b r) = absurd (false≢true (sym stop ∙ b))
after_other here stop cr (line c r) = absurd (cr c)
after_other here stop cr (comment m e r) = absurd (here m.begins)
after_other here stop cr (other {c = c} w b n r e) = inr (c, r, e)

pub after_stop : {s : List ℕ} {i j : ℕ} {d : List ℕ} → (slice_index s i ≡ 39) ⊎ (slice_index s i ≡ 92) → Coded s i j d → (j ≡ i) × (d ≡ [])
after_stop here (none e f) = (sym e, f)
after_stop {s} {i} here (blank b r) = absurd (blank_stop (slice_index s i) b here)
after_stop here (line c r) = absurd (⊎_elim (λ e. omega (arith, c.0)) (λ e. omega (arith, c.0)) here)
after_stop here (comment m e r) = absurd (let b = m.begins in ⊎_elim (λ f. omega arith) (λ f. omega arith) here)
after_stop {s} {i} here (other w b n r e) = absurd (other_stop (slice_index s i) b here)

pub after_end : {s : List ℕ} {i j : ℕ} {d : List ℕ} → length s ≤ i → Coded s i j d → (j ≡ i) × (d ≡ [])
after_end here (none e f) = (sym e, f)
after_end {s} {i} here (blank b r) = absurd (let zero = get_or_past s i 0 here in false≢true (ap is_blank (sym zero) ∙ b))
after_end {s} {i} here (line c r) = absurd (let zero = get_or_past s i 0 here in omega (arith, c.0))
after_end {s} {i} here (comment m e r) = absurd (let zero = get_or_past s i 0 here in let b = m.begins in omega arith)
after_end here (other w b n r e) = absurd (omega arith)

-- one step of the search for the furthest offset: nothing but a comment goes past i
here_ends : {s : List ℕ} {i k q : ℕ} → slice_index s i ≢ 59 → k ≡ i → (k ≡ q) ⊎ IsCommentTo s k q → q ≤ i
here_ends apart e (inl f) = omega arith
here_ends {s} {i} {k} apart e (inr m) = absurd (apart (ap (λ n. slice_index s n) (sym e) ∙ m.begins))

goes_on : {s : List ℕ} {i m k q : ℕ} {d : List ℕ} → i ≤ m → slice_index s i ≢ 59 → Goes s i m k d → (k ≡ q) ⊎ IsCommentTo s k q → (q ≤ m) ⊎ HoldsCoded s m q
goes_on le here (inl h) t = inl (let e = here_ends here h.0 t in omega arith)
goes_on {k = k} {d = d} le here (inr r) t = inr (k, d, r, t)

pub left_blank : {s : List ℕ} {i q : ℕ} → is_blank (slice_index s i) ≡ true → (q ≤ i) ⊎ HoldsCoded s i q → (q ≤ i + 1) ⊎ HoldsCoded s (i + 1) q
left_blank here (inl le) = inl (omega arith)
left_blank {s} {i} here (inr h) = goes_on (omega arith) (blank_59 (slice_index s i) here) (after_blank here h.2) h.3

pub left_line : {s : List ℕ} {i q : ℕ} → IsCrLf s i → (q ≤ i) ⊎ HoldsCoded s i q → (q ≤ i + 2) ⊎ HoldsCoded s (i + 2) q
left_line here (inl le) = inl (omega arith)
left_line here (inr h) = goes_on (omega arith) (λ b. omega (arith, here.0)) (after_line here h.2) h.3

-- a comment goes up to its end
comment_within : {s : List ℕ} {i k q : ℕ} → is_in_inner_comment (slice_index s k) ≡ false → i < k → IsCommentTo s i q → q ≤ k
comment_within {s} {i} {k} {q} stop past m = ⊎_elim (λ lt. absurd (false≢true (sym stop ∙ m.holds k (omega arith) lt))) (λ ge. ge) (cases_lt k q)

here_comment : {s : List ℕ} {i k n q : ℕ} → IsCommentTo s i k → is_in_inner_comment (slice_index s k) ≡ false → n ≡ i → (n ≡ q) ⊎ IsCommentTo s n q → q ≤ k
here_comment here stop e (inl f) = let past = here.past in omega arith
here_comment {s} {i} {k} {n} {q} here stop e (inr m) = comment_within stop here.past (subst (λ p. IsCommentTo s p q) e m)

pub left_comment : {s : List ℕ} {i k q : ℕ} → IsCommentTo s i k → is_in_inner_comment (slice_index s k) ≡ false → (q ≤ i) ⊎ HoldsCoded s i q → (q ≤ k) ⊎ (EndsComment s k × HoldsCoded s k q)
left_comment here stop (inl le) = inl (let past = here.past in omega arith)
left_comment here stop (inr h) = elim (after_comment here stop h.2) [
  | inl e ↦ inl (here_comment here stop e.0 h.3)
  | inr r ↦ inr (r.0, (h.0, h.1, r.1, h.3))
]

pub left_other : {s : List ℕ} {i q : ℕ} → slice_index s i ≢ 59 → is_blank (slice_index s i) ≡ false → (IsCrLf s i → ⊥) → (q ≤ i) ⊎ HoldsCoded s i q → (q ≤ i + 1) ⊎ HoldsCoded s (i + 1) q
left_other here stop cr (inl le) = inl (omega arith)
left_other here stop cr (inr h) = elim (after_other here stop cr h.2) [
  | inl e ↦ inl (let le = here_ends here e.0 h.3 in omega arith)
  | inr r ↦ inr (h.0, r.0, r.1, h.3)
]

pub left_stop : {s : List ℕ} {i q : ℕ} → (slice_index s i ≡ 39) ⊎ (slice_index s i ≡ 92) → (q ≤ i) ⊎ HoldsCoded s i q → q ≤ i
left_stop here (inl le) = le
left_stop {s} {i} here (inr h) = here_ends (λ e. ⊎_elim (λ f. omega arith) (λ f. omega arith) here) (after_stop here h.2).0 h.3

pub left_end : {s : List ℕ} {i q : ℕ} → length s ≤ i → (q ≤ i) ⊎ HoldsCoded s i q → q ≤ i
left_end here (inl le) = le
left_end {s} {i} here (inr h) = here_ends (λ e. let zero = get_or_past s i 0 here in omega arith) (after_end here h.2).0 h.3

-- a byte that is none of those before
pub is_other_from : (b : ℕ) → b ≢ 59 → is_blank b ≡ false → b ≢ 39 → b ≢ 92 → is_other b ≡ true
is_other_from b semicolon stop quote backslash = grind (arith, nat_tests)

-- what is before the end goes on
pub moves : {s : List ℕ} {i k j : ℕ} {d : List ℕ} → i < j → Goes s i k j d → Coded s k j d
moves lt (inl h) = absurd (omega (arith, h.0))
moves lt (inr r) = r

pub moves_comment : {s : List ℕ} {i k j : ℕ} {d : List ℕ} → i < j → ((j ≡ i) × (d ≡ [])) ⊎ (EndsComment s k × Coded s k j d) → Coded s k j d
moves_comment lt (inl h) = absurd (omega (arith, h.0))
moves_comment lt (inr r) = r.1

pub moves_other : {s : List ℕ} {i j : ℕ} {d : List ℕ} → i < j → ((j ≡ i) × (d ≡ [])) ⊎ ((c : List ℕ) × Coded s (i + 1) j c × (d ≡ slice_index s i ∷ c)) → (c : List ℕ) × Coded s (i + 1) j c × (d ≡ slice_index s i ∷ c)
moves_other lt (inl h) = absurd (omega (arith, h.0))
moves_other lt (inr r) = r
