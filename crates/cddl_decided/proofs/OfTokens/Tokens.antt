-- No source has neither tokens nor a fault.
use Rattle.std.proofs.Common.{◌≡◌, ℕ, zero, suc, ◌+◌, ◌<◌, ◌≤◌, ◌⊎◌, inl, inr, Bool, true, false, List, [], ◌∷◌, length, slice_index, refl, sym, ap, subst, ◌∙◌, ⊎_elim, arith}
use Rattle.std.proofs.lemmas.Bool.{cases_lt, false≢true}
use Rattle.std.specs.Prelude.{IsUtf8}
use Rattle.std.specs.Str.Lossy.{utf8_valid_len}
use Rattle.cddl_literal.specs.Bytes.{Each, IsAt, is_blank, is_in_comment}
use Rattle.cddl_literal.specs.Prefixed.{IsCrLf, Opens}
use Rattle.cddl_literal.specs.declared.Coding.{Coding}
use Rattle.cddl_token.specs.Answers.{IsRefused, IsTokenized}
use Rattle.cddl_token.specs.Bytes.{is_id_byte}
use Rattle.cddl_token.specs.Spelling.{Bad, Good, IsId, IsLongest, Reading, Spells, flaw_code}
use Rattle.cddl_token.specs.Strings.{OpensPrefixed, OpensString}
use Rattle.cddl_token.specs.Tokens as T
use Rattle.cddl_token.specs.Tokens.{FaultAt, GapFrom, IsAllowed, IsComment, IsLineEnd, IsToken, Refused, Spanned, StartsNoGap, Tokenized, flawed, in_comment, in_string, token, unknown}
use Rattle.cddl_token.specs.declared.Code.{Code}
use Rattle.cddl_token.specs.declared.Code.TheVariants.{BadCharacter, NotUtf8, SourceTooLong}
use Rattle.cddl_token.specs.declared.Kind.{Kind}
use Rattle.cddl_token.specs.declared.Kind.TheVariants.{Bytes, End, Name}
use Rattle.cddl_decided.proofs.OfTokens.Deciding.{by_cases, by_test, furthest}
use Rattle.cddl_decided.proofs.OfTokens.Ends.{blank_some, comment_some, ends_within, inside, inside_at, spelled}
use Rattle.cddl_decided.proofs.OfTokens.Strings.{HasQuote, prefix_quote, prefixed_read, string_read}

-- Gaps.

gap_le : {s : List ℕ} {i j : ℕ} → GapFrom s i j → i ≤ j
gap_le (T.none e) = omega arith
gap_le (T.blank p r) = let le = gap_le r in omega arith
gap_le (T.line p r) = let le = gap_le r in omega arith
gap_le (T.comment p r) = let le = gap_le r in let past = p.past in omega arith

gap_join : {s : List ℕ} {i a b : ℕ} → GapFrom s i a → GapFrom s a b → GapFrom s i b
gap_join {s} {b = b} (T.none e) g = subst (λ n. GapFrom s n b) (sym e) g
gap_join (T.blank x r) g = T.blank x (gap_join r g)
gap_join (T.line x r) g = T.line x (gap_join r g)
gap_join (T.comment x r) g = T.comment x (gap_join r g)

line_end_within : (s : List ℕ) (k : ℕ) → IsLineEnd s k → k ≤ length s
line_end_within s k h =
    ⊎_elim
    (λ x. ⊎_elim (λ e. omega arith) (λ e. let lt = inside_at s k 10 e (omega arith) in omega arith) x)
    (λ e. let lt = inside_at s k 13 e.0 (omega arith) in omega arith)
    h

-- a gap goes on as far as it may
gap_end : (s : List ℕ) (i : ℕ) → i ≤ length s → ((a : ℕ) → GapFrom s i a → a ≤ length s → StartsNoGap s a → ⊥) → ⊥
gap_end s i le next =
    furthest
    (λ a. GapFrom s i a × (a ≤ length s))
    (length s)
    (λ m h. h.1)
    i
    (T.none refl, le)
    (λ a far.
    let r = far.reached in
    let beyond : (m : ℕ) → GapFrom s a m → m ≤ length s → a < m → ⊥ = λ m g few past. let x = far.furthest m (gap_join r.0 g, few) in omega arith in
    by_test
    (is_blank (slice_index s a))
    (λ holds. let lt = inside s a (blank_some (slice_index s a) holds) in beyond (a + 1) (T.blank holds (T.none refl)) (omega arith) (omega arith))
    (λ fails. next a r.0 r.1 (record {
      blank = fails;
      line = λ l. let lt = inside_at s (a + 1) 10 l.1 (omega arith) in beyond (a + 2) (T.line l (T.none refl)) (omega arith) (omega arith);
      comment = λ k c. beyond k (T.comment c (T.none refl)) (line_end_within s k c.ends) c.past;
    })))

-- Faults of comments.

each_more : (passes : ℕ → Bool) (s : List ℕ) (a i : ℕ) → Each passes s a i → passes (slice_index s i) ≡ true → Each passes s a (i + 1)
each_more passes s a i before here = λ k low high. ⊎_elim (λ l. before k low l) (λ l. let e : k ≡ i = omega arith in ap (λ n. passes (slice_index s n)) e ∙ here) (cases_lt k i)

abbrev IsCommentSoFar : List ℕ → ℕ → ℕ → Type 0
IsCommentSoFar s a p = (a < p) × (p ≤ length s) × Each is_in_comment s (a + 1) p

-- a comment that has no end holds what it may not
comment_fault : (s : List ℕ) (a : ℕ) → IsAt ";" s a → ((k : ℕ) → IsComment s a k → ⊥) → ((place : ℕ) → FaultAt s a BadCharacter place → ⊥) → ⊥
comment_fault s a begins none bad =
    let lt = inside_at s a 59 begins (omega arith) in
    furthest
    (IsCommentSoFar s a)
    (length s)
    (λ m h. h.1)
    (a + 1)
    (omega arith, omega arith, λ i low high. absurd (omega (arith, low, high)))
    (λ p far.
    let r = far.reached in
    by_cases
    (IsLineEnd s p)
    (λ e. none p (record { begins = begins; past = r.0; holds = r.2; ends = e }))
    (λ fails. ⊎_elim
    (λ more. by_test
    (is_in_comment (slice_index s p))
    (λ holds. let x = far.furthest (p + 1) (omega (arith, r.0), omega arith, each_more is_in_comment s (a + 1) p r.2 holds) in omega arith)
    (λ other. bad p (in_comment begins r.0 more r.2 other fails)))
    (λ ge. let few = r.1 in let e : p ≡ length s = omega arith in fails (inl (inl e)))
    (cases_lt p (length s))))

-- Tokens.

-- something can be read from a to m
abbrev IsSpelled : List ℕ → ℕ → ℕ → Type 0
IsSpelled s a m = (r : Reading) × Spells r s a m

module _ (s : List ℕ) (a : ℕ) (bad : (code : Code) (place : ℕ) → FaultAt s a code place → ⊥) where
  -- what is the longest is a token or a flawed number
  read_as : (r : Reading) (m : ℕ) → Spells r s a m → ((q : Reading) (n : ℕ) → Spells q s a n → n ≤ m) → ((kind : Kind) (b : ℕ) → IsLongest (Good kind) s a b → ⊥) → ⊥
  read_as (Good kind) m x most good = good kind m (record { spelled = x; longest = most })
  read_as (Bad f) m x most good = bad (flaw_code f) a (flawed refl refl (record { spelled = x; longest = most }))

  pub longest_of : (r : Reading) (b : ℕ) → Spells r s a b → ((kind : Kind) (m : ℕ) → IsLongest (Good kind) s a m → ⊥) → ⊥
  longest_of r b x good =
      furthest
      (IsSpelled s a)
      (length s)
      (λ m h. ends_within s a m (spelled h.0 s a m h.1))
      b
      (r, x)
      (λ m far. let h = far.reached in read_as h.0 m h.1 (λ q n y. far.furthest n (q, y)) good)

allowed_unless : (kind : Kind) (s : List ℕ) (a : ℕ) → (OpensPrefixed s a → ⊥) → IsAllowed kind s a
allowed_unless Name s a none = none
allowed_unless _ s a none = tt

-- an id has no quote in it
no_quote : (s : List ℕ) (a start b m : ℕ) → HasQuote s a start → start < b → b ≤ m → IsId s a m → ⊥
no_quote s a start b m q past le id = let low = q.after in let before = q.before in false≢true (sym (ap is_id_byte q.quote) ∙ id.holds q.place low (omega arith))

-- where a prefixed string is read, no name is
allowed_by : (kind : Kind) (s : List ℕ) (a start b m : ℕ) → HasQuote s a start → start < b → Spells (Good Bytes) s a b → IsLongest (Good kind) s a m → IsAllowed kind s a
allowed_by Name s a start b m q past x l = λ _. no_quote s a start b m q past (l.longest (Good Bytes) b x) l.spelled
allowed_by _ s a start b m q past x l = tt

-- where the source goes on there is a token or a fault
token_or_fault : (s : List ℕ) (a : ℕ) → StartsNoGap s a → ((code : Code) (place : ℕ) → FaultAt s a code place → ⊥) → ((kind : Kind) (b : ℕ) → IsToken kind s a b → ⊥) → ⊥
token_or_fault s a starts bad good =
    by_cases
    (OpensPrefixed s a)
    (λ o. prefixed_read o.0 s a o.1 o.2 (λ code place x. bad code place (in_string x))
    (λ b past x. longest_of s a bad (Good Bytes) b x (λ kind m l. good kind m (record { longest = l; allowed = allowed_by kind s a o.1 b m (prefix_quote o.0 s a o.1 o.2) past x l }))))
    (λ plain. by_cases
    ((b : ℕ) × IsSpelled s a b)
    (λ x. let r = x.1 in longest_of s a bad r.0 x.0 r.1 (λ kind m l. good kind m (record { longest = l; allowed = allowed_unless kind s a plain })))
    (λ nothing. by_cases
    (OpensString s a)
    (λ o. string_read s a o (λ code place x. bad code place (in_string x)) (λ r b x. nothing (b, (r, x))))
    (λ fails. by_cases
    (IsAt ";" s a)
    (λ semicolon. comment_fault s a semicolon starts.comment (λ place f. bad BadCharacter place f))
    (λ other. bad BadCharacter a (unknown refl starts fails other (λ q m h. nothing (m, (q, h))))))))

-- from an offset on there are tokens, or a fault
tokens_from : (s : List ℕ) (n i : ℕ) → length s ≤ i + n → i ≤ length s → ((ts : List Spanned) → Tokenized s i ts → ⊥) → ((c : Code) (p : ℕ) → Refused s i c p → ⊥) → ⊥
tokens_from s zero i most le good bad =
    gap_end s i le (λ a gap few starts. let low = gap_le gap in let e : a ≡ length s = omega arith in good (token End (length s) (length s) ∷ []) (T.ends (subst (GapFrom s i) e gap) refl))
tokens_from s (suc n) i most le good bad =
    gap_end s i le (λ a gap few starts. ⊎_elim
    (λ lt. token_or_fault s a starts
    (λ code place f. bad code place (T.here gap lt f))
    (λ kind b t.
    let l = t.longest in
    let h = spelled (Good kind) s a b l.spelled in
    let past = h.past in
    let low = gap_le gap in
    tokens_from s n b (omega arith) (ends_within s a b h) (λ ts r. good (token kind a b ∷ ts) (T.more gap t r)) (λ c p r. bad c p (T.later gap t r))))
    (λ ge. let e : a ≡ length s = omega arith in good (token End (length s) (length s) ∷ []) (T.ends (subst (GapFrom s i) e gap) refl))
    (cases_lt a (length s)))

pub some_tokens : (s : List ℕ) → ((ts : List Spanned) → IsTokenized s ts → ⊥) → ((c : Code) (p : ℕ) → IsRefused s c p → ⊥) → ⊥
some_tokens s none unrefused =
    ⊎_elim
    (λ over. unrefused SourceTooLong 1048576 (inl (over, refl, refl)))
    (λ few. by_cases
    (IsUtf8 s)
    (λ is. tokens_from s (length s) 0 (omega arith) (omega arith) (λ ts r. none ts ((few, is), r)) (λ c p r. unrefused c p (inr (inr ((few, is), r)))))
    (λ fails. unrefused NotUtf8 (utf8_valid_len s) (inr (inl (few, fails, refl, refl)))))
    (cases_lt 1048576 (length s))
