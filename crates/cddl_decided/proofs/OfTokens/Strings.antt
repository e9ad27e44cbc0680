-- A string that opens is read, or has a fault.
use Rattle.std.proofs.Common.{◌≡◌, ℕ, ◌+◌, ◌<◌, ◌≤◌, ◌⊎◌, inl, inr, List, [], ◌∷◌, length, slice_index, Option, Some, None, refl, sym, subst, ⊎_elim, arith}
use Rattle.std.proofs.lemmas.Bool.{cases_lt}
use Rattle.cddl_literal.specs.Bytes.{IsAt}
use Rattle.cddl_literal.specs.Literals.{IsBadBytes}
use Rattle.cddl_literal.specs.Prefixed as P
use Rattle.cddl_literal.specs.Prefixed.{Coded, EndsComment, HoldsCoded, IsCommentTo, IsPrefixed, Opens, coded_bytes}
use Rattle.cddl_literal.specs.Strings as C
use Rattle.cddl_literal.specs.Strings.{HoldsCharacters, IsFurthest, IsQuoted, quote_byte}
use Rattle.cddl_literal.specs.declared.Coding.{Coding}
use Rattle.cddl_literal.specs.declared.Coding.TheVariants.{Hex, Base64}
use Rattle.cddl_literal.specs.declared.Quote.{Quote}
use Rattle.cddl_literal.specs.declared.Quote.TheVariants.{Double, Single}
use Rattle.cddl_token.specs.Spelling.{Good, Reading, Spells}
use Rattle.cddl_token.specs.Strings.{OpensString, StopsAt, StringFault, bad_bytes, bad_character, bad_escape, prefixed, quoted, unclosed}
use Rattle.cddl_token.specs.declared.Code.{Code}
use Rattle.cddl_token.specs.declared.Code.TheVariants.{BadBytes, BadCharacter, BadEscape, Unclosed}
use Rattle.cddl_token.specs.declared.Kind.TheVariants.{Bytes, Text}
use Rattle.cddl_decided.proofs.OfTokens.Deciding.{by_cases, furthest}
use Rattle.cddl_decided.proofs.OfTokens.Ends.{characters_within, coded_le, held_within, inside_at, opens_past, quote_inside}

-- A string that does not close at p stops there for some reason.
stops : (s : List ℕ) (a p : ℕ) → ((code : Code) (place : ℕ) → StopsAt s a p code place → ⊥) → ⊥
stops s a p next =
    ⊎_elim
    (λ lt. by_cases (IsAt "\\" s p) (λ e. next BadEscape p (bad_escape e refl)) (λ fails. next BadCharacter p (bad_character lt fails refl)))
    (λ ge. next Unclosed a (unclosed ge refl))
    (cases_lt p (length s))

quoted_spells : (q : Quote) (s : List ℕ) (a b : ℕ) (v : List ℕ) → IsQuoted q s a b v → (r : Reading) × Spells r s a b
quoted_spells Double s a b v h = (Good Text, (v, h))
quoted_spells Single s a b v h = (Good Bytes, (v, inl h))

quoted_read : (q : Quote) (s : List ℕ) (a : ℕ) → slice_index s a ≡ quote_byte q → ((code : Code) (place : ℕ) → StringFault s a code place → ⊥) → ((r : Reading) (b : ℕ) → Spells r s a b → ⊥) → ⊥
quoted_read q s a first bad good =
    let lt = quote_inside q s a first in
    furthest
    (HoldsCharacters q s (a + 1))
    (length s)
    (λ m h. characters_within h.1 (omega arith))
    (a + 1)
    ([], C.none refl refl)
    (λ p far. by_cases
    (slice_index s p ≡ quote_byte q)
    (λ close. let r = far.reached in let x = quoted_spells q s a (p + 1) r.0 (record { end = p; opens = first; holds = r.1; closes = close; ends = refl }) in good x.0 (p + 1) x.1)
    (λ fails. stops s a p (λ code place x. bad code place (quoted q p first far fails x))))

-- A comment that the string's end closes is part of what the string holds.
with_comment : {s : List ℕ} {i k p : ℕ} {d : List ℕ} → Coded s i k d → IsCommentTo s k p → EndsComment s p → (e : List ℕ) × Coded s i p e
with_comment {s} {i} {k} {p} (P.none e f) c ends = ([], P.comment (subst (λ n. IsCommentTo s n p) (sym e) c) ends (P.none refl refl))
with_comment (P.blank b r) c ends = let x = with_comment r c ends in (x.0, P.blank b x.1)
with_comment (P.line l r) c ends = let x = with_comment r c ends in (x.0, P.line l x.1)
with_comment (P.comment d g r) c ends = let x = with_comment r c ends in (x.0, P.comment d g x.1)
with_comment {s} {i} (P.other l o n r e) c ends = let x = with_comment r c ends in (slice_index s i ∷ x.0, P.other l o n x.1 refl)

closed : (s : List ℕ) (start p : ℕ) → HoldsCoded s start p → IsAt "'" s p → (d : List ℕ) × Coded s start p d
closed s start p h close = ⊎_elim (λ e. (h.1, subst (λ n. Coded s start n h.1) e h.2)) (λ c. with_comment h.2 c (inr close)) h.3

decoded : (coding : Coding) (s : List ℕ) (a b : ℕ) (d : List ℕ) (o : Option (List ℕ)) → coded_bytes coding d ≡ o → IsPrefixed coding s a b d → ((v : List ℕ) → Spells (Good Bytes) s a b → ⊥) → (IsBadBytes s a b → ⊥) → ⊥
decoded coding s a b d (Some v) e h good bad = good v (v, inr (coding, d, h, e))
decoded coding s a b d None e h good bad = bad (coding, d, h, e)

-- A prefix is a quote last.
pub record HasQuote (s : List ℕ) (a start : ℕ) : Type 0 where
  pub place : ℕ
  pub after : a ≤ place
  pub before : place + 1 ≡ start
  pub quote : slice_index s place ≡ 39

pub prefix_quote : (coding : Coding) (s : List ℕ) (a start : ℕ) → Opens coding s a start → HasQuote s a start
prefix_quote Hex s a start h = record { place = a + 1; after = omega arith; before = omega (arith, h.2); quote = h.1 }
prefix_quote Base64 s a start h = record { place = a + 3; after = omega arith; before = omega (arith, h.4); quote = h.3 }

pub prefixed_read : (coding : Coding) (s : List ℕ) (a start : ℕ) → Opens coding s a start → ((code : Code) (place : ℕ) → StringFault s a code place → ⊥) → ((b : ℕ) → start < b → Spells (Good Bytes) s a b → ⊥) → ⊥
prefixed_read coding s a start opens bad good =
    let q = prefix_quote coding s a start opens in
    let last = inside_at s q.place 39 q.quote (omega arith) in
    let before = q.before in
    let low : start ≤ length s = omega arith in
    furthest
    (HoldsCoded s start)
    (length s)
    (λ m h. held_within s start m low h)
    start
    (start, [], P.none refl refl, inl refl)
    (λ p far. by_cases
    (IsAt "'" s p)
    (λ close.
    let d = closed s start p far.reached close in
    let le = coded_le d.1 in
    decoded coding s a (p + 1) d.0 (coded_bytes coding d.0) refl (record { start = start; end = p; opens = opens; holds = d.1; closes = close; ends = refl })
    (λ v x. good (p + 1) (omega arith) x)
    (λ x. bad BadBytes a (bad_bytes (p + 1) x refl refl)))
    (λ fails. stops s a p (λ code place x. bad code place (prefixed coding start p opens far fails x))))

pub string_read : (s : List ℕ) (a : ℕ) → OpensString s a → ((code : Code) (place : ℕ) → StringFault s a code place → ⊥) → ((r : Reading) (b : ℕ) → Spells r s a b → ⊥) → ⊥
string_read s a h bad good =
    ⊎_elim
    (λ q. ⊎_elim (λ e. quoted_read Double s a e bad good) (λ e. quoted_read Single s a e bad good) q)
    (λ p. prefixed_read p.0 s a p.1 p.2 bad (λ b past x. good (Good Bytes) b x))
    h
