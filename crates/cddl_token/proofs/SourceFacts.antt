-- A source has one answer.
use Rattle.std.proofs.Common.{◌≡◌, ℕ, ◌≤◌, List, [], ◌∷◌, length, sym, subst, ◌∙◌, ⊎_elim, arith}
use Rattle.std.specs.Prelude.{map, All, MatchResult, Result, Ok, Err, IfOk}
use Rattle.cddl_token.specs.declared.Code.{Code}
use Rattle.cddl_token.specs.declared.Refusal.{Refusal}
use Rattle.cddl_token.specs.declared.Kind.TheVariants.{End}
use Rattle.cddl_token.specs.Tokens.{Spanned, Tokenized, ends, more, token}
use Rattle.std.proofs.lemmas.List.Elements.{All-weaker}
use Rattle.cddl_token.specs.declared.Token.{Token}
use Rattle.cddl_token.specs.Answers.{span, IsTokenized, IsRefused, IsReadFrom, IsAnswered, StopsScan, InOrder}
use Rattle.cddl_token.proofs.Laws.{Laws}
use Rattle.cddl_token.proofs.TokenOne.{tokenized_one, gap_le}
use Rattle.cddl_token.proofs.FaultOne.{not_both, refused_one}
use Rattle.cddl_token.proofs.SpellingFacts.{spelled_past}

pub one_list : Laws → {s : List ℕ} {ts us : List Spanned} → IsTokenized s ts → IsTokenized s us → us ≡ ts
one_list laws first second = tokenized_one laws first.1 second.1

pub one_refusal : Laws → {s : List ℕ} {c d : Code} {p q : ℕ} → IsRefused s c p → IsRefused s d q → (d ≡ c) × (q ≡ p)
one_refusal laws first second =
    ⊎_elim
    (λ x. ⊎_elim (λ y. (y.1 ∙ sym x.1, y.2 ∙ sym x.2)) (λ other. ⊎_elim (λ y. absurd (omega (arith, x.0, y.0))) (λ y. absurd (let small = y.0 in omega (arith, x.0, small.0))) other) second)
    (λ rest. ⊎_elim
    (λ x. ⊎_elim (λ y. absurd (omega (arith, x.0, y.0))) (λ other. ⊎_elim (λ y. (y.2 ∙ sym x.2, y.3 ∙ sym x.3)) (λ y. absurd (x.1 (y.0).1)) other) second)
    (λ x. ⊎_elim (λ y. absurd (let small = x.0 in omega (arith, y.0, small.0))) (λ other. ⊎_elim (λ y. absurd (y.1 (x.0).1)) (λ y. refused_one laws x.1 y.1) other) second)
    rest)
    first

pub never_both : Laws → {s : List ℕ} {ts : List Spanned} {c : Code} {p : ℕ} → IsTokenized s ts → IsRefused s c p → ⊥
never_both laws found refused =
    ⊎_elim
    (λ x. let small = found.0 in omega (arith, x.0, small.0))
    (λ rest. ⊎_elim (λ x. x.1 (found.0).1) (λ x. not_both laws found.1 x.1) rest)
    refused

at_end : (s : List ℕ) (i : ℕ) → i ≤ length s → InOrder i (length s) (token End (length s) (length s) ∷ [])
at_end s i le = (le, omega arith, omega arith)

-- tokens are in order
pub tokenized_order : {s : List ℕ} {i : ℕ} {ts : List Spanned} → Tokenized s i ts → InOrder i (length s) ts
tokenized_order {s} {i} (ends g e) = subst (InOrder i (length s)) (sym e) (at_end s i (gap_le g))
tokenized_order {s} (more {a = a} {b = b} {kind = k} g t r) =
    let le = gap_le g in
    let l = t.longest in
    let past = spelled_past k s a b l.spelled in
    (le, omega arith, tokenized_order r)

-- what is known of each token that was found
pub all_answered : {V : Type 0} (items : V → List Token) (s : List ℕ) (r : Result V Refusal) → MatchResult r (λ v. Tokenized s 0 (map span (items v)) × All (IsReadFrom s) (items v)) (λ e. StopsScan s e) → IfOk r (λ v. All IsAnswered (items v))
all_answered items s (Ok v) found = All-weaker (IsReadFrom s) IsAnswered (λ x h. (s, h)) (items v) found.1
all_answered items s (Err e) stopped = tt

pub all_in_order : {V : Type 0} (items : V → List Token) (s : List ℕ) (r : Result V Refusal) → MatchResult r (λ v. Tokenized s 0 (map span (items v)) × All (IsReadFrom s) (items v)) (λ e. StopsScan s e) → IfOk r (λ v. InOrder 0 (length s) (map span (items v)))
all_in_order items s (Ok v) found = tokenized_order found.0
all_in_order items s (Err e) stopped = tt
