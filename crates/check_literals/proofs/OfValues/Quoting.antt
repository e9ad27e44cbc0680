-- When a text is a string.
use Rattle.std.proofs.Common.{subst, ◌-◌, nat_eq, Result, Ok, Err, IfOk, ◌≡◌, ◌≢◌, ℕ, ◌+◌, inl, inr, true, false, List, Option, Some, None, slice_index, length, sym, refl, ap, ◌∙◌, arith}
use Rattle.std.proofs.lemmas.Bool.{false≢true}
use Rattle.std.proofs.lemmas.Bool.Decides.{nat_tests}
use Rattle.std.specs.Option.{option_map}
use Rattle.cddl_literal.specs.Bytes.{is_h, is_b}
use Rattle.cddl_literal.specs.Literals.{IsBytes, IsBadBytes}
use Rattle.cddl_literal.specs.Prefixed.{IsPrefixed, Opens, coded_bytes}
use Rattle.cddl_literal.specs.Strings.{IsQuoted}
use Rattle.cddl_literal.specs.declared.Quote.{Quote}
use Rattle.cddl_literal.specs.declared.Coding.{Coding}
use Rattle.cddl_literal.specs.declared.Coding.TheVariants.{Hex, Base64}
use Rattle.check_literals.specs.Values.Values.{Answers, IsCoded}

h_not_b : (b : ℕ) → is_h b ≡ true → is_b b ≡ true → ⊥
h_not_b b h k = grind (arith, nat_tests)

-- a string with a prefix that opens so has that coding
pub same_coding : (p q : Coding) (s : List ℕ) (a e f : ℕ) → Opens p s a e → Opens q s a f → q ≡ p
same_coding Hex Hex s a e f h k = refl
same_coding Base64 Base64 s a e f h k = refl
same_coding Hex Base64 s a e f h k = absurd (h_not_b (slice_index s a) h.0 k.0)
same_coding Base64 Hex s a e f h k = absurd (h_not_b (slice_index s a) k.0 h.0)

-- what is no string with this coding is none at all
pub no_coding : (p : Coding) (s : List ℕ) (e : ℕ) → Opens p s 0 e → ((d : List ℕ) → IsPrefixed p s 0 (length s) d → ⊥) → (v : List ℕ) → IsCoded s v → ⊥
no_coding p s e opens bad v h =
    bad h.1 (subst (λ q. IsPrefixed q s 0 (length s) h.1) (same_coding p h.0 s 0 e h.2.start opens h.2.opens) h.2)

opened : (s : List ℕ) (q : Coding) (e : ℕ) → ((e : ℕ) → Opens Hex s 0 e → ⊥) → ((e : ℕ) → Opens Base64 s 0 e → ⊥) → Opens q s 0 e → ⊥
opened s Hex e bad worse h = bad e h
opened s Base64 e bad worse h = worse e h

pub no_opening : (s : List ℕ) → ((e : ℕ) → Opens Hex s 0 e → ⊥) → ((e : ℕ) → Opens Base64 s 0 e → ⊥) → (v : List ℕ) → IsCoded s v → ⊥
no_opening s bad worse v h = opened s h.0 h.2.start bad worse h.2.opens

pub coded_answer : (p : Coding) (s d : List ℕ) (o : Option (List ℕ)) → IsPrefixed p s 0 (length s) d → o ≡ coded_bytes p d → ((v : List ℕ) → IsBytes s 0 (length s) v → IsBadBytes s 0 (length s) → ⊥) → Answers (IsCoded s) o
coded_answer p s d (Some v) h e bad = (p, d, h, sym e)
coded_answer p s d None h e bad = λ v k. bad v (inr k) (p, d, h, sym e)

pub not_plain : (s : List ℕ) (o : Option (List ℕ)) → ((v : List ℕ) → IsQuoted Quote.Single s 0 (length s) v → ⊥) → Answers (IsCoded s) o → Answers (IsBytes s 0 (length s)) o
not_plain s (Some v) bad h = inr h
not_plain s None bad h = λ v k. elim k [ inl x ↦ bad v x | inr x ↦ h v x ]

pub not_one : (n p : ℕ) → n - p ≢ 1 → n ≡ p + 1 → ⊥
not_one n p h e = h (omega arith)

pub not_last : (n p : ℕ) → nat_eq (n - p) 1 ≡ false → n ≡ p + 1 → ⊥
not_last n p h e =
    let one : n - p ≡ 1 = omega arith in
    false≢true (sym h ∙ ap (λ k. nat_eq k 1) one)

-- the answer to a string without prefix is the answer
pub not_plain_ok : {V E : Type 0} (f : V → List ℕ) (s : List ℕ) (r : Result (Option V) E) → ((v : List ℕ) → IsQuoted Quote.Single s 0 (length s) v → ⊥) → IfOk r (λ o. Answers (IsCoded s) (option_map f o)) → IfOk r (λ o. Answers (IsBytes s 0 (length s)) (option_map f o))
not_plain_ok f s (Ok o) bad h = not_plain s (option_map f o) bad h
not_plain_ok f s (Err e) bad h = h

pub coded_ok : {V E : Type 0} (f : V → List ℕ) (p : Coding) (s d : List ℕ) (r : Result (Option V) E) → IsPrefixed p s 0 (length s) d → IfOk r (λ o. option_map f o ≡ coded_bytes p d) → ((v : List ℕ) → IsBytes s 0 (length s) v → IsBadBytes s 0 (length s) → ⊥) → IfOk r (λ o. Answers (IsCoded s) (option_map f o))
coded_ok f p s d (Ok o) h e bad = coded_answer p s d (option_map f o) h e bad
coded_ok f p s d (Err x) h e bad = e

pub not_plain_as : {V E : Type 0} (f : V → List ℕ) (s t : List ℕ) → s ≡ t → (r : Result (Option V) E) → ((v : List ℕ) → IsQuoted Quote.Single s 0 (length s) v → ⊥) → IfOk r (λ o. Answers (IsCoded s) (option_map f o)) → IfOk r (λ o. Answers (IsBytes t 0 (length t)) (option_map f o))
not_plain_as f s t e r bad h = subst (λ k. IfOk r (λ o. Answers (IsBytes k 0 (length k)) (option_map f o))) e (not_plain_ok f s r bad h)
