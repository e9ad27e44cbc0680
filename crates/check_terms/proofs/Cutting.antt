-- Texts that are looked for, and names in texts.
use Rattle.std.proofs.Common.{◌≡◌, ℕ, suc, ◌+◌, Bool, true, false, not, List, [], ◌∷◌, length, refl, sym, ap, subst, nat_eq, if◌then◌else◌, take, drop, cond, arith}
use Rattle.std.specs.List.{position_or_len, before_first, after_first}
use Rattle.cddl_language.specs.Numbers.{after, before}

-- What stands before and after the first byte b, in the words of the library and in those of the definitions.

one_more : (p : ℕ) → suc p ≡ 1 + p
one_more p = omega arith

pub before-first : (b : ℕ) (s : List ℕ) → before_first (λ c. nat_eq c b) s ≡ before b s
before-first b [] = refl
before-first b (c ∷ s) = by (nat_eq c b) (before-first b s)
  where
    by : (t : Bool) → before_first (λ c. nat_eq c b) s ≡ before b s → take (cond (not t) (1 + position_or_len (λ c. nat_eq c b) s) 0) (c ∷ s) ≡ (if t then [] else c ∷ before b s)
    by true h = refl
    by false h = subst (λ n. take n (c ∷ s) ≡ c ∷ before b s) (one_more (position_or_len (λ c. nat_eq c b) s)) (ap (λ (x : List ℕ). c ∷ x) h)

pub after-first : (b : ℕ) (s : List ℕ) → after_first (λ c. nat_eq c b) s ≡ after b s
after-first b [] = refl
after-first b (c ∷ s) = by (nat_eq c b) (after-first b s)
  where
    further : (p : ℕ) → suc (p + 1) ≡ (1 + p) + 1
    further p = omega arith

    by : (t : Bool) → after_first (λ c. nat_eq c b) s ≡ after b s → drop (cond (not t) (1 + position_or_len (λ c. nat_eq c b) s) 0 + 1) (c ∷ s) ≡ (if t then s else after b s)
    by true h = refl
    by false h = subst (λ n. drop n (c ∷ s) ≡ after b s) (further (position_or_len (λ c. nat_eq c b) s)) h

-- Where the byte is nowhere, all stands before it, and nothing after it.

is_later : (t : Bool) (p n : ℕ) → cond (not t) (1 + p) 0 ≡ suc n → (t ≡ false) × (p ≡ n)
is_later true p n e = cc
is_later false p n e = (refl, omega (arith, e))

pub none-before : (b : ℕ) (s : List ℕ) → position_or_len (λ c. nat_eq c b) s ≡ length s → s ≡ before b s
none-before b [] e = refl
none-before b (c ∷ s) e =
    let h = is_later (nat_eq c b) (position_or_len (λ c. nat_eq c b) s) (length s) e in
    subst (λ t. c ∷ s ≡ (if t then [] else c ∷ before b s)) (sym h.0) (ap (λ (x : List ℕ). c ∷ x) (none-before b s h.1))

pub none-after : (b : ℕ) (s : List ℕ) → position_or_len (λ c. nat_eq c b) s ≡ length s → [] ≡ after b s
none-after b [] e = refl
none-after b (c ∷ s) e =
    let h = is_later (nat_eq c b) (position_or_len (λ c. nat_eq c b) s) (length s) e in
    subst (λ t. [] ≡ (if t then s else after b s)) (sym h.0) (none-after b s h.1)
