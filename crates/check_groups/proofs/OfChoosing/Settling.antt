-- A family of sets of the numbers below a count that grows, and stays once it stayed, stays from that count on.
use Rattle.std.proofs.Common.{◌≡◌, ℕ, zero, suc, ◌+◌, ◌-◌, ◌≤◌, ◌<◌, Bool, true, false, ◌⊎◌, inl, inr, refl, sym, ap, subst, ◌∙◌, arith}
use Rattle.std.proofs.lemmas.Bool.{cases_lt}

abbrev one : Bool → ℕ
one true = 1
one false = 0

abbrev counted : (ℕ → Bool) → ℕ → ℕ
counted p zero = 0
counted p (suc k) = one (p k) + counted p k

at_most : (p : ℕ → Bool) (k : ℕ) → counted p k ≤ k
at_most p zero = omega arith
at_most p (suc k) = by (p k) (at_most p k)
  where
    by : (b : Bool) → counted p k ≤ k → one b + counted p k ≤ suc k
    by true h = omega (arith, h)
    by false h = omega (arith, h)

last_or_before : (k i : ℕ) → i < suc k → (i ≡ k) ⊎ (i < k)
last_or_before k i h = by (cases_lt i k)
  where
    by : (i < k) ⊎ (k ≤ i) → (i ≡ k) ⊎ (i < k)
    by (inl l) = inr l
    by (inr l) = inl (omega (arith, h, l))

-- a full one has all
full : (p : ℕ → Bool) (k : ℕ) → k ≤ counted p k → (i : ℕ) → i < k → p i ≡ true
full p zero h i l = absurd (omega (arith, l))
full p (suc k) h i l = by (p k) refl h (at_most p k) (full p k) (last_or_before k i l)
  where
    by : (b : Bool) → b ≡ p k → suc k ≤ one b + counted p k → counted p k ≤ k → (k ≤ counted p k → (j : ℕ) → j < k → p j ≡ true) → (i ≡ k) ⊎ (i < k) → p i ≡ true
    by true e g m again (inl s) = ap p s ∙ sym e
    by true e g m again (inr s) = again (omega (arith, g)) i s
    by false e g m again s = absurd (omega (arith, g, m))

abbrev Within : (ℕ → Bool) → (ℕ → Bool) → ℕ → Type 0
Within q p k = (i : ℕ) → i < k → q i ≡ true → p i ≡ true

-- a greater one has the same or more
grown : (p q : ℕ → Bool) → ((i : ℕ) → p i ≡ true → q i ≡ true) → (k : ℕ) → (Within q p k × (counted p k ≤ counted q k)) ⊎ (counted p k < counted q k)
grown p q up zero = inl ((λ i l. absurd (omega (arith, l))), omega arith)
grown p q up (suc k) = by (p k) (q k) refl refl (up k) (grown p q up k)
  where
    both_within : (q k ≡ true → p k ≡ true) → Within q p k → Within q p (suc k)
    both_within f h i l e = at (last_or_before k i l)
      where
        at : (i ≡ k) ⊎ (i < k) → p i ≡ true
        at (inl s) = ap p s ∙ f (ap q (sym s) ∙ e)
        at (inr s) = h i s e

    by : (b c : Bool) → b ≡ p k → c ≡ q k → (p k ≡ true → q k ≡ true) → (Within q p k × (counted p k ≤ counted q k)) ⊎ (counted p k < counted q k) → (Within q p (suc k) × (one b + counted p k ≤ one c + counted q k)) ⊎ (one b + counted p k < one c + counted q k)
    by true true e f u (inl h) = inl (both_within (λ g. sym e) h.0, let m = h.1 in omega (arith, m))
    by true true e f u (inr h) = inr (omega (arith, h))
    by true false e f u h = absurd (never (f ∙ u (sym e)))
      where
        never : false ≡ true → ⊥
        never g = cc
    by false true e f u (inl h) = inr (let m = h.1 in omega (arith, m))
    by false true e f u (inr h) = inr (omega (arith, h))
    by false false e f u (inl h) = inl (both_within (λ g. absurd (never (f ∙ g))) h.0, let m = h.1 in omega (arith, m))
      where
        never : false ≡ true → ⊥
        never g = cc
    by false false e f u (inr h) = inr (omega (arith, h))

module _ (p : ℕ → ℕ → Bool) (n : ℕ) (beyond : (j i : ℕ) → n ≤ i → p j i ≡ true → ⊥) (up : (j i : ℕ) → p j i ≡ true → p (suc j) i ≡ true) where
  abbrev pub Stays : ℕ → Type 0
  Stays j = (i : ℕ) → p (suc j) i ≡ true → p j i ≡ true

  module _ (onward : (j : ℕ) → Stays j → Stays (suc j)) where
    stays_or_grows : (j : ℕ) → Stays j ⊎ (j ≤ counted (p j) n)
    stays_or_grows zero = inr (omega arith)
    stays_or_grows (suc j) = by (stays_or_grows j)
      where
        within : Within (p (suc j)) (p j) n → Stays j
        within h i e = at (cases_lt i n)
          where
            at : (i < n) ⊎ (n ≤ i) → p j i ≡ true
            at (inl l) = h i l e
            at (inr l) = absurd (beyond (suc j) i l e)

        step : j ≤ counted (p j) n → (Within (p (suc j)) (p j) n × (counted (p j) n ≤ counted (p (suc j)) n)) ⊎ (counted (p j) n < counted (p (suc j)) n) → Stays (suc j) ⊎ (suc j ≤ counted (p (suc j)) n)
        step l (inl h) = inl (onward j (within h.0))
        step l (inr h) = inr (omega (arith, l, h))

        by : Stays j ⊎ (j ≤ counted (p j) n) → Stays (suc j) ⊎ (suc j ≤ counted (p (suc j)) n)
        by (inl h) = inl (onward j h)
        by (inr l) = step l (grown (p j) (p (suc j)) (up j) n)

    stays : Stays n
    stays i e = by (stays_or_grows n) (cases_lt i n)
      where
        by : Stays n ⊎ (n ≤ counted (p n) n) → (i < n) ⊎ (n ≤ i) → p n i ≡ true
        by (inl h) l = h i e
        by (inr g) (inl l) = full (p n) n g i l
        by (inr g) (inr l) = absurd (beyond (suc n) i l e)

    abbrev after : ℕ → ℕ → ℕ
    after k zero = k
    after k (suc d) = suc (after k d)

    after_is : (k d : ℕ) → after k d ≡ k + d
    after_is k zero = omega arith
    after_is k (suc d) = let h = after_is k d in omega (arith, h)

    stays_after : (d : ℕ) → Stays (after n d)
    stays_after zero = stays
    stays_after (suc d) = onward (after n d) (stays_after d)

    back : (d i : ℕ) → p (after n d) i ≡ true → p n i ≡ true
    back zero i e = e
    back (suc d) i e = back d i (stays_after d i e)

    ahead : (d j i : ℕ) → p j i ≡ true → p (after j d) i ≡ true
    ahead zero j i e = e
    ahead (suc d) j i e = up (after j d) i (ahead d j i e)

    -- what is in one is in each from there on
    pub settled : (m : ℕ) → n ≤ m → (j i : ℕ) → p j i ≡ true → p m i ≡ true
    settled m h j i e = subst (λ k. p k i ≡ true) reach (ahead (m - n) n i (back j i (subst (λ k. p k i ≡ true) turn (ahead n j i e))))
      where
        turn : after j n ≡ after n j
        turn = let a = after_is j n in let b = after_is n j in omega (arith, a, b)

        reach : after n (m - n) ≡ m
        reach = let a = after_is n (m - n) in omega (arith, a, h)
