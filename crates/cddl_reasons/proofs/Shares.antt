-- What the number of items leaves, whatever each part has taken.
use Rattle.std.proofs.Common.{◌≡◌, ℕ, zero, suc, ◌+◌, ◌-◌, ◌<◌, ◌≤◌, Bool, true, false, if◌then◌else◌, nat_lt, List, [], ◌∷◌, Option, Some, None, refl, sym, subst, ◌∙◌, arith}
use Rattle.std.proofs.lemmas.Bool.Decides.{nat_tests}
use Rattle.std.proofs.lemmas.List.Sums.{sum_by-cons}
use Rattle.std.specs.List.{sum}
use Rattle.cddl_meaning.specs.Forms as F
use Rattle.cddl_meaning.specs.Forms.{Language}
use Rattle.cddl_reasons.specs.Greedy.{AreShares, HasMore, IsShare, by_least, is_over, is_share, is_spare, more_or, over_most, over_rounds, rounds_of}
use Rattle.table_nodes.specs.declared.nodes.GroupId.{GroupId}
use Rattle.table_nodes.specs.declared.nodes.TypeId.{TypeId}

less : (a b : ℕ) → nat_lt a b ≡ true → a < b
less a b t = grind (arith, nat_tests, t)

not_less : (a b : ℕ) → nat_lt a b ≡ false → b ≤ a
not_less a b t = grind (arith, nat_tests, t)

-- a part may take so many at most, and the others take fewer than what is left then
by_most : (m : F.Most) (k t n : ℕ) (others : ℕ → Bool) → ((i : ℕ) → others i ≡ true → t < i) → over_most m n others ≡ true → is_share m k → k + t < n
by_most F.any_number_of k t n others rest over share = absurd (cc)
by_most (F.at_most most) k t n others rest over share = by (nat_lt most n) refl over
  where
    by : (b : Bool) → nat_lt most n ≡ b → (if b then others (n - most) else false) ≡ true → k + t < n
    by true e over = omega (arith, less most n e, rest (n - most) over, share)
    by false e over = absurd (cc)

by_rounds : (r : Option (ℕ × F.Most)) (k t n : ℕ) (others : ℕ → Bool) → ((i : ℕ) → others i ≡ true → t < i) → over_rounds r n others ≡ true → IsShare r k → k + t < n
by_rounds None k t n others rest over share = absurd (cc)
by_rounds (Some (least, most)) k t n others rest over share = by_most most k t n others rest over share.1

over_all : (l : Language TypeId GroupId) (gs : List GroupId) (ks : List ℕ) (n : ℕ) → is_over l gs n ≡ true → AreShares l gs ks → sum ks < n
over_all l [] [] n over shares = less 0 n over
over_all l [] (k ∷ ks) n over shares = absurd shares
over_all l (g ∷ gs) [] n over shares = absurd shares
over_all l (g ∷ gs) (k ∷ ks) n over shares = subst (λ m. m < n) (sym (sum_by-cons (λ (i : ℕ). i) k ks)) (by_rounds (rounds_of l (l.group_at g)) k (sum ks) n (is_over l gs) (λ i h. over_all l gs ks i h shares.1) over shares.0)

spare_by : (r : Option (ℕ × F.Most)) (k t n : ℕ) (optional must : ℕ → Bool) (Rest : Type 0) → (optional n ≡ true → t ≡ n → Rest) → ((i : ℕ) → must i ≡ true → t < i) → IsShare r k → by_least r n optional must ≡ true → k + t ≡ n → more_or r k Rest
spare_by None k t n optional must Rest rest over share spare all = absurd (cc)
spare_by (Some (least, most)) k t n optional must Rest rest over share spare all = by (nat_lt 0 least) refl spare
  where
    by_some : (b : Bool) → nat_lt least n ≡ b → (if b then must (n - least) else false) ≡ true → 0 < least → more_or (Some (least, most)) k Rest
    by_some false e h some = absurd (cc)
    by_some true e h some = found k share.0 all
      where
        found : (j : ℕ) → least ≤ j → j + t ≡ n → more_or (Some (least, most)) j Rest
        found zero le is = absurd (omega (arith, le, some))
        found (suc j) le is = omega (arith, is, less least n e, over (n - least) h)

    by : (b : Bool) → nat_lt 0 least ≡ b → (if b then (if nat_lt least n then must (n - least) else false) else optional n) ≡ true → more_or (Some (least, most)) k Rest
    by true e h = by_some (nat_lt least n) refl h (less 0 least e)
    by false e h = found k all
      where
        found : (j : ℕ) → j + t ≡ n → more_or (Some (least, most)) j Rest
        found zero is = rest h (omega (arith, is))
        found (suc j) is = omega (arith, not_less 0 least e)

pub spare_more : (l : Language TypeId GroupId) (gs : List GroupId) (ks : List ℕ) (n : ℕ) → is_spare l gs n ≡ true → AreShares l gs ks → sum ks ≡ n → HasMore l gs ks
spare_more l [] [] n spare shares all = absurd (omega (arith, less 0 n spare, all))
spare_more l [] (k ∷ ks) n spare shares all = absurd shares
spare_more l (g ∷ gs) [] n spare shares all = absurd shares
spare_more l (g ∷ gs) (k ∷ ks) n spare shares all = spare_by (rounds_of l (l.group_at g)) k (sum ks) n (is_spare l gs) (is_over l gs) (HasMore l gs ks) (λ h is. spare_more l gs ks n h shares.1 is) (λ i h. over_all l gs ks i h shares.1) shares.0 spare (sym (sum_by-cons (λ (i : ℕ). i) k ks) ∙ all)
