-- What stands before and after the first byte of a sort.
use Rattle.std.proofs.Common.{◌≡◌, ℕ, suc, ◌+◌, ◌-◌, ◌≤◌, Bool, true, false, not, [], ◌∷◌, length, Some, None, refl, sym, ap, subst, ◌∙◌, nat_eq, nat_lt, if◌then◌else◌, take, drop, cond, arith, length-drop}
use Rattle.std.specs.List.{position, position_or_len}
use Rattle.std.proofs.lemmas.List.{take_all, drop_all}
use Rattle.lists.proofs.Lemmas.{not_below}
use Rattle.cddl_language.specs.Terms.{Text}
use Rattle.cddl_language.specs.Numbers.{after, before}

abbrev place : ℕ → Text → ℕ
place b s = position_or_len (λ c. nat_eq c b) s

to_place : (b : ℕ) (s : Text) → take (place b s) s ≡ before b s
to_place b [] = refl
to_place b (c ∷ s) = by (nat_eq c b) (to_place b s)
  where
    one_more : (p : ℕ) → suc p ≡ 1 + p
    one_more p = omega arith

    by : (t : Bool) → take (place b s) s ≡ before b s → take (cond (not t) (1 + place b s) 0) (c ∷ s) ≡ (if t then [] else c ∷ before b s)
    by true h = refl
    by false h = subst (λ n. take n (c ∷ s) ≡ c ∷ before b s) (one_more (place b s)) (ap (λ (x : Text). c ∷ x) h)

behind_place : (b : ℕ) (s : Text) → drop (place b s + 1) s ≡ after b s
behind_place b [] = refl
behind_place b (c ∷ s) = by (nat_eq c b) (behind_place b s)
  where
    further : (p : ℕ) → suc (p + 1) ≡ (1 + p) + 1
    further p = omega arith

    by : (t : Bool) → drop (place b s + 1) s ≡ after b s → drop (cond (not t) (1 + place b s) 0 + 1) (c ∷ s) ≡ (if t then s else after b s)
    by true h = refl
    by false h = subst (λ n. drop n (c ∷ s) ≡ after b s) (further (place b s)) h

found : (t : Bool) (i n : ℕ) → Some i ≡ cond t (Some n) None → n ≡ i
found true i n e = cc
found false i n e = cc

missing : (t : Bool) (n : ℕ) → None ≡ cond t (Some n) None → t ≡ false
missing true n e = cc
missing false n e = refl

module _ (b : ℕ) (s : Text) where
  pub before_it : (i : ℕ) → Some i ≡ position (λ c. nat_eq c b) s → take i s ≡ before b s
  before_it i e = ap (λ n. take n s) (sym (found (nat_lt (place b s) (length s)) i (place b s) e)) ∙ to_place b s

  pub behind_it : (i : ℕ) → Some i ≡ position (λ c. nat_eq c b) s → drop (i + 1) s ≡ after b s
  behind_it i e = ap (λ n. drop (n + 1) s) (sym (found (nat_lt (place b s) (length s)) i (place b s) e)) ∙ behind_place b s

  past : None ≡ position (λ c. nat_eq c b) s → length s ≤ place b s
  past e = not_below (place b s) (length s) (missing (nat_lt (place b s) (length s)) (place b s) e)

  pub all_before : None ≡ position (λ c. nat_eq c b) s → s ≡ before b s
  all_before e = sym (take_all (place b s) s (past e)) ∙ to_place b s

  pub none_behind : None ≡ position (λ c. nat_eq c b) s → [] ≡ after b s
  none_behind e = let p = past e in sym (drop_all (place b s + 1) s (omega arith)) ∙ behind_place b s

-- the rest of a text, as a range that goes to its end
pub to_end : (n : ℕ) (s : Text) → take (length s - n) (drop n s) ≡ drop n s
to_end n s = take_all (length s - n) (drop n s) (subst (λ k. k ≤ length s - n) (sym (length-drop n s)) (omega arith))
