-- A way on through parts that stand for something meets no part twice, and so ends after as many as there are.
use Rattle.std.proofs.Common.{◌≡◌, ◌⊎◌, ℕ, zero, suc, ◌+◌, ◌<◌, ◌≤◌, List, [], ◌∷◌, length, set, replicate, Bool, true, false, inl, inr, slice_index_or, refl, sym, ap, subst, ◌∙◌, arith}
use Rattle.lists.proofs.Lemmas.{replicate_length, there as there_is, within}
use Rattle.alternatives.specs.declared.Part.{Part}
use Rattle.alternatives.specs.Splices.{Alternatives, HasAlternatives, stands, Splices, entry, empty, nothing, same, both, either, occurs, LeadsTo, Has, has_same, has_first, has_second, has_one, has_other, has_group}
use Rattle.alternatives.specs.Search.{LeadsOn, leads, count_unseen}
use Rattle.alternatives.specs.Building.{Ends}
use Rattle.alternatives.proofs.Once.{splices_at, join_to, no_round}
use Rattle.alternatives.proofs.Lists.{read_there, replicate_at, one_seen}

abbrev In : List ℕ → ℕ → Type 0
In [] x = ⊥
In (y ∷ ys) x = (y ≡ x) ⊎ In ys x

-- different numbers below the limit
abbrev AreApart : ℕ → List ℕ → Type 0
AreApart limit [] = Unit {0}
AreApart limit (x ∷ xs) = (x < limit) × (In xs x → ⊥) × AreApart limit xs

abbrev marked : ℕ → List ℕ → List Bool
marked limit [] = replicate limit false
marked limit (x ∷ xs) = set (marked limit xs) x true

read_other : (xs : List Bool) (i j : ℕ) → (i ≡ j → ⊥) → slice_index_or (set xs i true) j true ≡ slice_index_or xs j true
read_other [] i j n = refl
read_other (y ∷ xs) zero zero n = absurd (n refl)
read_other (y ∷ xs) zero (suc j) n = refl
read_other (y ∷ xs) (suc i) zero n = refl
read_other (y ∷ xs) (suc i) (suc j) n = read_other xs i j (λ e. n (ap suc e))

not_marked : (limit : ℕ) (xs : List ℕ) (x : ℕ) → x < limit → (In xs x → ⊥) → slice_index_or (marked limit xs) x true ≡ false
not_marked limit [] x l n =
    let m = replicate_length limit false in
    let b = there_is (replicate limit false) x (omega (arith, l, m)) in
    read_there (replicate limit false) x true b.0 b.1 ∙ sym (replicate_at limit false x b.0 b.1)
not_marked limit (y ∷ xs) x l n = read_other (marked limit xs) y x (λ e. n (inl e)) ∙ not_marked limit xs x l (λ i. n (inr i))

all_unseen : (n : ℕ) → count_unseen (replicate n false) ≡ n
all_unseen zero = refl
all_unseen (suc n) = let h = all_unseen n in omega (arith, h)

counted : (limit : ℕ) (xs : List ℕ) → AreApart limit xs → count_unseen (marked limit xs) + length xs ≡ limit
counted limit [] h = let k = all_unseen limit in omega (arith, k)
counted limit (x ∷ xs) h =
    let k = counted limit xs h.2 in
    let m = one_seen (marked limit xs) x (not_marked limit xs x h.0 h.1) in
    omega (arith, k, m)

few : (limit : ℕ) (xs : List ℕ) → AreApart limit xs → length xs ≤ limit
few limit xs h = let k = counted limit xs h in omega (arith, k)

module _ (parts : List Part) where
  pub record Stands (n : ℕ) : Type 0 where
    pub alternatives : Alternatives
    pub stands_for : HasAlternatives parts n alternatives

  inner : {n : ℕ} {p : Part} {mss : Alternatives} → Splices parts n p mss → (c : ℕ) → Has p c → Stands c
  inner entry c h = elim h [ ]
  inner empty c h = elim h [ ]
  inner nothing c h = elim h [ ]
  inner (same d) c has_same = record { alternatives = _; stands_for = d }
  inner (both d e) c has_first = record { alternatives = _; stands_for = d }
  inner (both d e) c has_second = record { alternatives = _; stands_for = e }
  inner (either d e) c has_one = record { alternatives = _; stands_for = d }
  inner (either d e) c has_other = record { alternatives = _; stands_for = e }
  inner (occurs d h) c has_group = record { alternatives = _; stands_for = d }

  stands_next : (n c : ℕ) → Stands n → LeadsTo parts n c → Stands c
  stands_next n c s t = inner (splices_at parts t.part s.stands_for t.there) c t.has

  is_within : (n : ℕ) → Stands n → n < length parts
  is_within n s = by s.stands_for
    where
      by : {mss : Alternatives} → HasAlternatives parts n mss → n < length parts
      by (stands {p = p} e d) = within parts n p e

  ends : (k n : ℕ) (above : List ℕ) → Stands n → AreApart (length parts) (n ∷ above) → ((a : ℕ) → In above a → LeadsOn parts a n) → length parts ≤ length above + k → Ends parts k n
  ends zero n above s h f l = let m = few (length parts) (n ∷ above) h in absurd (omega (arith, l, m))
  ends (suc k) n above s h f l = λ c t. ends k c (n ∷ above) (stands_next n c s t) (is_within c (stands_next n c s t), (λ i. no_round parts (stands_next n c s t).stands_for (comes_to c t c i)), h) (comes_to c t) (omega (arith, l))
    where
      comes_to : (c : ℕ) → LeadsTo parts n c → (a : ℕ) → In (n ∷ above) a → LeadsOn parts a c
      comes_to c t a (inl e) = leads (subst (λ m. LeadsTo parts m c) e t)
      comes_to c t a (inr i) = join_to parts (f a i) t

  pub all_end : (n : ℕ) (mss : Alternatives) → HasAlternatives parts n mss → Ends parts (length parts) n
  all_end n mss d =
      let s : Stands n = record { alternatives = mss; stands_for = d } in
      ends (length parts) n [] s (is_within n s, (λ i. i), tt) (λ a i. absurd i) (omega arith)
