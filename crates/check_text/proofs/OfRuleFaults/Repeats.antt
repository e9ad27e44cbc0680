-- Parameters that stand twice in one list.
use Rattle.std.proofs.Common.{◌≡◌, ◌⊎◌, inl, inr, ℕ, ◌+◌, ◌<◌, ◌≤◌, nat_eq, Bool, true, false, not, ◌||◌, List, [], length, Option, Some, None, refl, sym, ap, subst, ◌∙◌, slice_get, arith, true≢false}
use Rattle.std.proofs.lemmas.Bool.{cases_lt}
use Rattle.std.proofs.lemmas.Option.{slice_get_within}
use Rattle.lists.proofs.Lemmas.{is_equal as same_eq, lesser_least as either, or_true, same_least as alike, test_equal as eq_same}
use Rattle.lists.specs.Least.{IsLeast, lesser_of}
use Rattle.check_text.specs.RuleFaults.Duplicates.{IsRepeated, is_among, told_again}

pub record IsBefore (ns os : List ℕ) (i at : ℕ) : Type 0 where
  pub fault : IsRepeated ns os at
  pub within : fault.later < i

pub record IsThere (ns os : List ℕ) (i at : ℕ) : Type 0 where
  pub fault : IsRepeated ns os at
  pub here : fault.later ≡ i

-- the keys are the numbers before the place i
pub record AreSeen (ns keys : List ℕ) (i : ℕ) : Type 0 where
  pub from : (k : ℕ) → is_among k keys ≡ true → (j : ℕ) × (j < i) × (slice_get ns j ≡ Some k)
  pub to : (k j : ℕ) → j < i → slice_get ns j ≡ Some k → is_among k keys ≡ true

pub record IsRead (ns os : List ℕ) (keys : List ℕ) (i : ℕ) (least : Option ℕ) : Type 0 where
  pub seen : AreSeen ns keys i
  pub told : IsLeast (IsBefore ns os i) least

pub none_seen : (ns keys : List ℕ) → keys ≡ [] → AreSeen ns keys 0
none_seen ns keys e = record {
  from = λ k h. absurd (true≢false (sym h ∙ ap (is_among k) e));
  to = λ k j l h. absurd (omega (arith, l));
}

pub none_before : (ns os : List ℕ) (p : ℕ) → IsBefore ns os 0 p → ⊥
none_before ns os p f = let l = f.within in omega (arith, l)

pub none_read : (ns os : List ℕ) (keys : List ℕ) → keys ≡ [] → IsRead ns os keys 0 None
none_read ns os keys e = record { seen = none_seen ns keys e; told = none_before ns os }

one_number : (o : Option ℕ) (x y : ℕ) → o ≡ Some x → o ≡ Some y → x ≡ y
one_number o x y e f = cc

no_number : (o : Option ℕ) (x : ℕ) → o ≡ None → o ≡ Some x → ⊥
no_number o x e f = cc

module _ (ns os : List ℕ) (keys : List ℕ) (i : ℕ) (r : AreSeen ns keys i) (p : ℕ) (place : slice_get ns i ≡ Some p) where
  pub again : (a : Bool) → is_among p keys ≡ a → (o : Option ℕ) → slice_get os i ≡ o → IsLeast (IsThere ns os i) (told_again (not a) o)
  again true e None f = λ at k. no_number (slice_get os i) at f (subst (λ j. slice_get os j ≡ Some at) k.here k.fault.there)
  again true e (Some u) f = (record { fault = record { earlier = (r.from p e).0; later = i; number = p; before = (r.from p e).1; first = (r.from p e).2; second = place; there = f }; here = refl }, λ at k. lowest at (one_number (slice_get os i) u at f (subst (λ j. slice_get os j ≡ Some at) k.here k.fault.there)))
    where
      lowest : (at : ℕ) → u ≡ at → u ≤ at
      lowest at g = omega (arith, g)
  again false e o f = λ at k. true≢false (sym (r.to k.fault.number k.fault.earlier (subst (λ j. k.fault.earlier < j) k.here k.fault.before) k.fault.first) ∙ ap (λ m. is_among m keys) (sym (one_number (slice_get ns i) p k.fault.number place (subst (λ j. slice_get ns j ≡ Some k.fault.number) k.here k.fault.second))) ∙ e)

  pub next_seen : (new : List ℕ) → ((k : ℕ) → is_among k new ≡ (is_among k keys || nat_eq k p)) → AreSeen ns new (i + 1)
  next_seen new adds = record { from = from; to = to }
    where
      from : (k : ℕ) → is_among k new ≡ true → (j : ℕ) × (j < i + 1) × (slice_get ns j ≡ Some k)
      from k h = by (is_among k keys) refl (sym (adds k) ∙ h)
        where
          by : (a : Bool) → is_among k keys ≡ a → (a || nat_eq k p) ≡ true → (j : ℕ) × (j < i + 1) × (slice_get ns j ≡ Some k)
          by true e g = let old = r.from k e in let l = old.1 in (old.0, omega (arith, l), old.2)
          by false e g = (i, omega arith, place ∙ ap Some (sym (same_eq k p g)))

      to : (k j : ℕ) → j < i + 1 → slice_get ns j ≡ Some k → is_among k new ≡ true
      to k j l e = adds k ∙ by (cases_lt j i)
        where
          by : (j < i) ⊎ (i ≤ j) → (is_among k keys || nat_eq k p) ≡ true
          by (inl g) = ap (λ (a : Bool). a || nat_eq k p) (r.to k j g e)
          by (inr g) = let same : j ≡ i = omega (arith, g, l) in ap (λ (a : Bool). is_among k keys || a) (eq_same k p (one_number (slice_get ns i) k p (subst (λ m. slice_get ns m ≡ Some k) same e) place)) ∙ or_true (is_among k keys)

  pub before_next : (at : ℕ) → IsBefore ns os i at ⊎ IsThere ns os i at → IsBefore ns os (i + 1) at
  before_next at (inl f) = let l = f.within in record { fault = f.fault; within = omega (arith, l) }
  before_next at (inr f) = let l = f.here in record { fault = f.fault; within = omega (arith, l) }

  pub before_or_there : (at : ℕ) → IsBefore ns os (i + 1) at → IsBefore ns os i at ⊎ IsThere ns os i at
  before_or_there at f = by (cases_lt f.fault.later i)
    where
      by : (f.fault.later < i) ⊎ (i ≤ f.fault.later) → IsBefore ns os i at ⊎ IsThere ns os i at
      by (inl g) = inl (record { fault = f.fault; within = g })
      by (inr g) = let l = f.within in inr (record { fault = f.fault; here = omega (arith, g, l) })

  pub told_there : (b : Bool) (o : Option ℕ) → b ≡ not (is_among p keys) → o ≡ told_again b (slice_get os i) → IsLeast (IsThere ns os i) o
  told_there b o is_new tells = subst (IsLeast (IsThere ns os i)) (sym (tells ∙ ap (λ c. told_again c (slice_get os i)) is_new)) (again (is_among p keys) refl (slice_get os i) refl)

pub next_read : (ns os : List ℕ) (keys : List ℕ) (i : ℕ) (least : Option ℕ) → IsRead ns os keys i least → (p : ℕ) → slice_get ns i ≡ Some p → (new : List ℕ) (b : Bool) (o lesser : Option ℕ) → b ≡ not (is_among p keys) → ((k : ℕ) → is_among k new ≡ (is_among k keys || nat_eq k p)) → o ≡ told_again b (slice_get os i) → lesser ≡ lesser_of least o → IsRead ns os new (i + 1) lesser
next_read ns os keys i least r p place new b o lesser is_new adds tells less = record {
  seen = next_seen ns os keys i r.seen p place new adds;
  told = subst (IsLeast (IsBefore ns os (i + 1))) (sym less) (alike _ _ (before_next ns os keys i r.seen p place) (before_or_there ns os keys i r.seen p place) _ (either _ _ least o r.told (told_there ns os keys i r.seen p place b o is_new tells)));
}

pub before_all : (ns os : List ℕ) (i : ℕ) → length ns ≤ i → (at : ℕ) → IsRepeated ns os at → IsBefore ns os i at
before_all ns os i h at f = let l = slice_get_within ns f.later f.number f.second in record { fault = f; within = omega (arith, l, h) }

pub all_read : (ns os : List ℕ) (keys : List ℕ) (i : ℕ) (least : Option ℕ) → length ns ≤ i → IsRead ns os keys i least → IsLeast (IsRepeated ns os) least
all_read ns os keys i least h r = alike (IsBefore ns os i) (IsRepeated ns os) (λ at f. f.fault) (before_all ns os i h) least r.told
