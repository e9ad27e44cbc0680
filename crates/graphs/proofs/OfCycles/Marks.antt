-- The marks of nodes, where one is opened, and where a component is done.
use Rattle.std.proofs.Common.{◌≡◌, ℕ, zero, suc, ◌+◌, ◌<◌, ◌≤◌, ltb, List, [], ◌∷◌, length, map, set, replicate, Bool, true, false, cond, Option, Some, ◌⊎◌, inl, inr, slice_get, refl, sym, ap, ◌∙◌, arith}
use Rattle.std.proofs.lemmas.Bool.Decides.{nat_tests}
use Rattle.lists.proofs.Lemmas.{is_below, is_from, never_some}
use Rattle.graphs.specs.declared.cycles.search.Mark.{Mark}
use Rattle.graphs.specs.declared.cycles.search.Mark.TheVariants.{Unseen, Open, Done}
use Rattle.graphs.specs.Cycles.Search.{shut, unseen, number}
use Rattle.graphs.proofs.OfCycles.Lists.{same_some}

pub one_mark : (o : Option Mark) (m n : Mark) → o ≡ Some m → o ≡ Some n → m ≡ n
one_mark o m n p q = same_some m n (sym p ∙ q)

pub unseen_open : (q : ℕ) → Unseen ≡ Open q → ⊥
unseen_open q e = cc

pub unseen_done : (c : ℕ) → Unseen ≡ Done c → ⊥
unseen_done c e = cc

pub open_done : (q c : ℕ) → Open q ≡ Done c → ⊥
open_done q c e = cc

pub one_open : (p q : ℕ) → Open p ≡ Open q → p ≡ q
one_open p q e = cc

pub one_done : (c d : ℕ) → Done c ≡ Done d → c ≡ d
one_done c d e = cc

-- how many are unseen

pub one_seen : (ms : List Mark) (x q : ℕ) → slice_get ms x ≡ Some Unseen → unseen (set ms x (Open q)) + 1 ≡ unseen ms
one_seen [] x q e = absurd (never_some Unseen e)
one_seen (Unseen ∷ ms) zero q e = omega arith
one_seen (Open p ∷ ms) zero q e = absurd (unseen_open p (sym (same_some _ _ e)))
one_seen (Done c ∷ ms) zero q e = absurd (unseen_done c (sym (same_some _ _ e)))
one_seen (Unseen ∷ ms) (suc x) q e = let h = one_seen ms x q e in omega (arith, h)
one_seen (Open p ∷ ms) (suc x) q e = one_seen ms x q e
one_seen (Done c ∷ ms) (suc x) q e = one_seen ms x q e

pub all_unseen : (n : ℕ) → unseen (replicate n Unseen) ≡ n
all_unseen zero = refl
all_unseen (suc n) = let h = all_unseen n in omega (arith, h)

-- a component that is done

below_is : (q p : ℕ) → q < p → ltb q p ≡ true
below_is q p h = grind (arith, nat_tests)

from_is : (q p : ℕ) → p ≤ q → ltb q p ≡ false
from_is q p h = grind (arith, nat_tests)

module _ (p c : ℕ) where
  pub shut_length : (ms : List Mark) → length (map (shut p c) ms) ≡ length ms
  shut_length [] = refl
  shut_length (m ∷ ms) = ap suc (shut_length ms)

  pub is_shut : (ms : List Mark) (x : ℕ) (m : Mark) → slice_get ms x ≡ Some m → slice_get (map (shut p c) ms) x ≡ Some (shut p c m)
  is_shut [] x m e = absurd (never_some m e)
  is_shut (n ∷ ms) zero m e = ap (λ o. Some (shut p c o)) (same_some n m e)
  is_shut (n ∷ ms) (suc x) m e = is_shut ms x m e

  was_shut : (ms : List Mark) (x : ℕ) (n : Mark) → slice_get (map (shut p c) ms) x ≡ Some n → (m : Mark) × (slice_get ms x ≡ Some m) × (shut p c m ≡ n)
  was_shut [] x n e = absurd (never_some n e)
  was_shut (m ∷ ms) zero n e = (m, refl, same_some (shut p c m) n e)
  was_shut (m ∷ ms) (suc x) n e = was_shut ms x n e

  pub stays_open : (q : ℕ) → q < p → shut p c (Open q) ≡ Open q
  stays_open q h = ap (λ (b : Bool). cond b (Open q) (Done c)) (below_is q p h)

  pub gets_done : (q : ℕ) → p ≤ q → shut p c (Open q) ≡ Done c
  gets_done q h = ap (λ (b : Bool). cond b (Open q) (Done c)) (from_is q p h)

  by_place : (q : ℕ) (b : Bool) → ltb q p ≡ b → (n : Mark) → cond b (Open q) (Done c) ≡ n → ((q < p) × (Open q ≡ n)) ⊎ ((p ≤ q) × (Done c ≡ n))
  by_place q true e n f = inl (is_below q p e, f)
  by_place q false e n f = inr (is_from q p e, f)

  pub shut_unseen : (m : Mark) → shut p c m ≡ Unseen → m ≡ Unseen
  shut_unseen Unseen e = refl
  shut_unseen (Open q) e = elim (by_place q (ltb q p) refl Unseen e) [ inl h ↦ absurd (unseen_open q (sym h.1)) | inr h ↦ absurd (unseen_done c (sym h.1)) ]
  shut_unseen (Done d) e = e

  shut_open : (m : Mark) (r : ℕ) → shut p c m ≡ Open r → (m ≡ Open r) × (r < p)
  shut_open Unseen r e = absurd (unseen_open r e)
  shut_open (Open q) r e = elim (by_place q (ltb q p) refl (Open r) e) [ inl h ↦ (h.1, (let k = one_open q r h.1 in omega (arith, k, h.0))) | inr h ↦ absurd (open_done r c (sym h.1)) ]
  shut_open (Done d) r e = absurd (open_done r d (sym e))

  -- a node of the component c: it was open, at p or after it
  pub record WasOpen (ms : List Mark) (x : ℕ) : Type 0 where
    pub place : ℕ
    pub there : slice_get ms x ≡ Some (Open place)
    pub from : p ≤ place

  shut_done : (m : Mark) (d : ℕ) → shut p c m ≡ Done d → (m ≡ Done d) ⊎ ((c ≡ d) × (q : ℕ) × (m ≡ Open q) × (p ≤ q))
  shut_done Unseen d e = absurd (unseen_done d e)
  shut_done (Open q) d e = elim (by_place q (ltb q p) refl (Done d) e) [ inl h ↦ absurd (open_done q d h.1) | inr h ↦ inr (one_done c d h.1, q, refl, h.0) ]
  shut_done (Done b) d e = inl e

  pub unseen_before : (ms : List Mark) (x : ℕ) → slice_get (map (shut p c) ms) x ≡ Some Unseen → slice_get ms x ≡ Some Unseen
  unseen_before ms x e = let w = was_shut ms x Unseen e in w.1 ∙ ap Some (shut_unseen w.0 w.2)

  pub open_before : (ms : List Mark) (x q : ℕ) → slice_get (map (shut p c) ms) x ≡ Some (Open q) → (slice_get ms x ≡ Some (Open q)) × (q < p)
  open_before ms x q e = let w = was_shut ms x (Open q) e in let o = shut_open w.0 q w.2 in (w.1 ∙ ap Some o.0, o.1)

  pub done_before : (ms : List Mark) (x d : ℕ) → slice_get (map (shut p c) ms) x ≡ Some (Done d) → (slice_get ms x ≡ Some (Done d)) ⊎ ((c ≡ d) × WasOpen ms x)
  done_before ms x d e =
      let w = was_shut ms x (Done d) e in
      elim (shut_done w.0 d w.2) [ inl h ↦ inl (w.1 ∙ ap Some h) | inr h ↦ inr (h.0, record { place = h.1; there = w.1 ∙ ap Some h.2; from = h.3 }) ]

  shut_as_many : (m : Mark) (ms ns : List Mark) → unseen ns ≡ unseen ms → unseen (shut p c m ∷ ns) ≡ unseen (m ∷ ms)
  shut_as_many Unseen ms ns h = omega (arith, h)
  shut_as_many (Open q) ms ns h = by_test (ltb q p)
    where
      by_test : (b : Bool) → unseen (cond b (Open q) (Done c) ∷ ns) ≡ unseen ms
      by_test true = h
      by_test false = h
  shut_as_many (Done d) ms ns h = h

  pub as_many_unseen : (ms : List Mark) → unseen (map (shut p c) ms) ≡ unseen ms
  as_many_unseen [] = refl
  as_many_unseen (m ∷ ms) = shut_as_many m ms (map (shut p c) ms) (as_many_unseen ms)

  -- the mark of a node that is taken for the component early changes nothing of that
  pub shut_twice : (ms : List Mark) (x q : ℕ) → slice_get ms x ≡ Some (Open q) → p ≤ q → map (shut p c) (set ms x (Done c)) ≡ map (shut p c) ms
  shut_twice [] x q e h = refl
  shut_twice (m ∷ ms) zero q e h = ap (λ (n : Mark). n ∷ map (shut p c) ms) (sym (gets_done q h) ∙ sym (ap (shut p c) (same_some m (Open q) e)))
  shut_twice (m ∷ ms) (suc x) q e h = ap (λ (ns : List Mark). shut p c m ∷ ns) (shut_twice ms x q e h)

  pub none_to_shut : (ms : List Mark) → ((x q : ℕ) → slice_get ms x ≡ Some (Open q) → q < p) → map (shut p c) ms ≡ ms
  none_to_shut [] h = refl
  none_to_shut (Unseen ∷ ms) h = ap (λ (ns : List Mark). Unseen ∷ ns) (none_to_shut ms (λ x q e. h (suc x) q e))
  none_to_shut (Open q ∷ ms) h = ap (λ (n : Mark). n ∷ map (shut p c) ms) (stays_open q (h zero q refl)) ∙ ap (λ (ns : List Mark). Open q ∷ ns) (none_to_shut ms (λ x q e. h (suc x) q e))
  none_to_shut (Done d ∷ ms) h = ap (λ (ns : List Mark). Done d ∷ ns) (none_to_shut ms (λ x q e. h (suc x) q e))

pub number_at : (ms : List Mark) (x r : ℕ) → slice_get (map number ms) x ≡ Some r → (m : Mark) × (slice_get ms x ≡ Some m) × (number m ≡ r)
number_at [] x r e = absurd (never_some r e)
number_at (m ∷ ms) zero r e = (m, refl, same_some (number m) r e)
number_at (m ∷ ms) (suc x) r e = number_at ms x r e

pub numbers_length : (ms : List Mark) → length (map number ms) ≡ length ms
numbers_length [] = refl
numbers_length (m ∷ ms) = ap suc (numbers_length ms)
