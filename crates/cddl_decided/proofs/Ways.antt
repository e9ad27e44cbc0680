-- Where nothing leads back to itself and instances are few, each way of free references ends.
use Rattle.std.proofs.Common.{◌≡◌, ◌≢◌, ℕ, zero, suc, ◌+◌, ◌<◌, ◌≤◌, ◌⊎◌, inl, inr, List, [], ◌∷◌, length, refl, sym, ap, subst, arith}
use Rattle.std.specs.Prelude.{AllPairs, Contains}
use Rattle.lists.proofs.Lemmas.{IsIn, from_contains}
use Rattle.cddl_language.specs.Terms.{Text, Ref, Definition}
use Rattle.cddl_language.specs.Reach.{Point, at_name, at_unwrapping, at_choice, at_chosen_name, at_opened_choice, ref_at, Reaches}
use Rattle.cddl_language.specs.Free.{LeadsBack, LeadsOn, IsFreeInMeaning, at_once, onwards}
use Rattle.cddl_decided.specs.Ways.{WaysEnd, ends}
use Rattle.cddl_decided.proofs.Apart.{AreApart, pairs}

-- The references by sort.

data Sort : Type 0 where
  by_name : Sort
  by_unwrapping : Sort
  by_choice : Sort
  by_chosen_name : Sort
  by_opened_choice : Sort

abbrev point : Sort → Ref → Point
point by_name r = at_name r
point by_unwrapping r = at_unwrapping r
point by_choice r = at_choice r
point by_chosen_name r = at_chosen_name r
point by_opened_choice r = at_opened_choice r

abbrev push : Sort → Point → List Ref → List Ref
push by_name (at_name r) rs = r ∷ rs
push by_unwrapping (at_unwrapping r) rs = r ∷ rs
push by_choice (at_choice r) rs = r ∷ rs
push by_chosen_name (at_chosen_name r) rs = r ∷ rs
push by_opened_choice (at_opened_choice r) rs = r ∷ rs
push s p rs = rs

abbrev of_sort : Sort → List Point → List Ref
of_sort s [] = []
of_sort s (p ∷ ps) = push s p (of_sort s ps)

pushed_in : (s : Sort) (p : Point) (rs : List Ref) (r : Ref) → IsIn r (push s p rs) → (point s r ≡ p) ⊎ IsIn r rs
pushed_in by_name (at_name q) rs r (inl e) = inl (ap at_name e)
pushed_in by_name (at_name q) rs r (inr i) = inr i
pushed_in by_unwrapping (at_unwrapping q) rs r (inl e) = inl (ap at_unwrapping e)
pushed_in by_unwrapping (at_unwrapping q) rs r (inr i) = inr i
pushed_in by_choice (at_choice q) rs r (inl e) = inl (ap at_choice e)
pushed_in by_choice (at_choice q) rs r (inr i) = inr i
pushed_in by_chosen_name (at_chosen_name q) rs r (inl e) = inl (ap at_chosen_name e)
pushed_in by_chosen_name (at_chosen_name q) rs r (inr i) = inr i
pushed_in by_opened_choice (at_opened_choice q) rs r (inl e) = inl (ap at_opened_choice e)
pushed_in by_opened_choice (at_opened_choice q) rs r (inr i) = inr i
pushed_in s p rs r i = inr i

sort_in : (s : Sort) (ps : List Point) (r : Ref) → IsIn r (of_sort s ps) → IsIn (point s r) ps
sort_in s [] r i = i
sort_in s (p ∷ ps) r i = by (pushed_in s p (of_sort s ps) r i) (sort_in s ps r)
  where
    by : (point s r ≡ p) ⊎ IsIn r (of_sort s ps) → (IsIn r (of_sort s ps) → IsIn (point s r) ps) → IsIn (point s r) (p ∷ ps)
    by (inl e) f = inl e
    by (inr j) f = inr (f j)

push_apart : (s : Sort) (p : Point) (ps : List Point) → (IsIn p ps → ⊥) → AreApart (of_sort s ps) → AreApart (push s p (of_sort s ps))
push_apart by_name (at_name r) ps n h = (λ i. n (sort_in by_name ps r i), h)
push_apart by_unwrapping (at_unwrapping r) ps n h = (λ i. n (sort_in by_unwrapping ps r i), h)
push_apart by_choice (at_choice r) ps n h = (λ i. n (sort_in by_choice ps r i), h)
push_apart by_chosen_name (at_chosen_name r) ps n h = (λ i. n (sort_in by_chosen_name ps r i), h)
push_apart by_opened_choice (at_opened_choice r) ps n h = (λ i. n (sort_in by_opened_choice ps r i), h)
push_apart s p ps n h = h

sort_apart : (s : Sort) (ps : List Point) → AreApart ps → AreApart (of_sort s ps)
sort_apart s [] h = tt
sort_apart s (p ∷ ps) h = push_apart s p ps h.0 (sort_apart s ps h.1)

abbrev count : Sort → List Point → ℕ
count s ps = length (of_sort s ps)

all_counted : (ps : List Point) → length ps ≡ count by_name ps + count by_unwrapping ps + count by_choice ps + count by_chosen_name ps + count by_opened_choice ps
all_counted [] = refl
all_counted (at_name r ∷ ps) = let h = all_counted ps in omega (arith, h)
all_counted (at_unwrapping r ∷ ps) = let h = all_counted ps in omega (arith, h)
all_counted (at_choice r ∷ ps) = let h = all_counted ps in omega (arith, h)
all_counted (at_chosen_name r ∷ ps) = let h = all_counted ps in omega (arith, h)
all_counted (at_opened_choice r ∷ ps) = let h = all_counted ps in omega (arith, h)

module _ (ds : List Definition) (root : Text) (most : ℕ) (few : (rs : List Ref) → ((r : Ref) → Contains rs r → Reaches ds root r) → AllPairs (λ (q r : Ref). q ≢ r) rs → length rs ≤ most)
    (no_way_back : (p : Point) → LeadsBack ds root p → ⊥) (goes_on : (p q : Point) → IsFreeInMeaning ds q p → Reaches ds root (ref_at p) → Reaches ds root (ref_at q)) where
  abbrev AllReach : List Point → Type 0
  AllReach ps = (p : Point) → IsIn p ps → Reaches ds root (ref_at p)

  few_of_sort : (s : Sort) (ps : List Point) → AllReach ps → AreApart ps → count s ps ≤ most
  few_of_sort s ps all h = few (of_sort s ps) reached (pairs (of_sort s ps) (sort_apart s ps h))
    where
      at : (s : Sort) (r : Ref) → Reaches ds root (ref_at (point s r)) → Reaches ds root r
      at by_name r h = h
      at by_unwrapping r h = h
      at by_choice r h = h
      at by_chosen_name r h = h
      at by_opened_choice r h = h

      reached : (r : Ref) → Contains (of_sort s ps) r → Reaches ds root r
      reached r c = at s r (all (point s r) (sort_in s ps r (from_contains (of_sort s ps) r c)))

  few_points : (ps : List Point) → AllReach ps → AreApart ps → length ps ≤ most + most + most + most + most
  few_points ps all h = omega (arith, all_counted ps, few_of_sort by_name ps all h, few_of_sort by_unwrapping ps all h, few_of_sort by_choice ps all h, few_of_sort by_chosen_name ps all h, few_of_sort by_opened_choice ps all h)

  further : (b p q : Point) → LeadsOn ds b p → IsFreeInMeaning ds q p → LeadsOn ds b q
  further b p q (at_once h) k = onwards h (at_once k)
  further b p q (onwards {q = s} h w) k = onwards h (further s p q w k)

  -- from a point, with those before it on a way
  walk : (k : ℕ) (p : Point) (before : List Point) → Reaches ds root (ref_at p) → AllReach before → ((b : Point) → IsIn b before → LeadsOn ds b p) → AreApart before → most + most + most + most + most < length before + k → WaysEnd ds p
  walk zero p before here all lead h full = absurd (let few = few_points before all h in omega (arith, full, few))
  walk (suc k) p before here all lead h full = ends (λ q free. walk k q (p ∷ before) (goes_on p q free here) reached (leads q free) (apart, h) (omega (arith, full)))
    where
      apart : IsIn p before → ⊥
      apart i = no_way_back p (record { instance = here; way = lead p i })

      reached : AllReach (p ∷ before)
      reached b (inl e) = subst (λ z. Reaches ds root (ref_at z)) (sym e) here
      reached b (inr i) = all b i

      leads : (q : Point) → IsFreeInMeaning ds q p → (b : Point) → IsIn b (p ∷ before) → LeadsOn ds b q
      leads q free b (inl e) = subst (λ z. LeadsOn ds z q) (sym e) (at_once free)
      leads q free b (inr i) = further b p q (lead b i) free

  pub all_end : (p : Point) → Reaches ds root (ref_at p) → WaysEnd ds p
  all_end p here = walk (suc (most + most + most + most + most)) p [] here (λ b i. absurd i) (λ b i. absurd i) tt (omega arith)
