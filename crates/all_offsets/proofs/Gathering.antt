-- All offsets that are told of the elements of a list, from those that are told of each.
use Rattle.std.proofs.Common.{◌≡◌, ◌↔◌, ◌⊎◌, inl, inr, ℕ, ◌+◌, ◌<◌, ◌≤◌, List, [], ◌∷◌, length, get_or, Option, Some, slice_get, refl, sym, subst, arith}
use Rattle.std.specs.List.{Contains}
use Rattle.std.specs.List.Sorted.{IsStrictlyIncreasing}
use Rattle.std.proofs.lemmas.Option.{slice_get_read, slice_get_within}
use Rattle.lists.proofs.Lemmas.{at_head, before_or_not, contains_at, either, first_or_later, none_in, one_of, place_of}
use Rattle.lists.specs.Least.{IsLeast}
use Rattle.all_offsets.specs.Offsets.{AreOf, AreOffsets, Gains, IsAmong, IsAtPlace, IsSaid, IsThatOf}
use Rattle.all_offsets.proofs.Lists.{IsOne, gains_least, moved_of, same_of}

-- it is told of one before this place
pub record IsBefore {A : Type 0} (P : ℕ → A → ℕ → Type 0) (xs : List A) (i at : ℕ) : Type 0 where
  pub it : IsAtPlace P xs at
  pub before : it.place < i

-- The offsets are those that are told of the elements before this place.
pub record Gathers {A : Type 0} (P : ℕ → A → ℕ → Type 0) (xs : List A) (i : ℕ) (offsets : List ℕ) : Type 0 where
  pub gathered : AreOf (IsBefore P xs i) offsets

module _ {A : Type 0} (P : ℕ → A → ℕ → Type 0) (xs : List A) where
  pub begins : (offsets : List ℕ) → offsets ≡ [] → Gathers P xs 0 offsets
  begins offsets e = record { gathered = λ p. (λ c. absurd (none_in p (subst (λ ys. Contains ys p) e c)), λ k. let b = k.before in absurd (omega (arith, b))) }

  pub goes_on : (i : ℕ) (x : A) (old new : List ℕ) → slice_get xs i ≡ Some x → Gains (P i x) old new → Gathers P xs i old → Gathers P xs (i + 1) new
  goes_on i x old new e gains g = record { gathered = λ p. (to p, from p) }
    where
      to : (p : ℕ) → Contains new p → IsBefore P xs (i + 1) p
      to p c = either ((gains p).0 c) (λ o. let k = (g.gathered p).0 o in let b = k.before in record { it = k.it; before = omega (arith, b) }) (λ t. record { it = record { place = i; one = x; there = e; told = t }; before = omega arith })

      here : (p : ℕ) (k : IsAtPlace P xs p) → k.place ≡ i → P i x p
      here p k same =
          let there = subst (λ j. slice_get xs j ≡ Some k.one) same k.there in
          subst (λ y. P i y p) (one_of (slice_get xs i) k.one x there e) (subst (λ j. P j k.one p) same k.told)

      from : (p : ℕ) → IsBefore P xs (i + 1) p → Contains new p
      from p k = by (before_or_not k.it.place i)
        where
          by : (k.it.place < i) ⊎ (i ≤ k.it.place) → Contains new p
          by (inl l) = (gains p).1 (inl ((g.gathered p).1 (record { it = k.it; before = l })))
          by (inr l) = let b = k.before in (gains p).1 (inr (here p k.it (omega (arith, l, b))))

  pub ends : (i : ℕ) (offsets : List ℕ) → length xs ≤ i → Gathers P xs i offsets → AreOf (IsAtPlace P xs) offsets
  ends i offsets l g p = (λ c. ((g.gathered p).0 c).it, λ k. (g.gathered p).1 (record { it = k; before = let w = slice_get_within xs k.place k.one k.there in omega (arith, l, w) }))

  -- of each at most one offset is told, the least
  pub goes_on_least : (i : ℕ) (x : A) (o : Option ℕ) (old new : List ℕ) → slice_get xs i ≡ Some x → IsLeast (P i x) o → IsOne (P i x) → Gains (IsThatOf o) old new → Gathers P xs i old → Gathers P xs (i + 1) new
  goes_on_least i x o old new e h one gains g = goes_on i x old new e (gains_least (P i x) o old new h one gains) g

-- sorted, each once
pub in_order : (P : ℕ → Type 0) (old new : List ℕ) → AreOf P old → IsStrictlyIncreasing new → ((p : ℕ) → Contains new p ↔ Contains old p) → AreOffsets P new
in_order P old new are rising same = record { rising = rising; exactly = moved_of P old new same are }

module _ {A : Type 0} (f : ℕ → A → Option ℕ) (xs : List A) where
  pub goes_on_said : (i : ℕ) (x : A) (o : Option ℕ) (old new : List ℕ) → slice_get xs i ≡ Some x → o ≡ f i x → Gains (IsThatOf o) old new → Gathers (IsSaid f) xs i old → Gathers (IsSaid f) xs (i + 1) new
  goes_on_said i x o old new e same gains g = goes_on (IsSaid f) xs i x old new e (subst (λ v. Gains (IsThatOf v) old new) same gains) g

-- What stands exactly at the offsets that are told has this list.

pub same_offsets : (P Q : ℕ → Type 0) (offsets : List ℕ) → ((p : ℕ) → P p → Q p) → ((p : ℕ) → Q p → P p) → AreOffsets P offsets → AreOffsets Q offsets
same_offsets P Q offsets to from are = record { rising = are.rising; exactly = same_of P Q offsets to from are.exactly }

pub all_at_places : {A : Type 0} (f : ℕ → A → Option ℕ) (P : ℕ → Type 0) (xs : List A) (offsets : List ℕ) → ((i : ℕ) (x : A) (at : ℕ) → slice_get xs i ≡ Some x → f i x ≡ Some at → P at) → ((at : ℕ) → P at → (i : ℕ) × (x : A) × (slice_get xs i ≡ Some x) × (f i x ≡ Some at)) → AreOffsets (IsAtPlace (IsSaid f) xs) offsets → AreOffsets P offsets
all_at_places f P xs offsets sound complete are = same_offsets (IsAtPlace (IsSaid f) xs) P offsets (λ p k. sound k.place k.one p k.there k.told) (λ p h. let w = complete p h in record { place = w.0; one = w.1; there = w.2; told = w.3 }) are

-- By the elements alone.

module _ {A : Type 0} (P : A → ℕ → Type 0) (xs : List A) where
  to_among : (p : ℕ) → IsAtPlace (λ k. P) xs p → IsAmong P xs p
  to_among p k = record { one = k.one; present = contains_at xs k.place k.one k.there; told = k.told }

  to_place : (p : ℕ) → IsAmong P xs p → IsAtPlace (λ k. P) xs p
  to_place p k = let w = place_of xs k.one k.present in record { place = w.0; one = k.one; there = w.1; told = k.told }

  pub among : (offsets : List ℕ) → AreOf (IsAtPlace (λ k. P) xs) offsets → AreOf (IsAmong P xs) offsets
  among offsets are = same_of (IsAtPlace (λ k. P) xs) (IsAmong P xs) offsets to_among to_place are

-- an element by its place, as loops read it

pub read_at : {A : Type 0} (xs : List A) (i : ℕ) (x : A) → i < length xs → x ≡ get_or xs i x → slice_get xs i ≡ Some x
read_at xs i x l is = slice_get_read xs (length xs) i x refl l is

-- the same by the members of the list
pub all_of_members : {A : Type 0} (f : A → Option ℕ) (P : ℕ → Type 0) (xs : List A) (offsets : List ℕ) → ((x : A) (at : ℕ) → Contains xs x → f x ≡ Some at → P at) → ((at : ℕ) → P at → (x : A) × (Contains xs x × (f x ≡ Some at))) → AreOffsets (IsAtPlace (IsSaid (λ k. f)) xs) offsets → AreOffsets P offsets
all_of_members f P xs offsets sound complete are = all_at_places (λ k. f) P xs offsets (λ i x at e h. sound x at (contains_at xs i x e) h) (λ at h. let w = complete at h in let q = place_of xs w.0 w.1.0 in (q.0, w.0, q.1, w.1.1)) are

-- The offsets of both, where what stands is one of two things.
pub of_either : (P Q : ℕ → Type 0) (xs ys zs : List ℕ) → AreOffsets P xs → AreOffsets Q ys → IsStrictlyIncreasing zs → ((p : ℕ) → Contains zs p ↔ (Contains xs p ⊎ Contains ys p)) → AreOffsets (λ p. P p ⊎ Q p) zs
of_either P Q xs ys zs a b rising each = record { rising = rising; exactly = λ p. (λ c. either ((each p).0 c) (λ x. inl ((a.exactly p).0 x)) (λ y. inr ((b.exactly p).0 y)), λ h. (each p).1 (either h (λ k. inl ((a.exactly p).1 k)) (λ k. inr ((b.exactly p).1 k)))) }

nothing_rises : IsStrictlyIncreasing []
nothing_rises = λ k h. absurd (omega (arith, h))

-- of what stands nowhere, and of what stands at one offset alone
pub none_anywhere : (P : ℕ → Type 0) (xs : List ℕ) → xs ≡ [] → ((p : ℕ) → P p → ⊥) → AreOffsets P xs
none_anywhere P xs e none = subst (AreOffsets P) (sym e) (record { rising = nothing_rises; exactly = λ p. (λ c. absurd (none_in p c), λ h. absurd (none p h)) })

pub one_alone : (P : ℕ → Type 0) (at : ℕ) → P at → ((p : ℕ) → P p → p ≡ at) → AreOffsets P (at ∷ [])
one_alone P at here only = record { rising = λ k h. absurd (omega (arith, h)); exactly = λ p. (λ c. either (first_or_later at [] p c) (λ e. subst P e here) (λ none. absurd (none_in p none)), λ h. subst (λ q. Contains (at ∷ []) q) (sym (only p h)) (at_head at [])) }
