-- Where all instances are found, there are no more that are apart.
use Rattle.std.proofs.Common.{◌≡◌, ◌≢◌, inl, inr, ℕ, zero, suc, ◌<◌, ◌≤◌, List, [], ◌∷◌, length, get_or, AllPairs, Some, refl, sym, ap, subst, ◌∙◌, arith}
use Rattle.std.specs.List.{Contains}
use Rattle.cddl_language.specs.Terms as L
use Rattle.cddl_language.specs.Terms.{Ref, Text}
use Rattle.cddl_language.specs.Faults.{HasTooManyInstances, Specification, definitions}
use Rattle.check_terms.specs.Table.{Table}
use Rattle.check_instances.specs.declared.found.Instance.{Instance}
use Rattle.check_instances.specs.Found.{AreFound, none_found, further_found, HasFound, HasTooMany}
use Rattle.check_instances.specs.Lists.{AreApart, IsIn}
use Rattle.lists.specs.Least.{IsLeast}

module _ {A : Type 0} where
  is_in : (xs : List A) (k : ℕ) (y : A) → k < length xs → get_or xs k y ≡ y → IsIn y xs
  is_in [] k y lt e = absurd (omega arith)
  is_in (x ∷ xs) zero y lt e = inl (sym e)
  is_in (x ∷ xs) (suc k) y lt e = inr (is_in xs k y (omega arith) e)

  contains : (xs : List A) (y : A) → IsIn y xs → Contains xs y
  contains [] y h = absurd h
  contains (x ∷ xs) y (inl e) = (0, omega arith, sym e)
  contains (x ∷ xs) y (inr h) = let c = contains xs y h in let lt : c.0 < length xs = c.1 in (suc c.0, omega arith, c.2)

  apart : (xs : List A) → AllPairs (λ (x y : A). x ≢ y) xs → AreApart xs
  apart [] h = tt
  apart (x ∷ xs) h = (first, apart xs (λ i j d l m. h (suc i) (suc j) d (omega arith) (omega arith)))
    where
      first : IsIn x xs → ⊥
      first g = let c = contains xs x g in let lt : c.0 < length xs = c.1 in h 0 (suc c.0) x (omega arith) (omega arith) (sym c.2)

  -- the list without the one element
  abbrev without : (x : A) (ys : List A) → IsIn x ys → List A
  without x [] h = []
  without x (y ∷ ys) (inl e) = ys
  without x (y ∷ ys) (inr h) = y ∷ without x ys h

  one_less : (x : A) (ys : List A) (h : IsIn x ys) → suc (length (without x ys h)) ≡ length ys
  one_less x [] h = absurd h
  one_less x (y ∷ ys) (inl e) = refl
  one_less x (y ∷ ys) (inr h) = ap suc (one_less x ys h)

  still_in : (x z : A) (ys : List A) (h : IsIn x ys) → x ≢ z → IsIn z ys → IsIn z (without x ys h)
  still_in x z [] h n g = absurd h
  still_in x z (y ∷ ys) (inl e) n (inl f) = absurd (n (e ∙ sym f))
  still_in x z (y ∷ ys) (inl e) n (inr g) = g
  still_in x z (y ∷ ys) (inr h) n (inl f) = inl f
  still_in x z (y ∷ ys) (inr h) n (inr g) = inr (still_in x z ys h n g)

  -- Elements that are apart and all in a list are no more than it has.
  no_more : (xs ys : List A) → AreApart xs → ((z : A) → IsIn z xs → IsIn z ys) → length xs ≤ length ys
  no_more [] ys a h = omega arith
  no_more (x ∷ xs) ys a h =
      let here = h x (inl refl) in
      let rest = no_more xs (without x ys here) a.1 (λ z g. still_in x z ys here (λ e. a.0 (subst (λ y. IsIn y xs) (sym e) g)) (h z (inr g))) in
      let less = one_less x ys here in
      omega (arith, rest, less)

as_many : (xs : List L.Definition) (t : Table) (found : List Instance) (refs : List Ref) → AreFound xs t found refs → length found ≡ length refs
as_many xs t [] [] none_found = refl
as_many xs t [] (r ∷ rs) h = elim h [ ]
as_many xs t (i ∷ is) [] h = elim h [ ]
as_many xs t (i ∷ is) (r ∷ rs) (further_found h hs) = ap suc (as_many xs t is rs hs)

pub few : (s : Specification) (root : Text) (t : Table) (found : List Instance) → HasFound (definitions s) root t found → (p : ℕ) → HasTooManyInstances s root p → ⊥
few s root t found h p m =
    let inside : (z : Ref) → IsIn z m.instances → IsIn z h.refs = λ z g. let c = h.are_instances.all z (m.reached z (contains m.instances z g)) in is_in h.refs c.0 z c.1 c.2 in
    let most = no_more m.instances h.refs (apart m.instances m.distinct) inside in
    let same = as_many (definitions s) t found h.refs h.are_found in
    let few = h.few in
    let many = m.many in
    omega (arith, most, same, few, many)

pub many : (s : Specification) (root : Text) → HasTooMany (definitions s) root → IsLeast (HasTooManyInstances s root) (Some 0)
many s root h = (record { instances = h.refs; reached = h.reached; distinct = h.distinct; many = h.many; offset = refl }, λ p m. omega arith)
