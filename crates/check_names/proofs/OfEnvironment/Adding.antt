-- Places that are added to lists, by name.
use Rattle.std.proofs.Common.{◌≡◌, ℕ, zero, suc, ◌+◌, ◌-◌, ◌<◌, ◌≤◌, Bool, true, false, if◌then◌else◌, List, [], ◌∷◌, ◌++◌, length, map, Option, Some, None, refl, sym, ap, subst, ◌∙◌, slice_get, slice_set, get_or, nat_eq, arith}
use Rattle.std.proofs.Math.Dec.{eqb-suc-suc, eqb-suc-zero, eqb-zero-suc}
use Rattle.std.specs.Global.{Vec}
use Rattle.lists.proofs.Lemmas.{one_of}
use Rattle.check_terms.specs.declared.definition.Definition.{Definition}
use Rattle.check_names.specs.declared.environment.environment.Name.{Name}
use Rattle.check_names.specs.Environment.Names.{AreNames, Standing, standing, standing_at, standing_from}
use Rattle.check_names.specs.Environment.Places.{added, added_all, first_in, first_of, lists, no_places, places_from, places_of}

pub next_empty : (i n : ℕ) → i < n → no_places (n - i) ≡ [] ∷ no_places (n - (i + 1))
next_empty i n h = ap no_places step
  where
    step : n - i ≡ suc (n - (i + 1))
    step = omega (arith, h)

at_name : (k p : ℕ) (ls : List (List ℕ)) (j : ℕ) (l : List ℕ) → slice_get ls j ≡ Some l → slice_get (added k p ls) j ≡ Some (if nat_eq k j then l ++ p ∷ [] else l)
at_name k p [] j l e = cc
at_name zero p (m ∷ ls) zero l e = ap (λ (o : Option (List ℕ)). with_place o) e
  where
    with_place : Option (List ℕ) → Option (List ℕ)
    with_place (Some x) = Some (x ++ p ∷ [])
    with_place None = None
at_name zero p (m ∷ ls) (suc j) l e = subst (λ b. slice_get ls j ≡ Some (if b then l ++ p ∷ [] else l)) (sym (eqb-zero-suc j)) e
at_name (suc k) p (m ∷ ls) zero l e = subst (λ b. Some m ≡ Some (if b then l ++ p ∷ [] else l)) (sym (eqb-suc-zero k)) e
at_name (suc k) p (m ∷ ls) (suc j) l e = subst (λ b. slice_get (added k p ls) j ≡ Some (if b then l ++ p ∷ [] else l)) (sym (eqb-suc-suc k j)) (at_name k p ls j l e)

-- those that are in the list, and after them those of the definitions
pub all_at : (i : ℕ) (ds : List Definition) (ls : List (List ℕ)) (k : ℕ) (l : List ℕ) → slice_get ls k ≡ Some l → slice_get (added_all i ds ls) k ≡ Some (l ++ places_from i k ds)
all_at i [] ls k l e = e ∙ ap Some (none l)
  where
    none : (xs : List ℕ) → xs ≡ xs ++ []
    none [] = refl
    none (x ∷ xs) = ap (λ (ys : List ℕ). x ∷ ys) (none xs)
all_at i (d ∷ ds) ls k l e = by (nat_eq d.name k) (all_at (i + 1) ds (added d.name i ls) k _ (at_name d.name i ls k l e))
  where
    further : (xs : List ℕ) (x : ℕ) (ys : List ℕ) → (xs ++ x ∷ []) ++ ys ≡ xs ++ (x ∷ ys)
    further [] x ys = refl
    further (z ∷ xs) x ys = ap (λ (zs : List ℕ). z ∷ zs) (further xs x ys)

    by : (b : Bool) → slice_get (added_all (i + 1) ds (added d.name i ls)) k ≡ Some ((if b then l ++ i ∷ [] else l) ++ places_from (i + 1) k ds) → slice_get (added_all (i + 1) ds (added d.name i ls)) k ≡ Some (l ++ (if b then i ∷ places_from (i + 1) k ds else places_from (i + 1) k ds))
    by true h = h ∙ ap Some (further l i (places_from (i + 1) k ds))
    by false h = h

as_many_added : (k p : ℕ) (ls : List (List ℕ)) → length (added k p ls) ≡ length ls
as_many_added k p [] = refl
as_many_added zero p (l ∷ ls) = refl
as_many_added (suc k) p (l ∷ ls) = ap suc (as_many_added k p ls)

pub as_many : (i : ℕ) (ds : List Definition) (ls : List (List ℕ)) → length (added_all i ds ls) ≡ length ls
as_many i [] ls = refl
as_many i (d ∷ ds) ls = as_many (i + 1) ds (added d.name i ls) ∙ as_many_added d.name i ls

pub empty_at : (n k : ℕ) → k < n → slice_get (no_places n) k ≡ Some []
empty_at zero k h = absurd (omega (arith, h))
empty_at (suc n) zero h = refl
empty_at (suc n) (suc k) h = empty_at n k (omega (arith, h))

pub count_empty : (n : ℕ) → length (no_places n) ≡ n
count_empty zero = refl
count_empty (suc n) = ap suc (count_empty n)

-- A list of lists in which one grows.
pub written : (k p : ℕ) (vs : List (Vec ℕ)) (v w : Vec ℕ) → k < length vs → v ≡ get_or vs k v → w.items ≡ v.items ++ p ∷ [] → lists (slice_set vs k w) ≡ added k p (lists vs)
written k p [] v w l e h = absurd (omega (arith, l))
written zero p (u ∷ vs) v w l e h = ap (λ (m : List ℕ). m ∷ lists vs) (h ∙ ap (λ (x : Vec ℕ). x.items ++ p ∷ []) e)
written (suc k) p (u ∷ vs) v w l e h = ap (λ (ls : List (List ℕ)). u.items ∷ ls) (written k p vs v w (omega (arith, l)) e h)

pub unwritten : (k p : ℕ) (vs : List (Vec ℕ)) → length vs ≤ k → added k p (lists vs) ≡ lists vs
unwritten k p [] h = refl
unwritten zero p (u ∷ vs) h = absurd (omega (arith, h))
unwritten (suc k) p (u ∷ vs) h = ap (λ (ls : List (List ℕ)). u.items ∷ ls) (unwritten k p vs (omega (arith, h)))

pub one_more : (vs : List (Vec ℕ)) (v : Vec ℕ) → v.items ≡ [] → (ls : List (List ℕ)) → lists (vs ++ v ∷ []) ++ ls ≡ lists vs ++ ([] ∷ ls)
one_more [] v h ls = ap (λ (l : List ℕ). l ∷ ls) h
one_more (u ∷ vs) v h ls = ap (λ (ms : List (List ℕ)). u.items ∷ ms) (one_more vs v h ls)

-- The names of these places.

standing_there : (i : ℕ) (ds : List Definition) (known own : List (List ℕ)) (k : ℕ) (l : List ℕ) → slice_get own k ≡ Some l → slice_get (standing_from i ds known own) k ≡ Some (standing_at ds (first_in (slice_get known (i + k))) l)
standing_there i ds known [] k l e = cc
standing_there i ds known (o ∷ os) zero l e = by o l cc
  where
    by : (x y : List ℕ) → x ≡ y → Some (standing_at ds (first_in (slice_get known i)) x) ≡ Some (standing_at ds (first_in (slice_get known (i + 0))) y)
    by x y h = subst (λ j. Some (standing_at ds (first_in (slice_get known i)) x) ≡ Some (standing_at ds (first_in (slice_get known j)) y)) (omega arith) (ap (λ z. Some (standing_at ds (first_in (slice_get known i)) z)) h)
standing_there i ds known (o ∷ os) (suc k) l e = subst (λ j. slice_get (standing_from (i + 1) ds known os) k ≡ Some (standing_at ds (first_in (slice_get known j)) l)) (omega arith) (standing_there (i + 1) ds known os k l e)

as_many_standing : (i : ℕ) (ds : List Definition) (known own : List (List ℕ)) → length (standing_from i ds known own) ≡ length own
as_many_standing i ds known [] = refl
as_many_standing i ds known (o ∷ os) = ap suc (as_many_standing (i + 1) ds known os)

as_many_mapped : (ns : List Name) → length (map standing ns) ≡ length ns
as_many_mapped [] = refl
as_many_mapped (n ∷ ns) = ap suc (as_many_mapped ns)

mapped_at : (ns : List Name) (k : ℕ) (n : Name) → slice_get ns k ≡ Some n → slice_get (map standing ns) k ≡ Some (standing n)
mapped_at [] k n e = cc
mapped_at (m ∷ ns) zero n e = ap standing_in e
  where
    standing_in : Option Name → Option Standing
    standing_in (Some x) = Some (standing x)
    standing_in None = None
mapped_at (m ∷ ns) (suc k) n e = mapped_at ns k n e

below : (ns : List Name) (k : ℕ) (n : Name) → slice_get ns k ≡ Some n → k < length ns
below [] k n e = cc
below (m ∷ ns) zero n e = omega arith
below (m ∷ ns) (suc k) n e = let h = below ns k n e in omega (arith, h)

pub are_names : (count : ℕ) (known definitions : List Definition) (names : List Name) → map standing names ≡ standing_from 0 definitions (added_all 0 known (no_places count)) (added_all 0 definitions (no_places count)) → AreNames count known definitions names
are_names count known ds names h = record { all = many; each = there }
  where
    places : List Definition → List (List ℕ)
    places es = added_all 0 es (no_places count)

    many : length names ≡ count
    many = sym (as_many_mapped names) ∙ ap length h ∙ as_many_standing 0 ds (places known) (places ds) ∙ as_many 0 ds (no_places count) ∙ count_empty count

    there : (k : ℕ) (n : Name) → slice_get names k ≡ Some n → standing n ≡ standing_at ds (first_of (places_of k known)) (places_of k ds)
    there k n e =
        let is_below = subst (λ m. k < m) many (below names k n e) in
        let given = standing_there 0 ds (places known) (places ds) k (places_of k ds) (found is_below ds) in
        one_of (slice_get (map standing names) k) _ _ (mapped_at names k n e) (ap (λ xs. slice_get xs k) h ∙ given ∙ ap (λ j. Some (standing_at ds (first_in (slice_get (places known) j)) (places_of k ds))) from_nought ∙ ap (λ o. Some (standing_at ds (first_in o) (places_of k ds))) (found is_below known))
      where
        from_nought : 0 + k ≡ k
        from_nought = omega arith

        found : k < count → (es : List Definition) → slice_get (places es) k ≡ Some (places_of k es)
        found l es = all_at 0 es (no_places count) k [] (empty_at count k l)
