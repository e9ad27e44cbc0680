-- Rows that are added to the lists of their names.
use Rattle.std.proofs.Common.{◌≡◌, ℕ, zero, suc, ◌+◌, ◌-◌, ◌<◌, ◌≤◌, Bool, true, false, if◌then◌else◌, List, [], ◌∷◌, ◌++◌, length, Option, Some, None, refl, sym, ap, subst, ◌∙◌, slice_get, slice_set, get_or, nat_eq, arith}
use Rattle.std.proofs.Math.Dec.{eqb-suc-suc, eqb-suc-zero, eqb-zero-suc}
use Rattle.std.specs.Global.{Vec}
use Rattle.check_terms.specs.declared.row.Row.{Row}
use Rattle.check_names.specs.Environment.Places.{added, lists, no_places}
use Rattle.check_instances.specs.declared.found.Instance.{Instance}
use Rattle.check_reached.specs.Calls.{calls_named, has_number, name_number, with_calls, with_number}

pub next_empty : (i n : ℕ) → i < n → no_places (n - i) ≡ [] ∷ no_places (n - (i + 1))
next_empty i n h = ap no_places step
  where
    step : n - i ≡ suc (n - (i + 1))
    step = omega (arith, h)

pub one_more : (vs : List (Vec ℕ)) (v : Vec ℕ) → v.items ≡ [] → (ls : List (List ℕ)) → lists (vs ++ v ∷ []) ++ ls ≡ lists vs ++ ([] ∷ ls)
one_more [] v h ls = ap (λ (l : List ℕ). l ∷ ls) h
one_more (u ∷ vs) v h ls = ap (λ (ms : List (List ℕ)). u.items ∷ ms) (one_more vs v h ls)

pub written : (k p : ℕ) (vs : List (Vec ℕ)) (v w : Vec ℕ) → k < length vs → v ≡ get_or vs k v → w.items ≡ v.items ++ p ∷ [] → lists (slice_set vs k w) ≡ added k p (lists vs)
written k p [] v w l e h = absurd (omega (arith, l))
written zero p (u ∷ vs) v w l e h = ap (λ (m : List ℕ). m ∷ lists vs) (h ∙ ap (λ (x : Vec ℕ). x.items ++ p ∷ []) e)
written (suc k) p (u ∷ vs) v w l e h = ap (λ (ls : List (List ℕ)). u.items ∷ ls) (written k p vs v w (omega (arith, l)) e h)

pub unwritten : (k p : ℕ) (vs : List (Vec ℕ)) → length vs ≤ k → added k p (lists vs) ≡ lists vs
unwritten k p [] h = refl
unwritten zero p (u ∷ vs) h = absurd (omega (arith, h))
unwritten (suc k) p (u ∷ vs) h = ap (λ (ls : List (List ℕ)). u.items ∷ ls) (unwritten k p vs (omega (arith, h)))

at_name : (k p : ℕ) (ls : List (List ℕ)) (j : ℕ) (l : List ℕ) → slice_get ls j ≡ Some l → slice_get (added k p ls) j ≡ Some (if nat_eq k j then l ++ p ∷ [] else l)
at_name k p [] j l e = cc
at_name zero p (m ∷ ls) zero l e = ap (λ (o : Option (List ℕ)). with_place o) e
  where
    with_place : Option (List ℕ) → Option (List ℕ)
    with_place (Some x) = Some (x ++ p ∷ [])
    with_place None = None
at_name zero p (m ∷ ls) (suc j) l e = subst (λ b. slice_get ls j ≡ Some (if b then l ++ p ∷ [] else l)) (sym (eqb-zero-suc j)) e
at_name (suc k) p (m ∷ ls) zero l e = subst (λ b. Some m ≡ Some (if b then l ++ p ∷ [] else l)) (sym (eqb-suc-zero k)) e
at_name (suc k) p (m ∷ ls) (suc j) l e = subst (λ b. slice_get (added k p ls) j ≡ Some (if b then l ++ p ∷ [] else l)) (sym (eqb-suc-suc k j)) (at_name k p ls j l e)

none : (xs : List ℕ) → xs ≡ xs ++ []
none [] = refl
none (x ∷ xs) = ap (λ (ys : List ℕ). x ∷ ys) (none xs)

further : (xs : List ℕ) (x : ℕ) (ys : List ℕ) → (xs ++ x ∷ []) ++ ys ≡ xs ++ (x ∷ ys)
further [] x ys = refl
further (z ∷ xs) x ys = ap (λ (zs : List ℕ). z ∷ zs) (further xs x ys)

-- those that are in the list, and after them those of the instances
calls_at : (rows : List Row) (is : List Instance) (ls : List (List ℕ)) (k : ℕ) (l : List ℕ) → slice_get ls k ≡ Some l → slice_get (with_calls rows is ls) k ≡ Some (l ++ calls_named rows k is)
calls_at rows [] ls k l e = e ∙ ap Some (none l)
calls_at rows (i ∷ is) ls k l e = by (name_number rows i.call) (calls_at rows is)
  where
    by : (o : Option ℕ) → ((ms : List (List ℕ)) (j : ℕ) (m : List ℕ) → slice_get ms j ≡ Some m → slice_get (with_calls rows is ms) j ≡ Some (m ++ calls_named rows j is)) → slice_get (with_calls rows is (with_number o i.call ls)) k ≡ Some (l ++ (if has_number k o then i.call ∷ calls_named rows k is else calls_named rows k is))
    by None so = so ls k l e
    by (Some m) so = last (nat_eq m k) (so (added m i.call ls) k _ (at_name m i.call ls k l e))
      where
        last : (b : Bool) → slice_get (with_calls rows is (added m i.call ls)) k ≡ Some ((if b then l ++ i.call ∷ [] else l) ++ calls_named rows k is) → slice_get (with_calls rows is (added m i.call ls)) k ≡ Some (l ++ (if b then i.call ∷ calls_named rows k is else calls_named rows k is))
        last true h = h ∙ ap Some (further l i.call (calls_named rows k is))
        last false h = h

empty_at : (n k : ℕ) → k < n → slice_get (no_places n) k ≡ Some []
empty_at zero k h = absurd (omega (arith, h))
empty_at (suc n) zero h = refl
empty_at (suc n) (suc k) h = empty_at n k (omega (arith, h))

-- the list of a name
pub listed : (rows : List Row) (is : List Instance) (n k : ℕ) → k < n → slice_get (with_calls rows is (no_places n)) k ≡ Some (calls_named rows k is)
listed rows is n k h = calls_at rows is (no_places n) k [] (empty_at n k h)
