-- What is looked up of rows.
use Rattle.std.proofs.Common.{◌≡◌, ℕ, zero, suc, ◌+◌, ◌-◌, ◌<◌, ◌≤◌, ◌⊎◌, inl, inr, true, false, List, [], ◌∷◌, length, Option, Some, None, IfSome, slice_get, slice_set, refl, sym, ap, ◌∙◌, subst, arith}
use Rattle.std.specs.Prelude.{Contains, unwrap_or}
use Rattle.std.proofs.lemmas.Option.{none-some, same_Some, slice_get-get_or}
use Rattle.lists.proofs.Lemmas.{get_front as get_before, get_last, length_push}
use borrow.Author.Count.{below_more}
use Rattle.cddl_language.specs.Terms as L
use Rattle.cddl_language.specs.Terms.{number, text, bytes, Term, literal, named, parens, map_of, array_of, unwrapped, choice_of, choice_of_name, tagged, tagged_by, simple_by, hash, range, control, or, Ref, stripped}
use Rattle.cddl_meaning.specs.Alike.{AlikeAll}
use Rattle.check_terms.specs.Table.{IsTable, Table, Tree, Holds, part}
use Rattle.check_terms.specs.Trees.{IsTerm, IsRef, ref_tree, term_tree}
use Rattle.check_instances.specs.declared.closed.closed.Meaning.{Meaning}
use Rattle.check_instances.specs.Closed.Closed.{ArePlaces, AreStripped, IsMeaning}
use Rattle.check_instances.specs.Closed.Looking.{all_out, no_places, out_by, out_of, parens_at, parens_in, placed, placed_all}
use Rattle.check_instances.proofs.OfClosed.Alike.{alike_at, alike_back}
use Rattle.check_instances.proofs.OfClosed.Walks.{something, term_node}

-- Places.

no_place : (count n k : ℕ) → slice_get (no_places count) n ≡ Some (Some k) → ⊥
no_place zero n k e = none-some (Some k) e
no_place (suc count) zero k e = none-some k (same_Some None (Some k) e)
no_place (suc count) (suc n) k e = no_place count n k e

as_many_empty : (count : ℕ) → length (no_places count) ≡ count
as_many_empty zero = refl
as_many_empty (suc count) = ap suc (as_many_empty count)

as_many_placed : (n p : ℕ) (os : List (Option ℕ)) → length (placed n p os) ≡ length os
as_many_placed n p [] = refl
as_many_placed zero p (o ∷ os) = refl
as_many_placed (suc n) p (o ∷ os) = ap suc (as_many_placed n p os)

as_many : (i : ℕ) (ms : List Meaning) (os : List (Option ℕ)) → length (placed_all i ms os) ≡ length os
as_many i [] os = refl
as_many i (m ∷ ms) os = as_many (i + 1) ms (placed m.call i os) ∙ as_many_placed m.call i os

placed_cases : (c i : ℕ) (os : List (Option ℕ)) (n k : ℕ) → slice_get (placed c i os) n ≡ Some (Some k) → (slice_get os n ≡ Some (Some k)) ⊎ ((c ≡ n) × (k ≡ i))
placed_cases c i [] n k e = inl e
placed_cases zero i (o ∷ os) zero k e = inr (refl, sym (same_Some i k (same_Some (Some i) (Some k) e)))
placed_cases zero i (o ∷ os) (suc n) k e = inl e
placed_cases (suc c) i (o ∷ os) zero k e = inl e
placed_cases (suc c) i (o ∷ os) (suc n) k e = by (placed_cases c i os n k e)
  where
    by : (slice_get os n ≡ Some (Some k)) ⊎ ((c ≡ n) × (k ≡ i)) → (slice_get os n ≡ Some (Some k)) ⊎ ((suc c ≡ suc n) × (k ≡ i))
    by (inl f) = inl f
    by (inr q) = inr (ap suc q.0, q.1)

placed_stays : (c i : ℕ) (os : List (Option ℕ)) (n k : ℕ) → slice_get os n ≡ Some (Some k) → (j : ℕ) × (slice_get (placed c i os) n ≡ Some (Some j))
placed_stays c i [] n k e = (k, e)
placed_stays zero i (o ∷ os) zero k e = (i, refl)
placed_stays zero i (o ∷ os) (suc n) k e = (k, e)
placed_stays (suc c) i (o ∷ os) zero k e = (k, e)
placed_stays (suc c) i (o ∷ os) (suc n) k e = placed_stays c i os n k e

placed_there : (c i : ℕ) (os : List (Option ℕ)) → c < length os → slice_get (placed c i os) c ≡ Some (Some i)
placed_there c i [] l = absurd (omega (arith, l))
placed_there zero i (o ∷ os) l = refl
placed_there (suc c) i (o ∷ os) l = placed_there c i os (omega (arith, l))

all_stay : (i : ℕ) (ms : List Meaning) (os : List (Option ℕ)) (n k : ℕ) → slice_get os n ≡ Some (Some k) → (j : ℕ) × (slice_get (placed_all i ms os) n ≡ Some (Some j))
all_stay i [] os n k e = (k, e)
all_stay i (m ∷ ms) os n k e = let q = placed_stays m.call i os n k e in all_stay (i + 1) ms (placed m.call i os) n q.0 q.1

all_there : (i : ℕ) (ms : List Meaning) (os : List (Option ℕ)) (j : ℕ) (m : Meaning) → slice_get ms j ≡ Some m → m.call < length os → (k : ℕ) × (slice_get (placed_all i ms os) m.call ≡ Some (Some k))
all_there i [] os j m e l = absurd (none-some m e)
all_there i (h ∷ ms) os zero m e l =
    let same = same_Some h m e in
    subst (λ (g : Meaning). (k : ℕ) × (slice_get (placed_all (i + 1) ms (placed h.call i os)) g.call ≡ Some (Some k))) same (all_stay (i + 1) ms (placed h.call i os) h.call i (placed_there h.call i os (subst (λ (g : Meaning). g.call < length os) (sym same) l)))
all_there i (h ∷ ms) os (suc j) m e l = all_there (i + 1) ms (placed h.call i os) j m e (subst (λ (c : ℕ). m.call < c) (sym (as_many_placed h.call i os)) l)

pub placed_written : (n p : ℕ) (os : List (Option ℕ)) → n < length os → slice_set os n (Some p) ≡ placed n p os
placed_written n p [] l = absurd (omega (arith, l))
placed_written zero p (o ∷ os) l = refl
placed_written (suc n) p (o ∷ os) l = ap (λ (ps : List (Option ℕ)). o ∷ ps) (placed_written n p os (omega (arith, l)))

pub none_placed : (n p : ℕ) (os : List (Option ℕ)) → length os ≤ n → os ≡ placed n p os
none_placed n p [] l = refl
none_placed zero p (o ∷ os) l = absurd (omega (arith, l))
none_placed (suc n) p (o ∷ os) l = ap (λ (ps : List (Option ℕ)). o ∷ ps) (none_placed n p os (omega (arith, l)))

pub next_empty : (i n : ℕ) → i < n → no_places (n - i) ≡ None ∷ no_places (n - (i + 1))
next_empty i n h = ap no_places step
  where
    step : n - i ≡ suc (n - (i + 1))
    step = omega (arith, h)

-- a place that is told is that of a meaning with this row
record IsTold (i : ℕ) (ms : List Meaning) (n k : ℕ) : Type 0 where
  at : ℕ
  place : k ≡ i + at
  meaning : Meaning
  there : slice_get ms at ≡ Some meaning
  row : meaning.call ≡ n

all_told : (i : ℕ) (ms : List Meaning) (os : List (Option ℕ)) (n k : ℕ) → slice_get (placed_all i ms os) n ≡ Some (Some k) → (slice_get os n ≡ Some (Some k)) ⊎ IsTold i ms n k
all_told i [] os n k e = inl e
all_told i (m ∷ ms) os n k e = by (all_told (i + 1) ms (placed m.call i os) n k e)
  where
    first : (slice_get os n ≡ Some (Some k)) ⊎ ((m.call ≡ n) × (k ≡ i)) → (slice_get os n ≡ Some (Some k)) ⊎ IsTold i (m ∷ ms) n k
    first (inl f) = inl f
    first (inr q) = inr (record { at = 0; place = let f = q.1 in omega (arith, f); meaning = m; there = refl; row = q.0 })

    by : (slice_get (placed m.call i os) n ≡ Some (Some k)) ⊎ IsTold (i + 1) ms n k → (slice_get os n ≡ Some (Some k)) ⊎ IsTold i (m ∷ ms) n k
    by (inl f) = first (placed_cases m.call i os n k f)
    by (inr q) = inr (record { at = suc q.at; place = let f = q.place in omega (arith, f); meaning = q.meaning; there = q.there; row = q.row })

pub are_places : (xs : List L.Definition) (t : Table) → ((n m : Option ℕ) (x : Tree) → Holds t n x → Holds t m x → n ≡ m) → ((n : ℕ) (x : Tree) → Holds t (Some n) x → n < length t.rows) → (refs : List Ref) (ms : List Meaning) → AlikeAll (IsMeaning xs t) refs ms → (count : ℕ) → count ≡ length t.rows → ArePlaces t refs (placed_all 0 ms (no_places count))
are_places xs t one within refs ms alike count same = record {
  all = as_many 0 ms (no_places count) ∙ as_many_empty count ∙ same;
  told = λ n k e. told n k (all_told 0 ms (no_places count) n k e);
  found = found;
}
  where
    told : (n k : ℕ) → (slice_get (no_places count) n ≡ Some (Some k)) ⊎ IsTold 0 ms n k → (r : Ref) × (slice_get refs k ≡ Some r) × IsRef t n r
    told n k (inl f) = absurd (no_place count n k f)
    told n k (inr q) =
        let b = alike_back (IsMeaning xs t) refs ms alike q.at q.meaning q.there in
        let p = q.place in
        let place : q.at ≡ k = omega (arith, p) in
        (b.0, subst (λ (j : ℕ). slice_get refs j ≡ Some b.0) place b.1, subst (λ (m : ℕ). IsRef t m b.0) q.row b.2.ref)

    found : (n : ℕ) (r : Ref) → IsRef t n r → Contains refs r → (k : ℕ) × (slice_get (placed_all 0 ms (no_places count)) n ≡ Some (Some k))
    found n r h c =
        let e : slice_get refs c.0 ≡ Some r = slice_get-get_or refs c.0 r c.1 ∙ ap Some c.2 in
        let b = alike_at (IsMeaning xs t) refs ms alike c.0 r e in
        let row : b.0.call ≡ n = same_Some b.0.call n (one (Some b.0.call) (Some n) (ref_tree r) b.2.ref h) in
        let l = within n (ref_tree r) h in
        let empty = as_many_empty count in
        subst (λ (m : ℕ). (k : ℕ) × (slice_get (placed_all 0 ms (no_places count)) m ≡ Some (Some k))) row (all_there 0 ms (no_places count) c.0 b.0 b.1 (omega (arith, row, l, empty, same)))

-- Parentheses.

module _ (t : Table) (is : IsTable t) where
  -- a type in parentheses, or another
  data IsStripping (n : ℕ) : Term → Type 0 where
    plain : {u : Term} → parens_at t.rows n ≡ None → stripped u ≡ u → IsStripping n u
    inner : {u : Term} (i : ℕ) → parens_at t.rows n ≡ Some i → IsTerm t i u → i < n → IsStripping n (parens u)

  below : (n : ℕ) (o : Option ℕ) → IfSome o (λ m. m < n) → (i : ℕ) → o ≡ Some i → i < n
  below n o h i e = subst (λ p. IfSome p (λ m. m < n)) e h

  stripping : (n : ℕ) (u : Term) → IsTerm t n u → IsStripping n u
  stripping n (parens u) (part {i = o} e d a b) =
      let q = something t o (term_tree u) (term_node u) a in
      inner q.0 (ap parens_in e ∙ q.1) (subst (λ p. Holds t p (term_tree u)) q.1 a) (below n o (is.earlier n _ e).1 q.0 q.1)
  stripping n (or u v) (part e d a b) = plain (ap parens_in e) refl
  stripping n (literal (number x)) (part e d a b) = plain (ap parens_in e) refl
  stripping n (literal (text x)) (part e d a b) = plain (ap parens_in e) refl
  stripping n (literal (bytes x)) (part e d a b) = plain (ap parens_in e) refl
  stripping n (named r) (part e d a b) = plain (ap parens_in e) refl
  stripping n (map_of g) (part e d a b) = plain (ap parens_in e) refl
  stripping n (array_of g) (part e d a b) = plain (ap parens_in e) refl
  stripping n (unwrapped r) (part e d a b) = plain (ap parens_in e) refl
  stripping n (choice_of g) (part e d a b) = plain (ap parens_in e) refl
  stripping n (choice_of_name r) (part e d a b) = plain (ap parens_in e) refl
  stripping n (tagged x u) (part e d a b) = plain (ap parens_in e) refl
  stripping n (tagged_by h u) (part e d a b) = plain (ap parens_in e) refl
  stripping n (simple_by h) (part e d a b) = plain (ap parens_in e) refl
  stripping n (hash x) (part e d a b) = plain (ap parens_in e) refl
  stripping n (range u true v) (part e d a b) = plain (ap parens_in e) refl
  stripping n (range u false v) (part e d a b) = plain (ap parens_in e) refl
  stripping n (control u x v) (part e d a b) = plain (ap parens_in e) refl

  as_many_out : (k : ℕ) → length (all_out t.rows k) ≡ k
  as_many_out zero = refl
  as_many_out (suc k) = length_push (all_out t.rows k) (out_of t.rows (all_out t.rows k) k) ∙ ap suc (as_many_out k)

  abbrev IsOut : List ℕ → ℕ → Type 0
  IsOut done n = (u : Term) → IsTerm t n u → (m : ℕ) × (slice_get done n ≡ Some m) × IsTerm t m (stripped u)

  out : (k : ℕ) (done : List ℕ) → ((n : ℕ) → n < k → IsOut done n) → (u : Term) → IsTerm t k u → (m : ℕ) × (out_of t.rows done k ≡ m) × IsTerm t m (stripped u)
  out k done before u h = by u h (stripping k u h)
    where
      by : (v : Term) → IsTerm t k v → IsStripping k v → (m : ℕ) × (out_of t.rows done k ≡ m) × IsTerm t m (stripped v)
      by v g (plain e f) = (k, ap (out_by done k) e, subst (IsTerm t k) (sym f) g)
      by v g (inner {u = w} i e p l) = let q = before i l w p in (q.0, ap (out_by done k) e ∙ ap (λ (o : Option ℕ). unwrap_or o k) q.1, q.2)

  all_right : (k n : ℕ) → n < k → IsOut (all_out t.rows k) n
  all_right zero n l = absurd (omega (arith, l))
  all_right (suc k) n l = below_more (IsOut (all_out t.rows (suc k))) k (λ i h. further i (all_right k i h)) (last (out k (all_out t.rows k) (all_right k))) n (omega (arith, l))
    where
      further : (i : ℕ) → IsOut (all_out t.rows k) i → IsOut (all_out t.rows (suc k)) i
      further i f = λ u h. let q = f u h in (q.0, get_before (all_out t.rows k) (out_of t.rows (all_out t.rows k) k ∷ []) i q.0 q.1, q.2)

      last : ((u : Term) → IsTerm t k u → (m : ℕ) × (out_of t.rows (all_out t.rows k) k ≡ m) × IsTerm t m (stripped u)) → IsOut (all_out t.rows (suc k)) k
      last f = λ u h. let q = f u h in (q.0, get_last (all_out t.rows k) (out_of t.rows (all_out t.rows k) k) k (as_many_out k) ∙ ap Some q.1, q.2)

  pub are_stripped : ((n : ℕ) (x : Tree) → Holds t (Some n) x → n < length t.rows) → AreStripped t (all_out t.rows (length t.rows))
  are_stripped within = record {
    all = as_many_out (length t.rows);
    each = λ n u h. all_right (length t.rows) n (within n (term_tree u) h) u h;
  }
