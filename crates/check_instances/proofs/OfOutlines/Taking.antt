-- Rows are taken from the last on, and each brings its parts, which stand before it.
use Rattle.std.proofs.Common.{◌≡◌, ℕ, suc, ◌<◌, ◌≤◌, max, List, [], ◌∷◌, ◌++◌, Option, Some, None, ◌⊎◌, inl, inr, IfSome, Bool, true, false, Ordering, Less, Equal, Greater, nat_cmp, refl, sym, subst, arith}
use Rattle.std.specs.Prelude.{if◌then◌else◌, slice_get}
use Rattle.std.specs.BTreeSet.{insert_key}
use Rattle.std.specs.Cmp.{ranks}
use Rattle.std.specs.List.{All}
use Rattle.std.specs.Ordering.{match_ordering, MatchOrdering}
use Rattle.std.proofs.lemmas.List.Elements.{All-head, All-tail}
use Rattle.check_terms.specs.declared.row.Row.{Row}
use Rattle.check_terms.specs.Fill.Rows.{with_part}
use Rattle.check_terms.specs.Table.{Table, IsTable}
use Rattle.check_instances.specs.Lists.{IsIn}
use Rattle.check_instances.specs.Outlines.{is_reference, parts_after}

-- one above the greatest
abbrev pub bound : List ℕ → ℕ
bound [] = 0
bound (n ∷ ns) = max (suc n) (bound ns)

bound_inserted : (ns : List ℕ) (k b : ℕ) → bound ns ≤ b → k < b → bound (insert_key nat_cmp ns k) ≤ b
bound_inserted [] k b h l = omega (arith, l)
bound_inserted (n ∷ ns) k b h l = by (nat_cmp k n) (bound_inserted ns k b (omega (arith, h)) l)
  where
    by : (o : Ordering) → bound (insert_key nat_cmp ns k) ≤ b → bound (match_ordering o (k ∷ n ∷ ns) (n ∷ ns) (n ∷ insert_key nat_cmp ns k)) ≤ b
    by Less r = omega (arith, h, l)
    by Equal r = h
    by Greater r = omega (arith, h, r)

bound_with : (ns : List ℕ) (o : Option ℕ) (b : ℕ) → bound ns ≤ b → IfSome o (λ m. m < b) → bound (with_part ns o) ≤ b
bound_with ns None b h l = h
bound_with ns (Some n) b h l = bound_inserted ns n b h l

bound_of_parts : (t : Table) (ns : List ℕ) (k : ℕ) → IsTable t → bound ns ≤ k → bound (parts_after (slice_get t.rows k) ns) ≤ k
bound_of_parts t ns k is h = by (slice_get t.rows k) refl
  where
    by : (o : Option Row) → slice_get t.rows k ≡ o → bound (parts_after o ns) ≤ k
    by None e = h
    by (Some r) e = kind (is_reference r.form)
      where
        kind : (b : Bool) → bound (if b then ns else with_part (with_part ns r.first) r.second) ≤ k
        kind true = h
        kind false =
            let below = is.earlier k r e in
            bound_with (with_part ns r.first) r.second k (bound_with ns r.first k h below.1) below.2

less : (q k : ℕ) → nat_cmp q k ≡ Less → q < k
less q k e = subst (λ o. MatchOrdering o (q < k) (q ≡ k) (k < q)) e (ranks q k)

bound_below : (ns : List ℕ) (k : ℕ) → All (λ q. nat_cmp q k ≡ Less) ns → bound ns ≤ k
bound_below [] k h = omega arith
bound_below (n ∷ ns) k h =
    let first = less n k (All-head (λ q. nat_cmp q k ≡ Less) n ns h) in
    let rest = bound_below ns k (All-tail (λ q. nat_cmp q k ≡ Less) n ns h) in
    omega (arith, first, rest)

above_last : (ns : List ℕ) (k : ℕ) → k < bound (ns ++ k ∷ [])
above_last [] k = omega arith
above_last (n ∷ ns) k = let h = above_last ns k in omega (arith, h)

pub fewer : (t : Table) (k : ℕ) (numbers left : List ℕ) → IsTable t → numbers ≡ left ++ k ∷ [] → All (λ q. nat_cmp q k ≡ Less) left → bound (parts_after (slice_get t.rows k) left) < bound numbers
fewer t k numbers left is e below =
    let after = bound_of_parts t left k is (bound_below left k below) in
    let before = above_last left k in
    subst (λ ns. bound (parts_after (slice_get t.rows k) left) < bound ns) (sym e) (omega (arith, after, before))

-- Numbers that are put in.

inserted_cases : (ns : List ℕ) (k m : ℕ) → IsIn m (insert_key nat_cmp ns k) → IsIn m ns ⊎ (m ≡ k)
inserted_cases [] k m (inl e) = inr e
inserted_cases [] k m (inr h) = absurd h
inserted_cases (n ∷ ns) k m h = by (nat_cmp k n) h (inserted_cases ns k m)
  where
    later : IsIn m ns ⊎ (m ≡ k) → IsIn m (n ∷ ns) ⊎ (m ≡ k)
    later (inl g) = inl (inr g)
    later (inr e) = inr e

    by : (o : Ordering) → IsIn m (match_ordering o (k ∷ n ∷ ns) (n ∷ ns) (n ∷ insert_key nat_cmp ns k)) → (IsIn m (insert_key nat_cmp ns k) → IsIn m ns ⊎ (m ≡ k)) → IsIn m (n ∷ ns) ⊎ (m ≡ k)
    by Less (inl e) r = inr e
    by Less (inr g) r = inl g
    by Equal g r = inl g
    by Greater (inl e) r = inl (inl e)
    by Greater (inr g) r = later (r g)

pub part_cases : (P : ℕ → Type 0) (ns : List ℕ) (o : Option ℕ) → ((m : ℕ) → IsIn m ns → P m) → IfSome o P → (m : ℕ) → IsIn m (with_part ns o) → P m
part_cases P ns None h k m g = h m g
part_cases P ns (Some n) h k m g = by (inserted_cases ns n m g)
  where
    by : IsIn m ns ⊎ (m ≡ n) → P m
    by (inl i) = h m i
    by (inr e) = subst P (sym e) k
