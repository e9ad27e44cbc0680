-- The rows of a body are taken from the last on, and each brings its parts, which stand before it.
use Rattle.std.proofs.Common.{◌≡◌, ℕ, suc, ◌<◌, ◌≤◌, max, List, [], ◌∷◌, ◌++◌, Option, Some, None, ◌⊎◌, inl, inr, IfSome, Ordering, Less, Equal, Greater, nat_cmp, refl, sym, subst, arith}
use Rattle.std.specs.Prelude.{slice_get}
use Rattle.std.specs.BTreeSet.{insert_key}
use Rattle.std.specs.Cmp.{ranks}
use Rattle.std.specs.List.{All}
use Rattle.std.specs.Ordering.{match_ordering, MatchOrdering}
use Rattle.std.proofs.lemmas.List.Elements.{All-head, All-tail}
use Rattle.check_terms.specs.declared.row.Row.{Row}
use Rattle.check_terms.specs.Table.{Table, IsTable}
use Rattle.check_terms.specs.Fill.Rows.{IsAmong, IsUnfolded, PartsAre, PartsFollow, with_part, with_parts, with_parts_of}

-- one above the greatest
abbrev pub bound : List ℕ → ℕ
bound [] = 0
bound (n ∷ ns) = max (suc n) (bound ns)

abbrev pub Kept : (ℕ → Type 0) → (ℕ → Type 0) → Type 0
Kept P Q = (n : ℕ) → P n → Q n

some_then : (P Q : ℕ → Type 0) → Kept P Q → (o : Option ℕ) → IfSome o P → IfSome o Q
some_then P Q f None h = tt
some_then P Q f (Some n) h = f n h

parts_then : (t : Table) (P Q : ℕ → Type 0) → Kept P Q → (n : ℕ) → PartsAre t P n → PartsAre t Q n
parts_then t P Q f n h = λ r e. (some_then P Q f r.first (h r e).0, some_then P Q f r.second (h r e).1)

-- Numbers in lists.

pub among_left : (ns ms : List ℕ) (m : ℕ) → IsAmong m ns → IsAmong m (ns ++ ms)
among_left [] ms m h = absurd h
among_left (n ∷ ns) ms m (inl e) = inl e
among_left (n ∷ ns) ms m (inr h) = inr (among_left ns ms m h)

pub among_last : (ns : List ℕ) (n : ℕ) → IsAmong n (ns ++ n ∷ [])
among_last [] n = inl refl
among_last (m ∷ ns) n = inr (among_last ns n)

pub among_cases : (ns : List ℕ) (n m : ℕ) → IsAmong m (ns ++ n ∷ []) → (m ≡ n) ⊎ IsAmong m ns
among_cases [] n m (inl e) = inl e
among_cases [] n m (inr h) = absurd h
among_cases (k ∷ ns) n m (inl e) = inr (inl e)
among_cases (k ∷ ns) n m (inr h) = elim (among_cases ns n m h) [ inl e ↦ inl e | inr g ↦ inr (inr g) ]

inserted : (ns : List ℕ) (k : ℕ) → IsAmong k (insert_key nat_cmp ns k)
inserted [] k = inl refl
inserted (n ∷ ns) k = by (nat_cmp k n) (ranks k n) (inserted ns k)
  where
    by : (o : Ordering) → MatchOrdering o (k < n) (k ≡ n) (n < k) → IsAmong k (insert_key nat_cmp ns k) → IsAmong k (match_ordering o (k ∷ n ∷ ns) (n ∷ ns) (n ∷ insert_key nat_cmp ns k))
    by Less h r = inl refl
    by Equal h r = inl h
    by Greater h r = inr r

others : (ns : List ℕ) (k m : ℕ) → IsAmong m ns → IsAmong m (insert_key nat_cmp ns k)
others [] k m h = absurd h
others (n ∷ ns) k m h = by (nat_cmp k n) h (λ g. others ns k m g)
  where
    by : (o : Ordering) → IsAmong m (n ∷ ns) → (IsAmong m ns → IsAmong m (insert_key nat_cmp ns k)) → IsAmong m (match_ordering o (k ∷ n ∷ ns) (n ∷ ns) (n ∷ insert_key nat_cmp ns k))
    by Less g r = inr g
    by Equal g r = g
    by Greater (inl e) r = inl e
    by Greater (inr g) r = inr (r g)

bound_inserted : (ns : List ℕ) (k b : ℕ) → bound ns ≤ b → k < b → bound (insert_key nat_cmp ns k) ≤ b
bound_inserted [] k b h l = omega (arith, l)
bound_inserted (n ∷ ns) k b h l = by (nat_cmp k n) (bound_inserted ns k b (omega (arith, h)) l)
  where
    by : (o : Ordering) → bound (insert_key nat_cmp ns k) ≤ b → bound (match_ordering o (k ∷ n ∷ ns) (n ∷ ns) (n ∷ insert_key nat_cmp ns k)) ≤ b
    by Less r = omega (arith, h, l)
    by Equal r = h
    by Greater r = omega (arith, h, r)

-- Parts among the others.

part_in : (ns : List ℕ) (o : Option ℕ) → IfSome o (λ m. IsAmong m (with_part ns o))
part_in ns None = tt
part_in ns (Some n) = inserted ns n

others_in : (ns : List ℕ) (o : Option ℕ) (m : ℕ) → IsAmong m ns → IsAmong m (with_part ns o)
others_in ns None m h = h
others_in ns (Some n) m h = others ns n m h

bound_with : (ns : List ℕ) (o : Option ℕ) (b : ℕ) → bound ns ≤ b → IfSome o (λ m. m < b) → bound (with_part ns o) ≤ b
bound_with ns None b h l = h
bound_with ns (Some n) b h l = bound_inserted ns n b h l

module _ (t : Table) (ns : List ℕ) (k : ℕ) where
  pub parts_in : PartsAre t (λ m. IsAmong m (with_parts t.rows ns k)) k
  parts_in r e = subst (λ (q : Option Row). IfSome r.first (λ m. IsAmong m (with_parts_of ns q)) × IfSome r.second (λ m. IsAmong m (with_parts_of ns q))) (sym e) (some_then _ _ (λ m h. others_in (with_part ns r.first) r.second m h) r.first (part_in ns r.first), part_in (with_part ns r.first) r.second)

  pub others_stay : (m : ℕ) → IsAmong m ns → IsAmong m (with_parts t.rows ns k)
  others_stay m h = by (slice_get t.rows k)
    where
      by : (o : Option Row) → IsAmong m (with_parts_of ns o)
      by None = h
      by (Some r) = others_in (with_part ns r.first) r.second m (others_in ns r.first m h)

  pub bound_of_parts : IsTable t → bound ns ≤ k → bound (with_parts t.rows ns k) ≤ k
  bound_of_parts is h = by (slice_get t.rows k) refl
    where
      by : (o : Option Row) → slice_get t.rows k ≡ o → bound (with_parts_of ns o) ≤ k
      by None e = h
      by (Some r) e =
          let below = is.earlier k r e in
          bound_with (with_part ns r.first) r.second k (bound_with ns r.first k h below.1) below.2

less : (q k : ℕ) → nat_cmp q k ≡ Less → q < k
less q k e = subst (λ o. MatchOrdering o (q < k) (q ≡ k) (k < q)) e (ranks q k)

pub bound_below : (ns : List ℕ) (k : ℕ) → All (λ q. nat_cmp q k ≡ Less) ns → bound ns ≤ k
bound_below [] k h = omega arith
bound_below (n ∷ ns) k h =
    let first = less n k (All-head (λ q. nat_cmp q k ≡ Less) n ns h) in
    let rest = bound_below ns k (All-tail (λ q. nat_cmp q k ≡ Less) n ns h) in
    omega (arith, first, rest)

pub above_last : (ns : List ℕ) (k : ℕ) → k < bound (ns ++ k ∷ [])
above_last [] k = omega arith
above_last (n ∷ ns) k = let h = above_last ns k in omega (arith, h)

-- One more row at the end, or one less.

pub follows_on : (t : Table) (P Q : ℕ → Type 0) (k : ℕ) → ((m : ℕ) → P m → (m ≡ k) ⊎ Q m) → PartsAre t Q k → (ns : List ℕ) → PartsFollow t P ns → PartsFollow t Q (ns ++ k ∷ [])
follows_on t P Q k kept parts [] h = (parts_then t Q (λ m. IsAmong m [] ⊎ Q m) (λ m g. inr g) k parts, tt)
follows_on t P Q k kept parts (n ∷ ns) h = (parts_then t (λ m. IsAmong m ns ⊎ P m) (λ m. IsAmong m (ns ++ k ∷ []) ⊎ Q m) more n h.0, follows_on t P Q k kept parts ns h.1)
  where
    last : (m : ℕ) → (m ≡ k) ⊎ Q m → IsAmong m (ns ++ k ∷ []) ⊎ Q m
    last m (inl e) = inl (subst (λ i. IsAmong i (ns ++ k ∷ [])) (sym e) (among_last ns k))
    last m (inr g) = inr g

    more : (m : ℕ) → IsAmong m ns ⊎ P m → IsAmong m (ns ++ k ∷ []) ⊎ Q m
    more m (inl g) = inl (among_left ns (k ∷ []) m g)
    more m (inr g) = last m (kept m g)

pub last_parts : (t : Table) (P : ℕ → Type 0) (k : ℕ) (ns : List ℕ) → PartsFollow t P (ns ++ k ∷ []) → PartsAre t P k
last_parts t P k [] h = parts_then t (λ m. IsAmong m [] ⊎ P m) P (λ m. ⊎_elim_none m) k h.0
  where
    ⊎_elim_none : (m : ℕ) → IsAmong m [] ⊎ P m → P m
    ⊎_elim_none m (inl g) = absurd g
    ⊎_elim_none m (inr g) = g
last_parts t P k (n ∷ ns) h = last_parts t P k ns h.1

pub follows_back : (t : Table) (P Q : ℕ → Type 0) (k : ℕ) → Kept P Q → Q k → (ns : List ℕ) → PartsFollow t P (ns ++ k ∷ []) → PartsFollow t Q ns
follows_back t P Q k kept it [] h = tt
follows_back t P Q k kept it (n ∷ ns) h = (parts_then t (λ m. IsAmong m (ns ++ k ∷ []) ⊎ P m) (λ m. IsAmong m ns ⊎ Q m) less_one n h.0, follows_back t P Q k kept it ns h.1)
  where
    before : (m : ℕ) → (m ≡ k) ⊎ IsAmong m ns → IsAmong m ns ⊎ Q m
    before m (inl e) = inr (subst Q (sym e) it)
    before m (inr g) = inl g

    less_one : (m : ℕ) → IsAmong m (ns ++ k ∷ []) ⊎ P m → IsAmong m ns ⊎ Q m
    less_one m (inl g) = before m (among_cases ns k m g)
    less_one m (inr g) = inr (kept m g)

pub follows_then : (t : Table) (P Q : ℕ → Type 0) → Kept P Q → (ns : List ℕ) → PartsFollow t P ns → PartsFollow t Q ns
follows_then t P Q kept [] h = tt
follows_then t P Q kept (n ∷ ns) h = (parts_then t (λ m. IsAmong m ns ⊎ P m) (λ m. IsAmong m ns ⊎ Q m) more n h.0, follows_then t P Q kept ns h.1)
  where
    more : (m : ℕ) → IsAmong m ns ⊎ P m → IsAmong m ns ⊎ Q m
    more m (inl g) = inl g
    more m (inr g) = inr (kept m g)

-- Some rows are taken, and these numbers are to be taken.

pub record IsTaken (t : Table) (body : ℕ) (numbers taken : List ℕ) : Type 0 where
  pub begins : IsAmong body taken ⊎ IsAmong body numbers
  pub follow : PartsFollow t (λ m. IsAmong m numbers) taken

pub none_taken : (t : Table) (body : ℕ) → IsTaken t body (with_part [] (Some body)) []
none_taken t body = record { begins = inr (inl refl); follow = tt }

pub one_taken : (t : Table) (body k : ℕ) (numbers left taken : List ℕ) → numbers ≡ left ++ k ∷ [] → IsTaken t body numbers taken → IsTaken t body (with_parts t.rows left k) (taken ++ k ∷ [])
one_taken t body k numbers left taken e h = record {
  begins = begins h.begins;
  follow = follows_on t (λ m. IsAmong m numbers) (λ m. IsAmong m (with_parts t.rows left k)) k kept (parts_in t left k) taken h.follow;
}
  where
    stays : (m : ℕ) → (m ≡ k) ⊎ IsAmong m left → (m ≡ k) ⊎ IsAmong m (with_parts t.rows left k)
    stays m (inl f) = inl f
    stays m (inr g) = inr (others_stay t left k m g)

    kept : (m : ℕ) → IsAmong m numbers → (m ≡ k) ⊎ IsAmong m (with_parts t.rows left k)
    kept m g = stays m (among_cases left k m (subst (IsAmong m) e g))

    last : (body ≡ k) ⊎ IsAmong body (with_parts t.rows left k) → IsAmong body (taken ++ k ∷ []) ⊎ IsAmong body (with_parts t.rows left k)
    last (inl f) = inl (subst (λ i. IsAmong i (taken ++ k ∷ [])) (sym f) (among_last taken k))
    last (inr g) = inr g

    begins : IsAmong body taken ⊎ IsAmong body numbers → IsAmong body (taken ++ k ∷ []) ⊎ IsAmong body (with_parts t.rows left k)
    begins (inl g) = inl (among_left taken (k ∷ []) body g)
    begins (inr g) = last (kept body g)

pub fewer : (t : Table) (k : ℕ) (numbers left : List ℕ) → IsTable t → numbers ≡ left ++ k ∷ [] → All (λ q. nat_cmp q k ≡ Less) left → bound (with_parts t.rows left k) < bound numbers
fewer t k numbers left is e below =
    let after = bound_of_parts t left k is (bound_below left k below) in
    let before = above_last left k in
    subst (λ ns. bound (with_parts t.rows left k) < bound ns) (sym e) (omega (arith, after, before))

pub all_taken : (t : Table) (body : ℕ) (numbers taken : List ℕ) → numbers ≡ [] → IsTaken t body numbers taken → IsUnfolded t body taken
all_taken t body numbers taken e h = record { begins = begins (subst (λ ns. IsAmong body taken ⊎ IsAmong body ns) e h.begins); parts_follow = subst (λ ns. PartsFollow t (λ m. IsAmong m ns) taken) e h.follow }
  where
    begins : IsAmong body taken ⊎ IsAmong body [] → IsAmong body taken
    begins (inl g) = g
    begins (inr g) = absurd g
