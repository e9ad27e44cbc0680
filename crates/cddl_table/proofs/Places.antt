-- Places of ranks among those that are used: they keep the order, and leave no rank out.
use Rattle.std.proofs.Common.{◌≡◌, ℕ, zero, suc, ◌+◌, ◌<◌, ◌≤◌, max, nat_lt, cond, Bool, true, false, List, [], ◌∷◌, map, length, Contains, ◌++◌, ◌↔◌, slice_get, Some, ◌⊎◌, get_or, slice_index_or, inl, inr, refl, sym, ap, ◌∙◌, subst, arith}
use Rattle.std.specs.List.Sorted.{IsStrictlyIncreasing}
use Rattle.std.proofs.lemmas.List.Kept.{AllPairs-from_increasing}
use Rattle.lists.proofs.Lemmas.{IsIn, before_or_not, from_contains, in_cases, in_left, in_right, indexed, test_less, test_not_less, to_contains, to_get}
use Rattle.cddl_meaning.specs.Forms.{Language}
use Rattle.cddl_meaning.specs.Ranks.Ranked.{Name, a_type, a_group, IsFree, IsRanked}
use Rattle.table_nodes.specs.Language.{rank_of, ranks_of}
use Rattle.table_nodes.specs.Ranks.{greatest, rank_in}
use Rattle.table_nodes.specs.declared.nodes.GroupId.{GroupId}
use Rattle.table_nodes.specs.declared.nodes.TypeId.{TypeId}
use Rattle.table_nodes.specs.declared.table.Table.{Table}
use Rattle.cddl_table.specs.Ranks.{ArePlaces, AreUsed, LeavesNoRankOut, place_of}

one_lower : (b : Bool) (c k : ℕ) → b ≡ true → c ≡ k → cond b 1 0 + c ≡ suc k
one_lower true c k e h = omega (arith, h)
one_lower false c k e h = cc

not_lower : (b : Bool) (c k : ℕ) → b ≡ false → c ≡ k → cond b 1 0 + c ≡ k
not_lower false c k e h = omega (arith, h)
not_lower true c k e h = cc

-- So many are lower, where those before this place are, and no others.
module _ (d r : ℕ) where
  pub place_by : (xs : List ℕ) (k : ℕ) → k ≤ length xs → ((i : ℕ) → i < k → get_or xs i d < r) → ((i : ℕ) → k ≤ i → i < length xs → r ≤ get_or xs i d) → place_of xs r ≡ k
  place_by [] zero l low high = refl
  place_by [] (suc k) l low high = absurd (omega (arith, l))
  place_by (x ∷ xs) zero l low high = not_lower (nat_lt x r) (place_of xs r) 0 (test_not_less x r (high 0 (omega arith) (omega arith))) (place_by xs zero (omega arith) (λ i h. absurd (omega (arith, h))) (λ i h w. high (suc i) (omega arith) (omega (arith, w))))
  place_by (x ∷ xs) (suc k) l low high = one_lower (nat_lt x r) (place_of xs r) k (test_less x r (low 0 (omega arith))) (place_by xs k (omega (arith, l)) (λ i h. low (suc i) (omega (arith, h))) (λ i h w. high (suc i) (omega (arith, h)) (omega (arith, w))))

-- The place of one of them is where it is.
place_at : (xs : List ℕ) → IsStrictlyIncreasing xs → (x : ℕ) (c : Contains xs x) → place_of xs x ≡ c.0
place_at xs up x c = place_by x x xs c.0 (omega (arith, c.1)) low high
  where
    far : (i j : ℕ) → i < j → j < length xs → get_or xs i x < get_or xs j x
    far i j h l = AllPairs-from_increasing xs up i j x h l

    low : (i : ℕ) → i < c.0 → get_or xs i x < x
    low i h = let k = far i c.0 h c.1 in omega (arith, k, c.2)

    high : (i : ℕ) → c.0 ≤ i → i < length xs → x ≤ get_or xs i x
    high i h l = elim (before_or_not c.0 i) [
      | inl k ↦ let g = far c.0 i k l in omega (arith, g, c.2)
      | inr k ↦ let e : i ≡ c.0 = omega (arith, h, k) in omega (arith, ap (λ n. get_or xs n x) e, c.2)
    ]

-- Places keep the order.
places_rise : (xs : List ℕ) → IsStrictlyIncreasing xs → (x y : ℕ) → Contains xs x → Contains xs y → x < y → place_of xs x < place_of xs y
places_rise xs up x y c d l = elim (before_or_not c.0 d.0) [
  | inl k ↦ omega (arith, k, place_at xs up x c, place_at xs up y d)
  | inr k ↦ absurd (falls k)
]
  where
    at : get_or xs c.0 y ≡ x
    at = same xs c.0 c.1 c.2
      where
        same : (zs : List ℕ) (i : ℕ) → i < length zs → get_or zs i x ≡ x → get_or zs i y ≡ x
        same [] i h e = absurd (omega (arith, h))
        same (z ∷ zs) zero h e = e
        same (z ∷ zs) (suc i) h e = same zs i (omega (arith, h)) e

    falls : d.0 ≤ c.0 → ⊥
    falls k = elim (before_or_not d.0 c.0) [
      | inl h ↦ let g = AllPairs-from_increasing xs up d.0 c.0 y h c.1 in omega (arith, g, d.2, at, l)
      | inr h ↦ let e : c.0 ≡ d.0 = omega (arith, k, h) in omega (arith, ap (λ n. get_or xs n y) e, d.2, at, l)
    ]

lowest : (xs : List ℕ) → place_of xs 0 ≡ 0
lowest [] = refl
lowest (x ∷ xs) = not_lower (nat_lt x 0) (place_of xs 0) 0 (test_not_less x 0 (omega arith)) (lowest xs)

at_place : (f : ℕ → ℕ) → f 0 ≡ 0 → (xs : List ℕ) (i : ℕ) → slice_index_or (map f xs) i 0 ≡ f (slice_index_or xs i 0)
at_place f e [] i = sym e
at_place f e (x ∷ xs) zero = refl
at_place f e (x ∷ xs) (suc i) = at_place f e xs i

-- Some name has the greatest rank.
reached : (ns : List ℕ) → (i : ℕ) × (slice_index_or ns i 0 ≡ greatest ns)
reached [] = (0, refl)
reached (n ∷ ns) = let h = reached ns in elim (before_or_not n (greatest ns)) [
  | inl k ↦ (suc h.0, h.1 ∙ second n (greatest ns) k)
  | inr k ↦ (zero, first n (greatest ns) k)
]
  where
    second : (a b : ℕ) → a < b → b ≡ max a b
    second a b k = grind (arith)

    first : (a b : ℕ) → b ≤ a → a ≡ max a b
    first a b k = grind (arith)

top : (types groups : List ℕ) → (a : Name TypeId GroupId) × (rank_in types groups a ≡ max (greatest types) (greatest groups))
top types groups = let t = reached types in let g = reached groups in elim (before_or_not (greatest types) (greatest groups)) [
  | inl k ↦ (a_group (record { number = g.0 }), g.1 ∙ second (greatest types) (greatest groups) k)
  | inr k ↦ (a_type (record { number = t.0 }), t.1 ∙ first (greatest types) (greatest groups) k)
]
  where
    second : (a b : ℕ) → a < b → b ≡ max a b
    second a b k = grind (arith)

    first : (a b : ℕ) → b ≤ a → a ≡ max a b
    first a b k = grind (arith)

module _ (types groups by_types by_groups : List ℕ) (h : ArePlaces types groups by_types by_groups) where
  placed : (a : Name TypeId GroupId) → rank_in (map (place_of h.used) types) (map (place_of h.used) groups) a ≡ place_of h.used (rank_in types groups a)
  placed (a_type n) = at_place (place_of h.used) (lowest h.used) types n.number
  placed (a_group g) = at_place (place_of h.used) (lowest h.used) groups g.number

  same_ranks : (a : Name TypeId GroupId) → rank_in by_types by_groups a ≡ place_of h.used (rank_in types groups a)
  same_ranks a = subst (λ (ns : List ℕ). rank_in ns by_groups a ≡ place_of h.used (rank_in types groups a)) (sym h.types_are) (subst (λ (ns : List ℕ). rank_in (map (place_of h.used) types) ns a ≡ place_of h.used (rank_in types groups a)) (sym h.groups_are) (placed a))

  rank_place : (a : Name TypeId GroupId) → rank_in by_types by_groups a ≡ (h.are_used.all a).0
  rank_place a = same_ranks a ∙ place_at h.used h.are_used.increasing (rank_in types groups a) (h.are_used.all a)

  pub places_ranked : (l : Language TypeId GroupId) (bound : ℕ) → IsRanked l (rank_in types groups) bound → IsRanked l (rank_in by_types by_groups) (length h.used)
  places_ranked l bound ranked = record {
    down = λ a b free. let k = places_rise h.used h.are_used.increasing _ _ (h.are_used.all b) (h.are_used.all a) (ranked.down a b free) in omega (arith, k, same_ranks a, same_ranks b);
    most = λ a. omega (arith, rank_place a, (h.are_used.all a).1);
  }

  -- Below a rank that some name has, each is the rank of one.
  below : (a : Name TypeId GroupId) (r : ℕ) → r ≤ rank_in by_types by_groups a → (b : Name TypeId GroupId) × (rank_in by_types by_groups b ≡ r)
  below a r l =
      let k = h.are_used.all a in
      let w : r < length h.used = omega (arith, l, rank_place a, k.1) in
      let c : Contains h.used (get_or h.used r 0) = (r, w, there h.used r w) in
      let b = h.are_used.only (get_or h.used r 0) c in
      (b.0, same_ranks b.0 ∙ ap (place_of h.used) b.1 ∙ place_at h.used h.are_used.increasing (get_or h.used r 0) c)
    where
      there : (xs : List ℕ) (i : ℕ) → i < length xs → get_or xs i (get_or xs i 0) ≡ get_or xs i 0
      there [] i e = absurd (omega (arith, e))
      there (x ∷ xs) zero e = refl
      there (x ∷ xs) (suc i) e = there xs i (omega (arith, e))

  pub left_out_none : (table : Table) → rank_of table ≡ rank_in by_types by_groups → LeavesNoRankOut table
  left_out_none table e r l =
      let t : (a : Name TypeId GroupId) × (rank_of table a ≡ ranks_of table) = top _ _ in
      let b = below t.0 r (omega (arith, l, t.1, ap (λ (f : Name TypeId GroupId → ℕ). f t.0) e)) in
      (b.0, ap (λ (f : Name TypeId GroupId → ℕ). f b.0) e ∙ b.1)

-- Of what is used, in any order, and 0.

in_or_zero : (xs : List ℕ) (i : ℕ) → IsIn (slice_index_or xs i 0) xs ⊎ (slice_index_or xs i 0 ≡ 0)
in_or_zero [] i = inr refl
in_or_zero (x ∷ xs) zero = inl (inl refl)
in_or_zero (x ∷ xs) (suc i) = elim (in_or_zero xs i) [ inl h ↦ inl (inr h) | inr e ↦ inr e ]

some_zero : (xs : List ℕ) → (i : ℕ) × (slice_index_or xs i 0 ≡ 0)
some_zero [] = (0, refl)
some_zero (x ∷ xs) = let z = some_zero xs in (suc z.0, z.1)

module _ (types groups : List ℕ) where
  abbrev raw : List ℕ
  raw = (types ++ groups) ++ 0 ∷ []

  zero_in : (n : ℕ) → n ≡ 0 → IsIn n raw
  zero_in n e = in_right (types ++ groups) (0 ∷ []) n (inl e)

  rank_in_raw : (a : Name TypeId GroupId) → IsIn (rank_in types groups a) raw
  rank_in_raw (a_type n) = elim (in_or_zero types n.number) [
    | inl h ↦ in_left (types ++ groups) (0 ∷ []) (slice_index_or types n.number 0) (in_left types groups (slice_index_or types n.number 0) h)
    | inr e ↦ zero_in (slice_index_or types n.number 0) e
  ]
  rank_in_raw (a_group g) = elim (in_or_zero groups g.number) [
    | inl h ↦ in_left (types ++ groups) (0 ∷ []) (slice_index_or groups g.number 0) (in_right types groups (slice_index_or groups g.number 0) h)
    | inr e ↦ zero_in (slice_index_or groups g.number 0) e
  ]

  abbrev HasName : ℕ → Type 0
  HasName n = (a : Name TypeId GroupId) × (rank_in types groups a ≡ n)

  of_types : (n : ℕ) → IsIn n types → HasName n
  of_types n h = let k = to_get types n h in (a_type (record { number = k.0 }), indexed types k.0 n 0 k.1)

  of_groups : (n : ℕ) → IsIn n groups → HasName n
  of_groups n h = let k = to_get groups n h in (a_group (record { number = k.0 }), indexed groups k.0 n 0 k.1)

  of_zero : (n : ℕ) → IsIn n (0 ∷ []) → HasName n
  of_zero n (inl e) = let z = some_zero types in (a_type (record { number = z.0 }), z.1 ∙ sym e)
  of_zero n (inr h) = absurd h

  name_of : (n : ℕ) → IsIn n raw → HasName n
  name_of n h = elim (in_cases (types ++ groups) (0 ∷ []) n h) [
    | inl k ↦ elim (in_cases types groups n k) [ inl w ↦ of_types n w | inr w ↦ of_groups n w ]
    | inr k ↦ of_zero n k
  ]

  pub are_used : (all used : List ℕ) → all ≡ raw → IsStrictlyIncreasing used → ((n : ℕ) → Contains used n ↔ Contains all n) → AreUsed types groups used
  are_used all used e up members = record {
    increasing = up;
    all = λ a. (members (rank_in types groups a)).1 (subst (λ ns. Contains ns (rank_in types groups a)) (sym e) (to_contains raw (rank_in types groups a) (rank_in_raw a)));
    only = λ n h. name_of n (from_contains raw n (subst (λ ns. Contains ns n) e ((members n).0 h)));
  }
