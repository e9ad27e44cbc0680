-- In an order from below each depth is the one that the depths of the parts make it.
use Rattle.std.proofs.Common.{◌≡◌, ◌⊎◌, inl, inr, ℕ, zero, suc, ◌+◌, ◌<◌, ◌≤◌, List, [], ◌∷◌, ◌++◌, length, set, Bool, true, false, Option, Some, None, slice_get, refl, sym, ap, subst, ◌∙◌, arith}
use Rattle.std.specs.Prelude.{Contains}
use Rattle.graphs.specs.declared.cycles.Edge.{Edge}
use Rattle.graphs.specs.Cycles.Graph.{IsBottomUp, IsEdge}
use Rattle.check_literals.specs.declared.sizes.sources.Source.{Source}
use Rattle.check_literals.specs.Sizes.Sources.{View, no_members, numbers, members_of, members_of_choices, In, IsPart, parts_in, view_at}
use Rattle.check_literals.specs.Sizes.Depths.{AreDepths, answered, deeper, deepest, depth_at, depth_by, edges_before, edges_to, step}
use Rattle.std.proofs.lemmas.Option.{slice_get-get_or}
use Rattle.lists.proofs.Lemmas.{never_some, same_or_not, set_length, set_other as beside_set, set_there as at_set, within}
use Rattle.check_literals.proofs.OfSizes.Lists.{in_at, lower, place_in, same_some}

-- The depth of each of the first rows of the order is the one that its parts make it, and other rows have none.
pub record IsDone (ss : List Source) (order : List ℕ) (done : ℕ) (ds : List (Option ℕ)) : Type 0 where
  pub all : length ds ≡ length ss
  pub each : (j n : ℕ) → j < done → slice_get order j ≡ Some n → depth_at ds n ≡ depth_by ds (view_at ss n)
  pub others : (n : ℕ) → ((j : ℕ) → j < done → slice_get order j ≡ Some n → ⊥) → depth_at ds n ≡ None

-- lists that are joined

get_left : {A : Type 0} (xs ys : List A) (i : ℕ) (x : A) → slice_get xs i ≡ Some x → slice_get (xs ++ ys) i ≡ Some x
get_left [] ys i x e = absurd (never_some x e)
get_left (y ∷ xs) ys zero x e = e
get_left (y ∷ xs) ys (suc i) x e = get_left xs ys i x e

get_right : {A : Type 0} (xs ys : List A) (i : ℕ) (x : A) → slice_get ys i ≡ Some x → (j : ℕ) × (slice_get (xs ++ ys) j ≡ Some x)
get_right [] ys i x e = (i, e)
get_right (y ∷ xs) ys i x e = let h = get_right xs ys i x e in (suc h.0, h.1)

get_split : {A : Type 0} (xs ys : List A) (i : ℕ) (x : A) → slice_get (xs ++ ys) i ≡ Some x → (slice_get xs i ≡ Some x) ⊎ ((j : ℕ) × (slice_get ys j ≡ Some x))
get_split [] ys i x e = inr (i, e)
get_split (y ∷ xs) ys zero x e = inl e
get_split (y ∷ xs) ys (suc i) x e = get_split xs ys i x e

-- the edges are to the parts

to_edge : (a b : ℕ) (bs : List ℕ) → In bs b → (i : ℕ) × (slice_get (edges_to a bs) i ≡ Some (record { from = a; to = b }))
to_edge a b [] h = absurd h
to_edge a b (x ∷ bs) (inl e) = (zero, ap (λ (n : ℕ). Some (record { from = a; to = n })) e)
to_edge a b (x ∷ bs) (inr h) = let k = to_edge a b bs h in (suc k.0, k.1)

edge_to : (a : ℕ) (bs : List ℕ) (i : ℕ) (x : Edge) → slice_get (edges_to a bs) i ≡ Some x → (a ≡ x.from) × In bs x.to
edge_to a [] i x e = absurd (never_some x e)
edge_to a (b ∷ bs) zero x e = let same = same_some (record { from = a; to = b }) x e in (ap (λ (y : Edge). y.from) same, inl (ap (λ (y : Edge). y.to) same))
edge_to a (b ∷ bs) (suc i) x e = let h = edge_to a bs i x e in (h.0, inr h.1)

edge_before : (ss : List Source) (n a b : ℕ) → a < n → In (parts_in (view_at ss a)) b → (i : ℕ) × (slice_get (edges_before ss n) i ≡ Some (record { from = a; to = b }))
edge_before ss zero a b l h = absurd (omega (arith, l))
edge_before ss (suc n) a b l h = elim (same_or_not a n) [
  | inl e ↦
      (let k = to_edge n b (parts_in (view_at ss n)) (subst (λ m. In (parts_in (view_at ss m)) b) e h) in
      let g = get_right (edges_before ss n) (edges_to n (parts_in (view_at ss n))) k.0 (record { from = n; to = b }) k.1 in
      (g.0, g.1 ∙ ap (λ (m : ℕ). Some (record { from = m; to = b })) (sym e)))
  | inr d ↦
      (let k = edge_before ss n a b (lower a n (omega (arith, l)) d) h in
      (k.0, get_left (edges_before ss n) (edges_to n (parts_in (view_at ss n))) k.0 (record { from = a; to = b }) k.1))
]

part_before : (ss : List Source) (n i : ℕ) (x : Edge) → slice_get (edges_before ss n) i ≡ Some x → In (parts_in (view_at ss x.from)) x.to
part_before ss zero i x e = absurd (never_some x e)
part_before ss (suc n) i x e = elim (get_split (edges_before ss n) (edges_to n (parts_in (view_at ss n))) i x e) [
  | inl h ↦ part_before ss n i x h
  | inr h ↦ (let k = edge_to n (parts_in (view_at ss n)) h.0 x h.1 in subst (λ m. In (parts_in (view_at ss m)) x.to) k.0 k.1)
]

-- the depth is by the depths of the parts alone

deepest_same : (b : Bool) (ds es : List (Option ℕ)) (ms : List ℕ) → ((m : ℕ) → In ms m → depth_at ds m ≡ depth_at es m) → deepest b ds ms ≡ deepest b es ms
deepest_same b ds es [] h = refl
deepest_same b ds es (m ∷ ms) h = ap (λ (o : Option ℕ). deeper (step b o) (deepest b ds ms)) (h m (inl refl)) ∙ ap (λ (o : Option ℕ). deeper (step b (depth_at es m)) o) (deepest_same b ds es ms (λ n i. h n (inr i)))

depth_same : (ds es : List (Option ℕ)) (v : View) → ((m : ℕ) → In (parts_in v) m → depth_at ds m ≡ depth_at es m) → depth_by ds v ≡ depth_by es v
depth_same ds es no_members h = refl
depth_same ds es (numbers r) h = refl
depth_same ds es (members_of ms) h = deepest_same false ds es ms h
depth_same ds es (members_of_choices ms) h = deepest_same true ds es ms h

nothing_deeper : (o : Option ℕ) → deeper o None ≡ None
nothing_deeper None = refl
nothing_deeper (Some d) = refl

nothing_deepest : (b : Bool) (ds : List (Option ℕ)) (ms : List ℕ) (m : ℕ) → In ms m → depth_at ds m ≡ None → deepest b ds ms ≡ None
nothing_deepest b ds [] m h e = absurd h
nothing_deepest b ds (x ∷ ms) m (inl q) e = ap (λ (o : Option ℕ). deeper (step b o) (deepest b ds ms)) (subst (λ n. depth_at ds n ≡ None) (sym q) e) ∙ by b
  where
    by : (b : Bool) → deeper (step b None) (deepest b ds ms) ≡ None
    by true = refl
    by false = refl
nothing_deepest b ds (x ∷ ms) m (inr h) e = ap (λ (o : Option ℕ). deeper (step b (depth_at ds x)) o) (nothing_deepest b ds ms m h e) ∙ nothing_deeper (step b (depth_at ds x))

no_depth : (ds : List (Option ℕ)) (v : View) (m : ℕ) → In (parts_in v) m → depth_at ds m ≡ None → depth_by ds v ≡ None
no_depth ds no_members m h e = absurd h
no_depth ds (numbers r) m h e = absurd h
no_depth ds (members_of ms) m h e = nothing_deepest false ds ms m h e
no_depth ds (members_of_choices ms) m h e = nothing_deepest true ds ms m h e

in_or_not : (xs : List ℕ) (n : ℕ) → In xs n ⊎ (In xs n → ⊥)
in_or_not [] n = inr (λ h. h)
in_or_not (x ∷ xs) n = elim (same_or_not x n) [
  | inl e ↦ inl (inl e)
  | inr d ↦ elim (in_or_not xs n) [ inl h ↦ inl (inr h) | inr k ↦ inr (λ h. neither h d k) ]
]
  where
    neither : (x ≡ n) ⊎ In xs n → (x ≡ n → ⊥) → (In xs n → ⊥) → ⊥
    neither (inl e) d k = d e
    neither (inr h) d k = k h

contained : (xs : List ℕ) (n : ℕ) → Contains xs n → In xs n
contained xs n h = in_at xs h.0 n (slice_get-get_or xs h.0 n h.1 ∙ ap Some h.2)

module _ (ss : List Source) (es : List Edge) (order : List ℕ) (is : es ≡ edges_before ss (length ss)) (up : IsBottomUp (length ss) es order) where
  part_edge : (a b : ℕ) → a < length ss → IsPart ss a b → IsEdge (length ss) es a b
  part_edge a b l p =
      let e = edge_before ss (length ss) a b l p.there in
      record { place = e.0; there = subst (λ xs. slice_get xs e.0 ≡ Some (record { from = a; to = b })) (sym is) e.1; begins = l; ends = p.within }

  edge_part : (a b : ℕ) → IsEdge (length ss) es a b → IsPart ss a b
  edge_part a b e = record { there = part_before ss (length ss) e.place (record { from = a; to = b }) (subst (λ xs. slice_get xs e.place ≡ Some (record { from = a; to = b })) is e.there); within = e.ends }

  module _ (done : ℕ) (ds : List (Option ℕ)) (h : IsDone ss order done ds) where
    module _ (row : ℕ) (at : slice_get order done ≡ Some row) where
      -- what comes before it is another row
      earlier : (j n : ℕ) → j < done → slice_get order j ≡ Some n → row ≡ n → ⊥
      earlier j n l e same = (let k = up.once j done n e (at ∙ ap Some same) in omega (arith, k, l))

      -- so are the parts of it and of what comes before it
      part_earlier : (j n b : ℕ) → j < done + 1 → slice_get order j ≡ Some n → In (parts_in (view_at ss n)) b → row ≡ b → ⊥
      part_earlier j n b l e i same =
          let within : b < length ss = subst (λ m. m < length ss) same (up.within done row at) in
          let k = up.after j n b e (part_edge n b (up.within j n e) (record { there = i; within = within })) in
          let first : k.0 < done = omega (arith, k.1, l) in
          earlier k.0 b first k.2 same

      same_beside : (n : ℕ) → (row ≡ n → ⊥) → depth_at (set ds row (depth_by ds (view_at ss row))) n ≡ depth_at ds n
      same_beside n d = ap answered (beside_set ds row n (depth_by ds (view_at ss row)) d)

      by_same : (j n : ℕ) → j < done + 1 → slice_get order j ≡ Some n → depth_by (set ds row (depth_by ds (view_at ss row))) (view_at ss n) ≡ depth_by ds (view_at ss n)
      by_same j n l e = depth_same (set ds row (depth_by ds (view_at ss row))) ds (view_at ss n) (λ b i. same_beside b (part_earlier j n b l e i))

      at_row : depth_at (set ds row (depth_by ds (view_at ss row))) row ≡ depth_by ds (view_at ss row)
      at_row = ap answered (at_set ds row (depth_by ds (view_at ss row)) (let w = up.within done row at in let all = h.all in omega (arith, w, all)))

      each_more : (j n : ℕ) → j < done + 1 → slice_get order j ≡ Some n → depth_at (set ds row (depth_by ds (view_at ss row))) n ≡ depth_by (set ds row (depth_by ds (view_at ss row))) (view_at ss n)
      each_more j n l e = elim (same_or_not j done) [
        | inl q ↦
            (let same : row ≡ n = same_some row n (sym at ∙ (ap (slice_get order) (sym q) ∙ e)) in
            subst (λ m. depth_at (set ds row (depth_by ds (view_at ss row))) m ≡ depth_by ds (view_at ss m)) same at_row ∙ sym (by_same j n l e))
        | inr d ↦
            (let before : j < done = lower j done l d in
            same_beside n (earlier j n before e) ∙ (h.each j n before e ∙ sym (by_same j n l e)))
      ]

      pub one_more : IsDone ss order (done + 1) (set ds row (depth_by ds (view_at ss row)))
      one_more = record {
        all = set_length ds row (depth_by ds (view_at ss row)) ∙ h.all;
        each = each_more;
        others = λ n out. same_beside n (λ q. out done (omega arith) (at ∙ ap Some q)) ∙ h.others n (λ j l e. out j (omega (arith, l)) e);
      }

    -- at the end

    no_place : (n : ℕ) → (In order n → ⊥) → depth_at ds n ≡ None
    no_place n out = h.others n (λ j l e. out (in_at order j n e))

    pub are_depths : length order ≤ done → AreDepths ss ds
    are_depths end = record {
      all = h.all;
      each = λ n l. elim (in_or_not order n) [
        | inl i ↦
            (let p = place_in order n i in
            let w = within order p.0 n p.1 in
            h.each p.0 n (omega (arith, w, end)) p.1)
        | inr out ↦
            (let b = up.others n l (λ k. out (contained order n k)) in
            let part = edge_part n b.0 b.1 in
            no_place n out ∙ sym (no_depth ds (view_at ss n) b.0 part.there (no_place b.0 (λ i. b.2 (container order b.0 i)))))
      ];
    }
      where
        container : (xs : List ℕ) (m : ℕ) → In xs m → Contains xs m
        container xs m i =
            let p = place_in xs m i in
            let w = within xs p.0 m p.1 in
            (p.0, w, same_some _ _ (sym (slice_get-get_or xs p.0 m w) ∙ p.1))
