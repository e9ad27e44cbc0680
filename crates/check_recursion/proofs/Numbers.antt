-- The edges that are made are the steps, by numbers.
use Rattle.std.proofs.Common.{◌≡◌, ℕ, zero, suc, ◌+◌, ◌*◌, ◌<◌, ◌⊎◌, inl, inr, Bool, true, false, cond, List, [], ◌∷◌, ◌++◌, Option, Some, None, refl, sym, ap, subst, ◌∙◌, slice_get, arith}
use Rattle.std.specs.Prelude.{ltb}
use Rattle.std.proofs.lemmas.Bool.{ltb-true, lt-ltb}
use Rattle.lists.proofs.Lemmas.{last_or_below}
use Rattle.graphs.specs.declared.cycles.Edge.{Edge}
use Rattle.check_terms.specs.declared.row.Row as R
use Rattle.check_instances.specs.declared.closed.closed.Meaning.{Meaning}
use Rattle.check_recursion.specs.declared.node.Node.{Node}
use Rattle.check_recursion.specs.declared.node.Node.TheVariants as N
use Rattle.check_recursion.specs.declared.steps.Steps.{Steps}
use Rattle.check_recursion.specs.Edges.{flagged, Known, Has, Leads, by_row, by_chosen, by_group, by_type, by_opening, by_choice, by_chosen_name, by_opened_choice, row_node, chosen_node, row_steps, chosen_steps, is_group_call, opened_group, opened_row, within, number, edge_by, listed, edge_to, steps_edges, types_edges, name_edges, row_edges, rows_edges, place_edges, places_edges, all_edges}
use Rattle.check_recursion.proofs.Freely.{In, in_list, contained, in_front, in_back, in_either}

within_is : (n most x i : ℕ) → within n most x ≡ Some i → (n < most) × (x ≡ i)
within_is n most x i e = by (ltb n most) refl e
  where
    by : (c : Bool) → ltb n most ≡ c → cond c (Some x) None ≡ Some i → (n < most) × (x ≡ i)
    by true f g = (ltb-true n most f, same g)
      where
        same : Some x ≡ Some i → x ≡ i
        same g = cc
    by false f g = cc

is_within : (n most x : ℕ) → n < most → within n most x ≡ Some x
is_within n most x h = ap (λ (c : Bool). cond c (Some x) None) (lt-ltb n most h)

module _ (rows places : ℕ) where
  abbrev pub Within : Node → Type 0
  Within (N.Row n) = n < rows
  Within (N.Chosen n) = n < rows
  Within (N.Name k) = k < places
  Within (N.Unwrapping k) = k < places
  Within (N.Choice k) = k < places
  Within (N.ChosenName k) = k < places
  Within (N.OpenedChoice k) = k < places

  abbrev pub value : Node → ℕ
  value (N.Row n) = 2 * n
  value (N.Chosen n) = 2 * n + 1
  value (N.Name k) = 2 * rows + 5 * k
  value (N.Unwrapping k) = 2 * rows + 5 * k + 1
  value (N.Choice k) = 2 * rows + 5 * k + 2
  value (N.ChosenName k) = 2 * rows + 5 * k + 3
  value (N.OpenedChoice k) = 2 * rows + 5 * k + 4

  pub number_is : (n : Node) (i : ℕ) → number rows places n ≡ Some i → (Within n) × (value n ≡ i)
  number_is (N.Row n) i e = within_is n rows (2 * n) i e
  number_is (N.Chosen n) i e = within_is n rows (2 * n + 1) i e
  number_is (N.Name k) i e = within_is k places (2 * rows + 5 * k) i e
  number_is (N.Unwrapping k) i e = within_is k places (2 * rows + 5 * k + 1) i e
  number_is (N.Choice k) i e = within_is k places (2 * rows + 5 * k + 2) i e
  number_is (N.ChosenName k) i e = within_is k places (2 * rows + 5 * k + 3) i e
  number_is (N.OpenedChoice k) i e = within_is k places (2 * rows + 5 * k + 4) i e

  pub is_number : (n : Node) → Within n → number rows places n ≡ Some (value n)
  is_number (N.Row n) h = is_within n rows (2 * n) h
  is_number (N.Chosen n) h = is_within n rows (2 * n + 1) h
  is_number (N.Name k) h = is_within k places (2 * rows + 5 * k) h
  is_number (N.Unwrapping k) h = is_within k places (2 * rows + 5 * k + 1) h
  is_number (N.Choice k) h = is_within k places (2 * rows + 5 * k + 2) h
  is_number (N.ChosenName k) h = is_within k places (2 * rows + 5 * k + 3) h
  is_number (N.OpenedChoice k) h = is_within k places (2 * rows + 5 * k + 4) h

  pub below : (n : Node) → Within n → value n < 2 * rows + 5 * places
  below (N.Row n) h = omega (arith, h)
  below (N.Chosen n) h = omega (arith, h)
  below (N.Name k) h = omega (arith, h)
  below (N.Unwrapping k) h = omega (arith, h)
  below (N.Choice k) h = omega (arith, h)
  below (N.ChosenName k) h = omega (arith, h)
  below (N.OpenedChoice k) h = omega (arith, h)

  same_value : (a b : Node) → Within a → Within b → value a ≡ value b → a ≡ b
  same_value (N.Row n) (N.Row m) h g e = ap N.Row (omega (arith, e))
  same_value (N.Row n) (N.Chosen m) h g e = absurd (omega (arith, e))
  same_value (N.Row n) (N.Name m) h g e = absurd (omega (arith, e, h))
  same_value (N.Row n) (N.Unwrapping m) h g e = absurd (omega (arith, e, h))
  same_value (N.Row n) (N.Choice m) h g e = absurd (omega (arith, e, h))
  same_value (N.Row n) (N.ChosenName m) h g e = absurd (omega (arith, e, h))
  same_value (N.Row n) (N.OpenedChoice m) h g e = absurd (omega (arith, e, h))
  same_value (N.Chosen n) (N.Row m) h g e = absurd (omega (arith, e))
  same_value (N.Chosen n) (N.Chosen m) h g e = ap N.Chosen (omega (arith, e))
  same_value (N.Chosen n) (N.Name m) h g e = absurd (omega (arith, e, h))
  same_value (N.Chosen n) (N.Unwrapping m) h g e = absurd (omega (arith, e, h))
  same_value (N.Chosen n) (N.Choice m) h g e = absurd (omega (arith, e, h))
  same_value (N.Chosen n) (N.ChosenName m) h g e = absurd (omega (arith, e, h))
  same_value (N.Chosen n) (N.OpenedChoice m) h g e = absurd (omega (arith, e, h))
  same_value (N.Name n) (N.Row m) h g e = absurd (omega (arith, e, g))
  same_value (N.Name n) (N.Chosen m) h g e = absurd (omega (arith, e, g))
  same_value (N.Name n) (N.Name m) h g e = ap N.Name (omega (arith, e))
  same_value (N.Name n) (N.Unwrapping m) h g e = absurd (omega (arith, e))
  same_value (N.Name n) (N.Choice m) h g e = absurd (omega (arith, e))
  same_value (N.Name n) (N.ChosenName m) h g e = absurd (omega (arith, e))
  same_value (N.Name n) (N.OpenedChoice m) h g e = absurd (omega (arith, e))
  same_value (N.Unwrapping n) (N.Row m) h g e = absurd (omega (arith, e, g))
  same_value (N.Unwrapping n) (N.Chosen m) h g e = absurd (omega (arith, e, g))
  same_value (N.Unwrapping n) (N.Name m) h g e = absurd (omega (arith, e))
  same_value (N.Unwrapping n) (N.Unwrapping m) h g e = ap N.Unwrapping (omega (arith, e))
  same_value (N.Unwrapping n) (N.Choice m) h g e = absurd (omega (arith, e))
  same_value (N.Unwrapping n) (N.ChosenName m) h g e = absurd (omega (arith, e))
  same_value (N.Unwrapping n) (N.OpenedChoice m) h g e = absurd (omega (arith, e))
  same_value (N.Choice n) (N.Row m) h g e = absurd (omega (arith, e, g))
  same_value (N.Choice n) (N.Chosen m) h g e = absurd (omega (arith, e, g))
  same_value (N.Choice n) (N.Name m) h g e = absurd (omega (arith, e))
  same_value (N.Choice n) (N.Unwrapping m) h g e = absurd (omega (arith, e))
  same_value (N.Choice n) (N.Choice m) h g e = ap N.Choice (omega (arith, e))
  same_value (N.Choice n) (N.ChosenName m) h g e = absurd (omega (arith, e))
  same_value (N.Choice n) (N.OpenedChoice m) h g e = absurd (omega (arith, e))
  same_value (N.ChosenName n) (N.Row m) h g e = absurd (omega (arith, e, g))
  same_value (N.ChosenName n) (N.Chosen m) h g e = absurd (omega (arith, e, g))
  same_value (N.ChosenName n) (N.Name m) h g e = absurd (omega (arith, e))
  same_value (N.ChosenName n) (N.Unwrapping m) h g e = absurd (omega (arith, e))
  same_value (N.ChosenName n) (N.Choice m) h g e = absurd (omega (arith, e))
  same_value (N.ChosenName n) (N.ChosenName m) h g e = ap N.ChosenName (omega (arith, e))
  same_value (N.ChosenName n) (N.OpenedChoice m) h g e = absurd (omega (arith, e))
  same_value (N.OpenedChoice n) (N.Row m) h g e = absurd (omega (arith, e, g))
  same_value (N.OpenedChoice n) (N.Chosen m) h g e = absurd (omega (arith, e, g))
  same_value (N.OpenedChoice n) (N.Name m) h g e = absurd (omega (arith, e))
  same_value (N.OpenedChoice n) (N.Unwrapping m) h g e = absurd (omega (arith, e))
  same_value (N.OpenedChoice n) (N.Choice m) h g e = absurd (omega (arith, e))
  same_value (N.OpenedChoice n) (N.ChosenName m) h g e = absurd (omega (arith, e))
  same_value (N.OpenedChoice n) (N.OpenedChoice m) h g e = ap N.OpenedChoice (omega (arith, e))

  pub same_number : (a b : Node) (i : ℕ) → number rows places a ≡ Some i → number rows places b ≡ Some i → a ≡ b
  same_number a b i e f = let g = number_is a i e in let h = number_is b i f in same_value a b g.0 h.0 (g.1 ∙ sym h.1)

  -- one edge

  pub record IsEdgeTo (n : Node) (o : Option Node) (e : Edge) : Type 0 where
    pub to : Node
    pub is_to : o ≡ Some to
    pub from_is : number rows places n ≡ Some e.from
    pub to_is : number rows places to ≡ Some e.to

  in_listed : (e : Edge) (x y : Option ℕ) → In (listed (edge_by x y)) e → (x ≡ Some e.from) × (y ≡ Some e.to)
  in_listed e None y h = absurd h
  in_listed e (Some i) None h = absurd h
  in_listed e (Some i) (Some j) (inl f) = (ap (λ (d : Edge). Some d.from) f, ap (λ (d : Edge). Some d.to) f)
  in_listed e (Some i) (Some j) (inr h) = absurd h

  in_edge : (n : Node) (o : Option Node) (e : Edge) → In (edge_to rows places n o) e → IsEdgeTo n o e
  in_edge n None e h = let r = in_listed e (number rows places n) None h in absurd (no r.1)
    where
      no : None ≡ Some e.to → ⊥
      no f = cc
  in_edge n (Some m) e h = let r = in_listed e (number rows places n) (number rows places m) h in record { to = m; is_to = refl; from_is = r.0; to_is = r.1 }

  abbrev edge_of : ℕ → ℕ → Edge
  edge_of i j = record { from = i; to = j }

  edge_in : (n : Node) (o : Option Node) (m : Node) (i j : ℕ) → o ≡ Some m → number rows places n ≡ Some i → number rows places m ≡ Some j → In (edge_to rows places n o) (edge_of i j)
  edge_in n o m i j e f g = subst (λ (es : List Edge). In es (edge_of i j)) (sym (ap (λ p. edge_to rows places n p) e ∙ ap (λ x. listed (edge_by x (number rows places m))) f ∙ ap (λ y. listed (edge_by (Some i) y)) g)) (inl refl)

  in_steps : (n : Node) (s : Steps) (e : Edge) → In (steps_edges rows places n s) e → (m : Node) × (Has s m) × IsEdgeTo n (Some m) e
  in_steps n s e h = by (in_either (edge_to rows places n s.first) (edge_to rows places n s.second) e h)
    where
      same : (o : Option Node) → (r : IsEdgeTo n o e) → IsEdgeTo n (Some r.to) e
      same o r = record { to = r.to; is_to = refl; from_is = r.from_is; to_is = r.to_is }

      by : In (edge_to rows places n s.first) e ⊎ In (edge_to rows places n s.second) e → (m : Node) × (Has s m) × IsEdgeTo n (Some m) e
      by (inl g) = let r = in_edge n s.first e g in (r.to, inl r.is_to, same s.first r)
      by (inr g) = let r = in_edge n s.second e g in (r.to, inr r.is_to, same s.second r)

  steps_in : (n : Node) (s : Steps) (m : Node) (i j : ℕ) → Has s m → number rows places n ≡ Some i → number rows places m ≡ Some j → In (steps_edges rows places n s) (edge_of i j)
  steps_in n s m i j (inl e) f g = in_front (edge_to rows places n s.first) (edge_to rows places n s.second) (edge_of i j) (edge_in n s.first m i j e f g)
  steps_in n s m i j (inr e) f g = in_back (edge_to rows places n s.first) (edge_to rows places n s.second) (edge_of i j) (edge_in n s.second m i j e f g)

  in_types : (k : ℕ) (ns : List ℕ) (e : Edge) → In (types_edges rows places k ns) e → (n : ℕ) × (In ns n) × IsEdgeTo (N.Name k) (Some (N.Row n)) e
  in_types k [] e h = absurd h
  in_types k (n ∷ ns) e h = by (in_either (edge_to rows places (N.Name k) (Some (N.Row n))) (types_edges rows places k ns) e h) (in_types k ns e)
    where
      by : In (edge_to rows places (N.Name k) (Some (N.Row n))) e ⊎ In (types_edges rows places k ns) e → (In (types_edges rows places k ns) e → (m : ℕ) × (In ns m) × IsEdgeTo (N.Name k) (Some (N.Row m)) e) → (m : ℕ) × (In (n ∷ ns) m) × IsEdgeTo (N.Name k) (Some (N.Row m)) e
      by (inl g) f = (n, inl refl, in_edge (N.Name k) (Some (N.Row n)) e g)
      by (inr g) f = let r = f g in (r.0, inr r.1, r.2)

  types_in : (k : ℕ) (ns : List ℕ) (n i j : ℕ) → In ns n → number rows places (N.Name k) ≡ Some i → number rows places (N.Row n) ≡ Some j → In (types_edges rows places k ns) (edge_of i j)
  types_in k [] n i j h e f = absurd h
  types_in k (m ∷ ns) n i j (inl g) e f = in_front (edge_to rows places (N.Name k) (Some (N.Row m))) (types_edges rows places k ns) (edge_of i j) (edge_in (N.Name k) (Some (N.Row m)) (N.Row n) i j (ap (λ x. Some (N.Row x)) g) e f)
  types_in k (m ∷ ns) n i j (inr g) e f = in_back (edge_to rows places (N.Name k) (Some (N.Row m))) (types_edges rows places k ns) (edge_of i j) (types_in k ns n i j g e f)

  module _ (b : Known) where
    pub record IsMade (e : Edge) : Type 0 where
      pub from : Node
      pub to : Node
      pub leads : Leads b from to
      pub from_is : number rows places from ≡ Some e.from
      pub to_is : number rows places to ≡ Some e.to

    as_made : (n m : Node) (e : Edge) → Leads b n m → IsEdgeTo n (Some m) e → IsMade e
    as_made n m e l r = record { from = n; to = m; leads = l; from_is = r.from_is; to_is = subst (λ x. number rows places x ≡ Some e.to) (same r.is_to) r.to_is }
      where
        same : Some m ≡ Some r.to → r.to ≡ m
        same f = cc

    in_row : (n : ℕ) (o : Option R.Row) (e : Edge) → slice_get b.rows n ≡ o → In (row_edges rows places b n o) e → IsMade e
    in_row n None e f h = absurd h
    in_row n (Some r) e f h = by (in_either (steps_edges rows places (N.Row n) (row_steps b r)) (steps_edges rows places (N.Chosen n) (chosen_steps b r)) e h)
      where
        by : In (steps_edges rows places (N.Row n) (row_steps b r)) e ⊎ In (steps_edges rows places (N.Chosen n) (chosen_steps b r)) e → IsMade e
        by (inl g) = let s = in_steps (N.Row n) (row_steps b r) e g in as_made (N.Row n) s.0 e (by_row f s.1) s.2
        by (inr g) = let s = in_steps (N.Chosen n) (chosen_steps b r) e g in as_made (N.Chosen n) s.0 e (by_chosen f s.1) s.2

    in_rows : (n : ℕ) (e : Edge) → In (rows_edges rows places b n) e → IsMade e
    in_rows zero e h = absurd h
    in_rows (suc n) e h = by (in_either (rows_edges rows places b n) (row_edges rows places b n (slice_get b.rows n)) e h) (in_rows n e)
      where
        by : In (rows_edges rows places b n) e ⊎ In (row_edges rows places b n (slice_get b.rows n)) e → (In (rows_edges rows places b n) e → IsMade e) → IsMade e
        by (inl g) f = f g
        by (inr g) f = in_row n (slice_get b.rows n) e refl g

    in_name : (k : ℕ) (w : Meaning) (e : Edge) (c : Bool) → slice_get b.meanings k ≡ Some w → is_group_call b w.call ≡ c → In (name_edges rows places k w c) e → IsMade e
    in_name k w e true f i h = let r = in_edge (N.Name k) (row_node w.group) e h in record { from = N.Name k; to = r.to; leads = by_group f i r.is_to; from_is = r.from_is; to_is = r.to_is }
    in_name k w e false f i h = let r = in_types k w.types.items e h in as_made (N.Name k) (N.Row r.0) e (by_type f i (contained w.types.items r.0 r.1)) r.2

    -- the edges of a place, but those of its name
    abbrev opening_edges : ℕ → List Edge
    opening_edges k = edge_to rows places (N.Unwrapping k) (row_node (opened_row (slice_get b.openings k)))

    abbrev choice_edges : ℕ → List Edge
    choice_edges k = edge_to rows places (N.Choice k) (Some (N.ChosenName k))

    abbrev chosen_name_edges : ℕ → Meaning → List Edge
    chosen_name_edges k w = edge_to rows places (N.ChosenName k) (chosen_node (flagged b.choosable w.group))

    abbrev opened_choice_edges : ℕ → List Edge
    opened_choice_edges k = edge_to rows places (N.OpenedChoice k) (chosen_node (flagged b.choosable (opened_group (slice_get b.openings k))))

    -- of these, those of choices
    abbrev last_edges : ℕ → Meaning → List Edge
    last_edges k w = choice_edges k ++ (chosen_name_edges k w ++ opened_choice_edges k)

    in_place : (k : ℕ) (o : Option Meaning) (e : Edge) → slice_get b.meanings k ≡ o → In (place_edges rows places b k o) e → IsMade e
    in_place k None e f h = absurd h
    in_place k (Some w) e f h = by (in_either (name_edges rows places k w (is_group_call b w.call)) (opening_edges k ++ last_edges k w) e h)
      where
        last : In (chosen_name_edges k w) e ⊎ In (opened_choice_edges k) e → IsMade e
        last (inl g) = let r = in_edge (N.ChosenName k) (chosen_node (flagged b.choosable w.group)) e g in record { from = N.ChosenName k; to = r.to; leads = by_chosen_name f r.is_to; from_is = r.from_is; to_is = r.to_is }
        last (inr g) = let r = in_edge (N.OpenedChoice k) (chosen_node (flagged b.choosable (opened_group (slice_get b.openings k)))) e g in record { from = N.OpenedChoice k; to = r.to; leads = by_opened_choice f r.is_to; from_is = r.from_is; to_is = r.to_is }

        third : In (choice_edges k) e ⊎ In (chosen_name_edges k w ++ opened_choice_edges k) e → IsMade e
        third (inl g) = as_made (N.Choice k) (N.ChosenName k) e (by_choice f) (in_edge (N.Choice k) (Some (N.ChosenName k)) e g)
        third (inr g) = last (in_either (chosen_name_edges k w) (opened_choice_edges k) e g)

        second : In (opening_edges k) e ⊎ In (last_edges k w) e → IsMade e
        second (inl g) = let r = in_edge (N.Unwrapping k) (row_node (opened_row (slice_get b.openings k))) e g in record { from = N.Unwrapping k; to = r.to; leads = by_opening f r.is_to; from_is = r.from_is; to_is = r.to_is }
        second (inr g) = third (in_either (choice_edges k) (chosen_name_edges k w ++ opened_choice_edges k) e g)

        by : In (name_edges rows places k w (is_group_call b w.call)) e ⊎ In (opening_edges k ++ last_edges k w) e → IsMade e
        by (inl g) = in_name k w e (is_group_call b w.call) f refl g
        by (inr g) = second (in_either (opening_edges k) (last_edges k w) e g)

    in_places : (k : ℕ) (e : Edge) → In (places_edges rows places b k) e → IsMade e
    in_places zero e h = absurd h
    in_places (suc k) e h = by (in_either (places_edges rows places b k) (place_edges rows places b k (slice_get b.meanings k)) e h) (in_places k e)
      where
        by : In (places_edges rows places b k) e ⊎ In (place_edges rows places b k (slice_get b.meanings k)) e → (In (places_edges rows places b k) e → IsMade e) → IsMade e
        by (inl g) f = f g
        by (inr g) f = in_place k (slice_get b.meanings k) e refl g

    pub made : (e : Edge) → In (all_edges rows places b) e → IsMade e
    made e h = by (in_either (rows_edges rows places b rows) (places_edges rows places b places) e h)
      where
        by : In (rows_edges rows places b rows) e ⊎ In (places_edges rows places b places) e → IsMade e
        by (inl g) = in_rows rows e g
        by (inr g) = in_places places e g

    -- each step is made

    rows_in : (k n : ℕ) (e : Edge) → n < k → In (row_edges rows places b n (slice_get b.rows n)) e → In (rows_edges rows places b k) e
    rows_in zero n e h i = absurd (omega (arith, h))
    rows_in (suc k) n e h i = by (last_or_below n k (omega (arith, h))) (λ g. rows_in k n e g i)
      where
        by : (n < k) ⊎ (n ≡ k) → (n < k → In (rows_edges rows places b k) e) → In (rows_edges rows places b (suc k)) e
        by (inl g) f = in_front (rows_edges rows places b k) (row_edges rows places b k (slice_get b.rows k)) e (f g)
        by (inr g) f = in_back (rows_edges rows places b k) (row_edges rows places b k (slice_get b.rows k)) e (subst (λ m. In (row_edges rows places b m (slice_get b.rows m)) e) g i)

    places_in : (k n : ℕ) (e : Edge) → n < k → In (place_edges rows places b n (slice_get b.meanings n)) e → In (places_edges rows places b k) e
    places_in zero n e h i = absurd (omega (arith, h))
    places_in (suc k) n e h i = by (last_or_below n k (omega (arith, h))) (λ g. places_in k n e g i)
      where
        by : (n < k) ⊎ (n ≡ k) → (n < k → In (places_edges rows places b k) e) → In (places_edges rows places b (suc k)) e
        by (inl g) f = in_front (places_edges rows places b k) (place_edges rows places b k (slice_get b.meanings k)) e (f g)
        by (inr g) f = in_back (places_edges rows places b k) (place_edges rows places b k (slice_get b.meanings k)) e (subst (λ m. In (place_edges rows places b m (slice_get b.meanings m)) e) g i)

    of_row : (n : ℕ) (e : Edge) → n < rows → In (row_edges rows places b n (slice_get b.rows n)) e → In (all_edges rows places b) e
    of_row n e h i = in_front (rows_edges rows places b rows) (places_edges rows places b places) e (rows_in rows n e h i)

    of_place : (k : ℕ) (w : Meaning) (e : Edge) → k < places → slice_get b.meanings k ≡ Some w → In (place_edges rows places b k (Some w)) e → In (all_edges rows places b) e
    of_place k w e h f i = in_back (rows_edges rows places b rows) (places_edges rows places b places) e (places_in places k e h (subst (λ o. In (place_edges rows places b k o) e) (sym f) i))

    name_in : (k : ℕ) (w : Meaning) (e : Edge) → In (name_edges rows places k w (is_group_call b w.call)) e → In (place_edges rows places b k (Some w)) e
    name_in k w e h = in_front (name_edges rows places k w (is_group_call b w.call)) (opening_edges k ++ last_edges k w) e h

    other_in : (k : ℕ) (w : Meaning) (e : Edge) → In (opening_edges k ++ last_edges k w) e → In (place_edges rows places b k (Some w)) e
    other_in k w e h = in_back (name_edges rows places k w (is_group_call b w.call)) (opening_edges k ++ last_edges k w) e h

    opening_in : (k : ℕ) (w : Meaning) (e : Edge) → In (opening_edges k) e → In (place_edges rows places b k (Some w)) e
    opening_in k w e h = other_in k w e (in_front (opening_edges k) (last_edges k w) e h)

    choice_in : (k : ℕ) (w : Meaning) (e : Edge) → In (last_edges k w) e → In (place_edges rows places b k (Some w)) e
    choice_in k w e h = other_in k w e (in_back (opening_edges k) (last_edges k w) e h)

    chosen_in : (k : ℕ) (w : Meaning) (e : Edge) → In (chosen_name_edges k w ++ opened_choice_edges k) e → In (place_edges rows places b k (Some w)) e
    chosen_in k w e h = choice_in k w e (in_back (choice_edges k) (chosen_name_edges k w ++ opened_choice_edges k) e h)

    pub is_made : (n m : Node) (i j : ℕ) → Leads b n m → number rows places n ≡ Some i → number rows places m ≡ Some j → In (all_edges rows places b) (edge_of i j)
    is_made n m i j (by_row {n = k} {r = r} e h) f g = of_row k (edge_of i j) (number_is (N.Row k) i f).0 (subst (λ o. In (row_edges rows places b k o) (edge_of i j)) (sym e) (in_front (steps_edges rows places (N.Row k) (row_steps b r)) (steps_edges rows places (N.Chosen k) (chosen_steps b r)) (edge_of i j) (steps_in (N.Row k) (row_steps b r) m i j h f g)))
    is_made n m i j (by_chosen {n = k} {r = r} e h) f g = of_row k (edge_of i j) (number_is (N.Chosen k) i f).0 (subst (λ o. In (row_edges rows places b k o) (edge_of i j)) (sym e) (in_back (steps_edges rows places (N.Row k) (row_steps b r)) (steps_edges rows places (N.Chosen k) (chosen_steps b r)) (edge_of i j) (steps_in (N.Chosen k) (chosen_steps b r) m i j h f g)))
    is_made n m i j (by_group {k = k} {w = w} e c h) f g = of_place k w (edge_of i j) (number_is (N.Name k) i f).0 e (name_in k w (edge_of i j) (subst (λ x. In (name_edges rows places k w x) (edge_of i j)) (sym c) (edge_in (N.Name k) (row_node w.group) m i j h f g)))
    is_made n m i j (by_type {k = k} {w = w} {n = x} e c h) f g = of_place k w (edge_of i j) (number_is (N.Name k) i f).0 e (name_in k w (edge_of i j) (subst (λ x. In (name_edges rows places k w x) (edge_of i j)) (sym c) (types_in k w.types.items x i j (in_list w.types.items x h) f g)))
    is_made n m i j (by_opening {k = k} {w = w} e h) f g = of_place k w (edge_of i j) (number_is (N.Unwrapping k) i f).0 e (opening_in k w (edge_of i j) (edge_in (N.Unwrapping k) (row_node (opened_row (slice_get b.openings k))) m i j h f g))
    is_made n m i j (by_choice {k = k} {w = w} e) f g = of_place k w (edge_of i j) (number_is (N.Choice k) i f).0 e (choice_in k w (edge_of i j) (in_front (choice_edges k) (chosen_name_edges k w ++ opened_choice_edges k) (edge_of i j) (edge_in (N.Choice k) (Some (N.ChosenName k)) (N.ChosenName k) i j refl f g)))
    is_made n m i j (by_chosen_name {k = k} {w = w} e h) f g = of_place k w (edge_of i j) (number_is (N.ChosenName k) i f).0 e (chosen_in k w (edge_of i j) (in_front (chosen_name_edges k w) (opened_choice_edges k) (edge_of i j) (edge_in (N.ChosenName k) (chosen_node (flagged b.choosable w.group)) m i j h f g)))
    is_made n m i j (by_opened_choice {k = k} {w = w} e h) f g = of_place k w (edge_of i j) (number_is (N.OpenedChoice k) i f).0 e (chosen_in k w (edge_of i j) (in_back (chosen_name_edges k w) (opened_choice_edges k) (edge_of i j) (edge_in (N.OpenedChoice k) (chosen_node (flagged b.choosable (opened_group (slice_get b.openings k)))) m i j h f g)))
