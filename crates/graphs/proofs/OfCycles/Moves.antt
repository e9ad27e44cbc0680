-- Each step of the search keeps what holds on the way, and there are only so many.
use Rattle.std.proofs.Common.{◌≡◌, ℕ, zero, suc, ◌+◌, ◌-◌, ◌<◌, ◌≤◌, List, [], ◌∷◌, ◌++◌, length, set, Bool, true, false, cond, Option, Some, None, inl, inr, slice_get, slice_index_or, refl, sym, ap, subst, ◌∙◌, arith}
use Rattle.std.proofs.lemmas.Option.{slice_get-get_or, get_or_from_slice_get}
use Rattle.lists.proofs.Lemmas.{is_equal as test_true, never_some, not_both, push_before, push_length, test_same, there as there_is, within}
use Rattle.graphs.specs.declared.cycles.Edge.{Edge}
use Rattle.graphs.specs.declared.cycles.search.Mark.{Mark}
use Rattle.graphs.specs.declared.cycles.search.Mark.TheVariants.{Unseen, Open, Done}
use Rattle.graphs.specs.Cycles.Graph.{IsEdge, at_once}
use Rattle.graphs.specs.Cycles.Links.{Joins, Leads, IsLast, AreLinks, are_same}
use Rattle.graphs.specs.Cycles.Search.{State, entered, closed, front, is_last, off_path, off_roots, advanced, target, met, met_at, step_by, stepped, In, IsRising, Under, is_done, is_open, IsSound, Keeps, edges_left, gap}
use Rattle.graphs.proofs.OfCycles.Lists.{same_some, in_last, in_push, rose_to, last_of}
use Rattle.graphs.proofs.OfCycles.Ways.{edge_of, leads_then}
use Rattle.graphs.proofs.OfCycles.Marks.{one_seen, unseen_before, as_many_unseen}
use Rattle.graphs.proofs.OfCycles.Steps.{never_none, takes_edge, puts_edge, merges, merged}
use Rattle.graphs.proofs.OfCycles.Entering.{enters, enters_there, was_unseen}
use Rattle.graphs.proofs.OfCycles.Closing.{leaves, closes}

-- what is left of the edges

fewer_edges : (os : List (Option ℕ)) (x h : ℕ) (o : Option ℕ) → slice_get os x ≡ Some (Some h) → edges_left (o ∷ []) ≤ h → edges_left (set os x o) < edges_left os
fewer_edges [] x h o e l = absurd (never_some (Some h) e)
fewer_edges (u ∷ os) zero h o e l = at_it u o (same_some u (Some h) e) l
  where
    at_it : (u o : Option ℕ) → u ≡ Some h → edges_left (o ∷ []) ≤ h → edges_left (o ∷ os) < edges_left (u ∷ os)
    at_it None o e l = absurd (never_none h (sym e))
    at_it (Some f) None e l = omega arith
    at_it (Some f) (Some g) e l = let k = same_some f h e in omega (arith, k, l)
fewer_edges (None ∷ os) (suc x) h o e l = fewer_edges os x h o e l
fewer_edges (Some f ∷ os) (suc x) h o e l = let k = fewer_edges os x h o e l in omega (arith, k)

-- the state after a step
pub record IsNext (nodes : ℕ) (edges : List Edge) (s t : State) : Type 0 where
  pub sound : IsSound nodes edges None t
  pub less : gap t < gap s
  pub keeps : Keeps s t

same_last : (o : Option ℕ) (p : ℕ) → are_same o (Some p) ≡ true → o ≡ Some p
same_last None p e = cc
same_last (Some a) p e = ap Some (test_true a p e)

last_same : (o : Option ℕ) (p : ℕ) → o ≡ Some p → are_same o (Some p) ≡ true
last_same None p e = cc
last_same (Some a) p e = subst (λ b. are_same (Some a) (Some b) ≡ true) (same_some a p e) (test_same a)

module _ (nodes : ℕ) (edges : List Edge) where
  -- where the position is not the last of the segments, it is none
  module _ (s : State) (path : List ℕ) (p : ℕ) (path_is : s.path ≡ path ++ p ∷ []) (sound : IsSound nodes edges None s) where
    on_path : (b : ℕ) → In s.path b → b ≤ p
    on_path b i = elim (in_push path p b (subst (λ ps. In ps b) path_is i)) [ inl e ↦ omega (arith, e) | inr t ↦ (let l = rose_to path p (subst IsRising path_is sound.on.path_rises) b t in omega (arith, l)) ]

    pub root_up_to : (b : ℕ) → In s.roots b → b ≤ p
    root_up_to b i = on_path b (sound.on.roots_on b i)

    last_root : (roots : List ℕ) → roots ≡ s.roots → In roots p → (o : Option ℕ) → slice_get roots (length roots - 1) ≡ o → o ≡ Some p
    last_root [] e i o f = absurd i
    last_root (b ∷ bs) e i o f =
        let h : length (b ∷ bs) - 1 < length (b ∷ bs) = omega arith in
        let t = there_is (b ∷ bs) (length (b ∷ bs) - 1) h in
        let split = last_of (b ∷ bs) t.0 t.1 in
        let rises : IsRising (front (b ∷ bs) ++ t.0 ∷ []) = subst IsRising split (subst IsRising (sym e) sound.on.roots_rise) in
        let inside : In s.roots t.0 = subst (λ xs. In xs t.0) e (subst (λ xs. In xs t.0) (sym split) (in_last (front (b ∷ bs)) t.0)) in
        let most = root_up_to t.0 inside in
        sym f ∙ (t.1 ∙ ap Some (elim (in_push (front (b ∷ bs)) t.0 p (subst (λ xs. In xs p) split i)) [ inl q ↦ q | inr u ↦ (let l = rose_to (front (b ∷ bs)) t.0 rises p u in absurd (omega (arith, l, most))) ]))

    pub no_root : is_last p s.roots ≡ false → In s.roots p → ⊥
    no_root e i = not_both (is_last p s.roots) (last_same _ p (last_root s.roots refl i (slice_get s.roots (length s.roots - 1)) refl)) e

  module _ (links : List (Option ℕ)) (s : State) (p : ℕ) (top : slice_get s.path (length s.path - 1) ≡ Some p) (sound : IsSound nodes edges None s) where
    path_is : s.path ≡ front s.path ++ p ∷ []
    path_is = last_of s.path p top

    in_path : In s.path p
    in_path = subst (λ ps. In ps p) (sym path_is) (in_last (front s.path) p)

    path_shorter : length (front s.path) + 1 ≡ length s.path
    path_shorter = sym (push_length (front s.path) p) ∙ sym (ap length path_is)

    leave_by : (x : ℕ) → slice_get s.opened p ≡ Some x → slice_get s.heads x ≡ Some None → (b : Bool) → is_last p s.roots ≡ b → IsNext nodes edges s (cond b (closed p (off_roots (off_path s))) (off_path s))
    leave_by x place none true e = record {
      sound = closes nodes edges s (front s.path) (front s.roots) p x path_is (last_of s.roots p (same_last _ p e)) place none sound;
      less = let u = as_many_unseen p s.done s.marks in omega (arith, u, path_shorter);
      keeps = λ y m. unseen_before p s.done s.marks y m;
    }
    leave_by x place none false e = record {
      sound = leaves nodes edges s (front s.path) p x path_is place none (no_root s (front s.path) p path_is sound e) sound;
      less = omega (arith, path_shorter);
      keeps = λ y m. m;
    }

    module _ (x h y : ℕ) (o : Option ℕ) (place : slice_get s.opened p ≡ Some x) (head : slice_get s.heads x ≡ Some (Some h)) (joins : Joins nodes edges h x y) (last : IsLast nodes edges x h o) where
      taken : IsSound nodes edges (Some h) (advanced x o s)
      taken = takes_edge nodes edges s p x h o place head last in_path sound

      edge : IsEdge nodes edges x y
      edge = edge_of nodes edges h x y joins

      value : (u : Option ℕ) → IsLast nodes edges x h u → edges_left (u ∷ []) ≤ h
      value None k = omega arith
      value (Some e) k = let l = k.below in omega (arith, l)

      fewer : edges_left (set s.heads x o) < edges_left s.heads
      fewer = fewer_edges s.heads x h o head (value o last)

      mark : slice_get s.marks x ≡ Some (Open p)
      mark = sound.places.there p x place

      leads : (q z : ℕ) → slice_get s.opened q ≡ Some z → Leads nodes edges z y
      leads q z e = leads_then nodes edges z x y (sound.segments q p z x e place (λ b i l. root_up_to s (front s.path) p path_is sound b i)) (inr (at_once edge))

      opened : slice_get s.marks y ≡ Some Unseen → IsSound nodes edges (Some h) (entered y (advanced x o s))
      opened e = enters nodes edges (Some h) (advanced x o s) y e leads taken

      under_new : Under (s.roots ++ length s.opened ∷ []) p (length s.opened)
      under_new b i l = let k = within s.opened p x place in omega (arith, k, l)

      met_by : (m : Mark) → slice_get s.marks y ≡ Some m → IsNext nodes edges s (met_at y (advanced x o s) m)
      met_by Unseen e = record {
        sound = puts_edge nodes edges (entered y (advanced x o s)) p x y h joins ((opened e).places.there p x (push_before s.opened y p x place)) (is_open (length s.opened) (enters_there nodes edges (Some h) (advanced x o s) y e leads taken) under_new) (opened e);
        less = let k = one_seen s.marks y (length s.opened) e in let l = push_length s.path (length s.opened) in omega (arith, k, l, fewer);
        keeps = λ z m. was_unseen nodes edges (Some h) (advanced x o s) y e leads taken z m;
      }
      met_by (Open q) e = record {
        sound = puts_edge nodes edges _ p x y h joins mark (merged nodes edges (Some h) (advanced x o s) p x y q (root_up_to s (front s.path) p path_is sound) place edge e taken) (merges nodes edges (Some h) (advanced x o s) p x y q (root_up_to s (front s.path) p path_is sound) place edge e taken);
        less = omega (arith, fewer);
        keeps = λ z m. m;
      }
      met_by (Done c) e = record {
        sound = puts_edge nodes edges (advanced x o s) p x y h joins mark (is_done c e) taken;
        less = omega (arith, fewer);
        keeps = λ z m. m;
      }

    module _ (linked : AreLinks nodes edges links) (as_many : length links ≡ length edges) where
      follow : (x h : ℕ) → slice_get s.opened p ≡ Some x → slice_get s.heads x ≡ Some (Some h) → IsNext nodes edges s (step_by edges links p x s (Some h))
      follow x h place head =
          let next = sound.have.from x h head in
          let y = next.0 in
          let joins = next.1 in
          let o = slice_index_or links h None in
          let in_edges : h < length edges = within edges h (record { from = x; to = y }) joins.there in
          let link : slice_get links h ≡ Some (slice_index_or links h None) = slice_get-get_or links h None (omega (arith, in_edges, as_many)) in
          let goes_to : target edges h ≡ y = ap (λ (d : Edge). d.to) (get_or_from_slice_get edges h (record { from = x; to = y }) (record { from = 0; to = 0 }) joins.there) in
          let all = sound.places.all in
          let ends = joins.ends in
          let mark : slice_get s.marks y ≡ Some (slice_index_or s.marks y Unseen) = slice_get-get_or s.marks y Unseen (omega (arith, all, ends)) in
          subst (λ z. IsNext nodes edges s (met z (advanced x o s))) (sym goes_to) (met_by x h y o place head joins (linked.each h x y o joins link) (slice_index_or s.marks y Unseen) mark)

      by_head : (x : ℕ) (o : Option ℕ) → slice_get s.opened p ≡ Some x → slice_get s.heads x ≡ Some o → IsNext nodes edges s (step_by edges links p x s o)
      by_head x None place head = leave_by x place head (is_last p s.roots) refl
      by_head x (Some h) place head = follow x h place head

      pub place_in : p < length s.opened
      place_in = sound.on.path_within p in_path

      pub node_there : slice_get s.opened p ≡ Some (slice_index_or s.opened p 0)
      node_there = slice_get-get_or s.opened p 0 place_in

      pub node_in : (x : ℕ) → slice_get s.opened p ≡ Some x → x < nodes
      node_in x e = let l = within s.marks x (Open p) (sound.places.there p x e) in let all = sound.places.all in omega (arith, l, all)

      pub steps : IsNext nodes edges s (stepped edges links p s)
      steps =
          let x = slice_index_or s.opened p 0 in
          let l = node_in x node_there in
          let all = sound.have.all in
          by_head x (slice_index_or s.heads x None) node_there (slice_get-get_or s.heads x None (omega (arith, l, all)))

      pub some_node : s.done < nodes
      some_node = let h = sound.components.count in let l = place_in in omega (arith, h, l)

      pub head_in : (x : ℕ) → slice_get s.opened p ≡ Some x → x < length s.heads
      head_in x e = let l = node_in x e in let all = sound.have.all in omega (arith, l, all)

      pub edge_in : (x h : ℕ) → slice_get s.heads x ≡ Some (Some h) → h < length edges
      edge_in x h e = let next = sound.have.from x h e in within edges h (record { from = x; to = next.0 }) next.1.there

      pub target_in : (x h : ℕ) → slice_get s.heads x ≡ Some (Some h) → target edges h < length s.marks
      target_in x h e =
          let next = sound.have.from x h e in
          let goes_to : target edges h ≡ next.0 = ap (λ (d : Edge). d.to) (get_or_from_slice_get edges h (record { from = x; to = next.0 }) (record { from = 0; to = 0 }) next.1.there) in
          let all = sound.places.all in
          let ends = next.1.ends in
          omega (arith, all, ends, goes_to)

pub step_is : (edges : List Edge) (links : List (Option ℕ)) (s : State) (p x : ℕ) (o : Option ℕ) → slice_get s.opened p ≡ Some x → slice_get s.heads x ≡ Some o → step_by edges links p x s o ≡ stepped edges links p s
step_is edges links s p x o place head = sym (ap (λ y. step_by edges links p y s (slice_index_or s.heads y None)) (get_or_from_slice_get s.opened p x 0 place) ∙ ap (λ u. step_by edges links p x s u) (get_or_from_slice_get s.heads x o None head))
