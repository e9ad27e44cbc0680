-- Each step of the search keeps what holds on the way.
use Rattle.std.proofs.Common.{◌≡◌, ℕ, zero, suc, ◌<◌, ◌≤◌, List, set, Option, Some, None, ◌⊎◌, inl, inr, slice_get, refl, sym, ap, subst, ◌∙◌, arith}
use Rattle.lists.proofs.Lemmas.{after_set, same_or_not, set_length, set_other, set_there, within}
use Rattle.graphs.specs.declared.cycles.Edge.{Edge}
use Rattle.graphs.specs.declared.cycles.search.Mark.TheVariants.{Unseen, Open}
use Rattle.graphs.specs.Cycles.Graph.{IsEdge}
use Rattle.graphs.specs.Cycles.Links.{Joins, IsLast}
use Rattle.graphs.specs.Cycles.Search.{State, cut, advanced, In, AreSegments, IsAhead, IsMet, is_done, is_open, IsSound}
use Rattle.graphs.proofs.OfCycles.Lists.{same_some, in_cut, cut_keeps, cut_rises, cut_up_to}
use Rattle.graphs.proofs.OfCycles.Ways.{leads_then, edge_then, same_from, same_to}
use Rattle.graphs.proofs.OfCycles.Marks.{one_mark, unseen_open, one_open}

pub up_to_or_past : (i j : ℕ) → (i ≤ j) ⊎ (j < i)
up_to_or_past zero j = inl (omega arith)
up_to_or_past (suc i) zero = inr (omega arith)
up_to_or_past (suc i) (suc j) = elim (up_to_or_past i j) [ inl h ↦ inl (omega (arith, h)) | inr h ↦ inr (omega (arith, h)) ]

pub some_same : (e h : ℕ) → Some e ≡ Some h → e ≡ h
some_same e h p = cc

pub never_none : (e : ℕ) → Some e ≡ None → ⊥
never_none e p = cc

pub one_head : (o : Option (Option ℕ)) (a b : Option ℕ) → o ≡ Some a → o ≡ Some b → a ≡ b
one_head o a b p q = same_some a b (sym p ∙ q)

module _ (nodes : ℕ) (edges : List Edge) where
  -- the next edge of x is taken in hand

  module _ (s : State) (p x h : ℕ) (o : Option ℕ) (place : slice_get s.opened p ≡ Some x) (head : slice_get s.heads x ≡ Some (Some h)) (last : IsLast nodes edges x h o) (top : In s.path p) (sound : IsSound nodes edges None s) where
    mark : slice_get s.marks x ≡ Some (Open p)
    mark = sound.places.there p x place

    ahead_other : (y e : ℕ) → (x ≡ y → ⊥) → IsAhead s.heads y e → IsAhead (set s.heads x o) y e
    ahead_other y e n a = record { last = a.last; there = set_other s.heads x y o n ∙ a.there; within = a.within }

    still_ahead : (e y : ℕ) → Joins nodes edges e x y → e < h → (u : Option ℕ) → o ≡ u → IsLast nodes edges x h u → IsAhead (set s.heads x o) x e
    still_ahead e y j l None i k = absurd (k e y j l)
    still_ahead e y j l (Some f) i k = record { last = f; there = set_there s.heads x o (within s.heads x (Some h) head) ∙ ap Some i; within = k.last e y j l }

    ahead_of_it : (e y : ℕ) → Joins nodes edges e x y → (e ≡ h → ⊥) → IsAhead s.heads x e → IsAhead (set s.heads x o) x e
    ahead_of_it e y j n a =
        let same = some_same a.last h (one_head _ (Some a.last) (Some h) a.there head) in
        let below : e ≤ h = omega (arith, same, a.within) in
        still_ahead e y j (elim (up_to_or_past h e) [ inl k ↦ absurd (n (omega (arith, k, below))) | inr k ↦ k ]) o refl last

    ahead : (e y z : ℕ) → Joins nodes edges e y z → (e ≡ h → ⊥) → IsAhead s.heads y e → IsAhead (set s.heads x o) y e
    ahead e y z j n a = elim (same_or_not x y) [ inl q ↦ subst (λ w. IsAhead (set s.heads x o) w e) q (ahead_of_it e z (subst (λ w. Joins nodes edges e w z) (sym q) j) n (subst (λ w. IsAhead s.heads w e) (sym q) a)) | inr q ↦ ahead_other y e q a ]

    pub takes_edge : IsSound nodes edges (Some h) (advanced x o s)
    takes_edge = record {
      places = sound.places;
      segments = sound.segments;
      followed = record {
        fresh = λ e y z j m. ahead_other y e (λ q. unseen_open p (one_mark _ Unseen (Open p) m (subst (λ w. slice_get s.marks w ≡ Some (Open p)) q mark))) (sound.followed.fresh e y z j m);
        live = λ e y z r j m n. elim (sound.followed.live e y z r j m (never_none e)) [ inl a ↦ inl (ahead e y z j (λ q. n (ap Some q)) a) | inr t ↦ inr t ];
        over = sound.followed.over;
      };
      have = record {
        all = set_length s.heads x o ∙ sound.have.all;
        from = λ y e t. elim (after_set s.heads x y o (Some e) t) [ inl q ↦ next_edge y e q.0 o q.1 last | inr q ↦ sound.have.from y e q.1 ];
      };
      on = record {
        path_rises = sound.on.path_rises;
        path_within = sound.on.path_within;
        roots_rise = sound.on.roots_rise;
        roots_on = sound.on.roots_on;
        waits = λ r y t. elim (same_or_not x y) [ inl q ↦ inl (subst (λ w. In s.path w) (one_open p r (one_mark _ (Open p) (Open r) mark (sound.places.there r x (subst (λ w. slice_get s.opened r ≡ Some w) (sym q) t)))) top) | inr q ↦ elim (sound.on.waits r y t) [ inl i ↦ inl i | inr n ↦ inr (set_other s.heads x y o q ∙ n) ] ];
        bottom = sound.on.bottom;
      };
      components = sound.components;
    }
      where
        next_edge : (y e : ℕ) → x ≡ y → (u : Option ℕ) → u ≡ Some e → IsLast nodes edges x h u → (z : ℕ) × Joins nodes edges e y z
        next_edge y e q None f k = absurd (never_none e (sym f))
        next_edge y e q (Some g) f k = (k.to, subst (λ w. Joins nodes edges w y k.to) (some_same g e f) (subst (λ w. Joins nodes edges g w k.to) q k.joins))

  -- the edge at hand was followed
  pub puts_edge : (s : State) (p x y h : ℕ) → Joins nodes edges h x y → slice_get s.marks x ≡ Some (Open p) → IsMet s.marks s.roots p y → IsSound nodes edges (Some h) s → IsSound nodes edges None s
  puts_edge s p x y h j mark m sound = record {
    places = sound.places;
    segments = sound.segments;
    followed = record { fresh = sound.followed.fresh; live = live; over = sound.followed.over };
    have = sound.have;
    on = sound.on;
    components = sound.components;
  }
    where
      it : (e w z r : ℕ) → Joins nodes edges e w z → slice_get s.marks w ≡ Some (Open r) → e ≡ h → IsMet s.marks s.roots r z
      it e w z r i n q =
          let k = subst (λ f. Joins nodes edges f w z) q i in
          let from = same_from nodes edges h x y w z j k in
          let to = same_to nodes edges h x y w z j k in
          let place = one_open p r (one_mark _ (Open p) (Open r) (subst (λ v. slice_get s.marks v ≡ Some (Open p)) from mark) n) in
          subst (λ v. IsMet s.marks s.roots r v) to (subst (λ v. IsMet s.marks s.roots v y) place m)

      live : (e w z r : ℕ) → Joins nodes edges e w z → slice_get s.marks w ≡ Some (Open r) → (Some e ≡ None → ⊥) → IsAhead s.heads w e ⊎ IsMet s.marks s.roots r z
      live e w z r i n u = elim (same_or_not e h) [ inl q ↦ inr (it e w z r i n q) | inr q ↦ sound.followed.live e w z r i n (λ t. q (some_same e h t)) ]

  -- an edge leads back from the last segment: the segments from there on become one

  module _ (hand : Option ℕ) (s : State) (p x y q : ℕ) (top : (b : ℕ) → In s.roots b → b ≤ p) (place : slice_get s.opened p ≡ Some x) (edge : IsEdge nodes edges x y) (mark : slice_get s.marks y ≡ Some (Open q)) (sound : IsSound nodes edges hand s) where
    one_segment : AreSegments nodes edges s.opened (cut q s.roots)
    one_segment a b v w i j u = elim (up_to_or_past a q) [ inl l ↦ sound.segments a b v w i j (λ r t m. u r (cut_keeps q s.roots r t (omega (arith, l, m))) m) | inr l ↦ leads_then nodes edges v x w (sound.segments a p v x i place (λ r t m. top r t)) (inr (edge_then nodes edges x y w edge (sound.segments q b y w (sound.places.back q y mark) j (λ r t m. u r (cut_keeps q s.roots r t m) (omega (arith, l, m)))))) ]

    met_still : (r z : ℕ) → IsMet s.marks s.roots r z → IsMet s.marks (cut q s.roots) r z
    met_still r z (is_done c m) = is_done c m
    met_still r z (is_open t m u) = is_open t m (λ b i l. u b (in_cut q s.roots b i) l)

    pub merges : IsSound nodes edges hand (record { heads = s.heads; marks = s.marks; opened = s.opened; roots = cut q s.roots; path = s.path; done = s.done })
    merges = record {
      places = sound.places;
      segments = one_segment;
      followed = record {
        fresh = sound.followed.fresh;
        live = λ e w z r j m n. elim (sound.followed.live e w z r j m n) [ inl a ↦ inl a | inr t ↦ inr (met_still r z t) ];
        over = sound.followed.over;
      };
      have = sound.have;
      on = record {
        path_rises = sound.on.path_rises;
        path_within = sound.on.path_within;
        roots_rise = cut_rises q s.roots sound.on.roots_rise;
        roots_on = λ b i. sound.on.roots_on b (in_cut q s.roots b i);
        waits = sound.on.waits;
        bottom = λ l. cut_keeps q s.roots 0 (sound.on.bottom l) (omega arith);
      };
      components = sound.components;
    }

    pub merged : IsMet s.marks (cut q s.roots) p y
    merged = is_open q mark (λ b i l. cut_up_to q s.roots sound.on.roots_rise b i)
