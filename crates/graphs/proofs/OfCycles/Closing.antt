-- The last node of the path is left.
use Rattle.std.proofs.Common.{◌≡◌, ℕ, ◌+◌, ◌<◌, ◌≤◌, List, [], ◌∷◌, ◌++◌, length, map, take, Some, None, inl, inr, slice_get, sym, ap, subst, ◌∙◌, arith}
use Rattle.lists.proofs.Lemmas.{take_length, within}
use Rattle.graphs.specs.declared.cycles.Edge.{Edge}
use Rattle.graphs.specs.declared.cycles.search.Mark.TheVariants.{Open, Done}
use Rattle.graphs.specs.Cycles.Links.{Joins, Leads}
use Rattle.graphs.specs.Cycles.Search.{State, shut, closed, In, IsRising, Under, ArePlaces, AreSegments, IsAhead, IsMet, is_done, is_open, IsBelow, AreFollowed, IsPath, AreComponents, IsSound}
use Rattle.graphs.proofs.OfCycles.Lists.{same_some, take_there, after_take, in_before, in_last, in_push, rose, rose_to}
use Rattle.graphs.proofs.OfCycles.Marks.{shut_length, is_shut, stays_open, gets_done, WasOpen, unseen_before, open_before, done_before, as_many_unseen}
use Rattle.graphs.proofs.OfCycles.Steps.{up_to_or_past, never_none, one_head}

module _ (nodes : ℕ) (edges : List Edge) where
  -- the last node of the path is left, where it begins no segment
  pub leaves : (s : State) (path : List ℕ) (p x : ℕ) → s.path ≡ path ++ p ∷ [] → slice_get s.opened p ≡ Some x → slice_get s.heads x ≡ Some None → (In s.roots p → ⊥) → IsSound nodes edges None s → IsSound nodes edges None (record { heads = s.heads; marks = s.marks; opened = s.opened; roots = s.roots; path = path; done = s.done })
  leaves s path p x e place none inner sound = record {
    places = sound.places;
    segments = sound.segments;
    followed = sound.followed;
    have = sound.have;
    on = record {
      path_rises = rose path p (subst IsRising e sound.on.path_rises);
      path_within = λ r i. sound.on.path_within r (still r i);
      roots_rise = sound.on.roots_rise;
      roots_on = λ b i. elim (in_push path p b (subst (λ ps. In ps b) e (sound.on.roots_on b i))) [ inl q ↦ absurd (inner (subst (λ r. In s.roots r) (sym q) i)) | inr t ↦ t ];
      waits = λ r y t. elim (sound.on.waits r y t) [ inl i ↦ elim (in_push path p r (subst (λ ps. In ps r) e i)) [ inl q ↦ inr (subst (λ w. slice_get s.heads w ≡ Some None) (same_some x y (sym place ∙ (ap (slice_get s.opened) q ∙ t))) none) | inr u ↦ inl u ] | inr n ↦ inr n ];
      bottom = sound.on.bottom;
    };
    components = sound.components;
  }
    where
      still : (r : ℕ) → In path r → In s.path r
      still r i = subst (λ ps. In ps r) (sym e) (in_before path p r i)

  -- the last node of the path is left, where it begins a segment: this is a component

  module _ (s : State) (path roots : List ℕ) (p x : ℕ) (path_is : s.path ≡ path ++ p ∷ []) (roots_are : s.roots ≡ roots ++ p ∷ []) (place : slice_get s.opened p ≡ Some x) (none : slice_get s.heads x ≡ Some None) (sound : IsSound nodes edges None s) where
    root_in : In s.roots p
    root_in = subst (λ bs. In bs p) (sym roots_are) (in_last roots p)

    root_before : (b : ℕ) → In roots b → b < p
    root_before b i = rose_to roots p (subst IsRising roots_are sound.on.roots_rise) b i

    path_before : (b : ℕ) → In path b → b < p
    path_before b i = rose_to path p (subst IsRising path_is sound.on.path_rises) b i

    up_to : (b : ℕ) → In s.roots b → b ≤ p
    up_to b i = elim (in_push roots p b (subst (λ bs. In bs b) roots_are i)) [ inl e ↦ omega (arith, e) | inr t ↦ (let l = root_before b t in omega (arith, l)) ]

    under : (q r : ℕ) → q < p → Under roots q r → Under s.roots q r
    under q r l u b i h = elim (in_push roots p b (subst (λ bs. In bs b) roots_are i)) [ inl e ↦ absurd (omega (arith, e, h, l)) | inr t ↦ u b t h ]

    under_less : (q r : ℕ) → Under s.roots q r → Under roots q r
    under_less q r u b i h = u b (subst (λ bs. In bs b) (sym roots_are) (in_before roots p b i)) h

    stays_done : (y d : ℕ) → slice_get s.marks y ≡ Some (Done d) → slice_get (map (shut p s.done) s.marks) y ≡ Some (Done d)
    stays_done y d e = is_shut p s.done s.marks y (Done d) e

    open_still : (y q : ℕ) → q < p → slice_get s.marks y ≡ Some (Open q) → slice_get (map (shut p s.done) s.marks) y ≡ Some (Open q)
    open_still y q l e = is_shut p s.done s.marks y (Open q) e ∙ ap Some (stays_open p s.done q l)

    now_done : (y q : ℕ) → p ≤ q → slice_get s.marks y ≡ Some (Open q) → slice_get (map (shut p s.done) s.marks) y ≡ Some (Done s.done)
    now_done y q l e = is_shut p s.done s.marks y (Open q) e ∙ ap Some (gets_done p s.done q l)

    short : length (take p s.opened) ≡ p
    short = let h = within s.opened p x place in take_length p s.opened (omega (arith, h))

    new_places : ArePlaces nodes (map (shut p s.done) s.marks) (take p s.opened)
    new_places = record {
      all = shut_length p s.done s.marks ∙ sound.places.all;
      there = λ q y e. let t = after_take p s.opened q y e in open_still y q t.0 (sound.places.there q y t.1);
      back = λ q y e. let t = open_before p s.done s.marks y q e in take_there p s.opened q y t.1 (sound.places.back q y t.0);
    }

    new_segments : AreSegments nodes edges (take p s.opened) roots
    new_segments q r y z i j u = let a = after_take p s.opened q y i in let b = after_take p s.opened r z j in sound.segments q r y z a.1 b.1 (under q r a.0 u)

    met_still : (q y : ℕ) → IsMet s.marks s.roots q y → IsMet (map (shut p s.done) s.marks) roots q y
    met_still q y (is_done d m) = is_done d (stays_done y d m)
    met_still q y (is_open r m u) = elim (up_to_or_past p r) [ inl l ↦ is_done s.done (now_done y r l m) | inr l ↦ is_open r (open_still y r l m) (under_less q r u) ]

    met_below : (q y : ℕ) → p ≤ q → IsMet s.marks s.roots q y → IsBelow (map (shut p s.done) s.marks) s.done y
    met_below q y l (is_done d m) = let h = sound.components.below y d m in record { at = d; there = stays_done y d m; most = omega (arith, h) }
    met_below q y l (is_open r m u) = record { at = s.done; there = now_done y r (u p root_in l) m; most = omega arith }

    nothing_ahead : (q y e : ℕ) → p ≤ q → slice_get s.opened q ≡ Some y → IsAhead s.heads y e → ⊥
    nothing_ahead q y e l t a = elim (sound.on.waits q y t) [
      | inl i ↦ elim (in_push path p q (subst (λ ps. In ps q) path_is i)) [
        | inl r ↦ never_none a.last (one_head _ (Some a.last) None a.there (subst (λ w. slice_get s.heads w ≡ Some None) (same_some x y (sym place ∙ (ap (slice_get s.opened) r ∙ t))) none))
        | inr u ↦ (let before = path_before q u in absurd (omega (arith, before, l)))
      ]
      | inr n ↦ never_none a.last (one_head _ (Some a.last) None a.there n)
    ]

    last_below : (e y z : ℕ) → Joins nodes edges e y z → WasOpen p s.done s.marks y → IsBelow (map (shut p s.done) s.marks) s.done z
    last_below e y z j w = elim (sound.followed.live e y z w.place j w.there (never_none e)) [ inl a ↦ absurd (nothing_ahead w.place y e w.from (sound.places.back w.place y w.there) a) | inr t ↦ met_below w.place z w.from t ]

    new_followed : AreFollowed nodes edges None s.heads (map (shut p s.done) s.marks) roots
    new_followed = record {
      fresh = λ e y z j m. sound.followed.fresh e y z j (unseen_before p s.done s.marks y m);
      live = λ e y z q j m n. let o = open_before p s.done s.marks y q m in elim (sound.followed.live e y z q j o.0 n) [ inl a ↦ inl a | inr t ↦ inr (met_still q z t) ];
      over = λ e y z d j m. elim (done_before p s.done s.marks y d m) [ inl o ↦ (let b = sound.followed.over e y z d j o in record { at = b.at; there = stays_done z b.at b.there; most = b.most }) | inr o ↦ subst (λ f. IsBelow (map (shut p s.done) s.marks) f z) o.0 (last_below e y z j o.1) ];
    }

    new_path : IsPath s.heads (take p s.opened) roots path
    new_path = record {
      path_rises = rose path p (subst IsRising path_is sound.on.path_rises);
      path_within = λ b i. let l = path_before b i in omega (arith, l, short);
      roots_rise = rose roots p (subst IsRising roots_are sound.on.roots_rise);
      roots_on = λ b i. let l = root_before b i in elim (in_push path p b (subst (λ ps. In ps b) path_is (sound.on.roots_on b (subst (λ bs. In bs b) (sym roots_are) (in_before roots p b i))))) [ inl e ↦ absurd (omega (arith, l, e)) | inr t ↦ t ];
      waits = λ q y e. let t = after_take p s.opened q y e in elim (sound.on.waits q y t.1) [ inl i ↦ elim (in_push path p q (subst (λ ps. In ps q) path_is i)) [ inl r ↦ absurd (omega (arith, r, t.0)) | inr u ↦ inl u ] | inr n ↦ inr n ];
      bottom = λ l. let h = within s.opened p x place in elim (in_push roots p 0 (subst (λ bs. In bs 0) roots_are (sound.on.bottom (omega (arith, h))))) [ inl e ↦ absurd (omega (arith, e, l, short)) | inr t ↦ t ];
    }

    together : (y z : ℕ) → WasOpen p s.done s.marks y → WasOpen p s.done s.marks z → Leads nodes edges y z
    together y z v w = sound.segments v.place w.place y z (sound.places.back v.place y v.there) (sound.places.back w.place z w.there) (λ b i h. let l = up_to b i in let m = w.from in omega (arith, l, m))

    all_same : (y z d : ℕ) → slice_get (map (shut p s.done) s.marks) y ≡ Some (Done d) → slice_get (map (shut p s.done) s.marks) z ≡ Some (Done d) → Leads nodes edges y z
    all_same y z d m n = elim (done_before p s.done s.marks y d m) [
      | inl a ↦ elim (done_before p s.done s.marks z d n) [
        | inl b ↦ sound.components.same y z d a b
        | inr b ↦ (let l = sound.components.below y d a in let e = b.0 in absurd (omega (arith, l, e)))
      ]
      | inr a ↦ elim (done_before p s.done s.marks z d n) [
        | inl b ↦ (let l = sound.components.below z d b in let e = a.0 in absurd (omega (arith, l, e)))
        | inr b ↦ together y z a.1 b.1
      ]
    ]

    all_below : (y d : ℕ) → slice_get (map (shut p s.done) s.marks) y ≡ Some (Done d) → d < s.done + 1
    all_below y d m = elim (done_before p s.done s.marks y d m) [ inl a ↦ (let l = sound.components.below y d a in omega (arith, l)) | inr a ↦ (let e = a.0 in omega (arith, e)) ]

    new_components : AreComponents nodes edges (map (shut p s.done) s.marks) (take p s.opened) (s.done + 1)
    new_components = record {
      below = all_below;
      same = all_same;
      count = let u = as_many_unseen p s.done s.marks in let h = sound.components.count in let l = within s.opened p x place in omega (arith, u, h, l, short);
    }

    pub closes : IsSound nodes edges None (closed p (record { heads = s.heads; marks = s.marks; opened = s.opened; roots = roots; path = path; done = s.done }))
    closes = record {
      places = new_places;
      segments = new_segments;
      followed = new_followed;
      have = sound.have;
      on = new_path;
      components = new_components;
    }
