-- A node that was not yet reached is opened.
use Rattle.std.proofs.Common.{◌≡◌, ℕ, zero, suc, ◌<◌, List, [], ◌∷◌, ◌++◌, length, set, Option, Some, ◌⊎◌, inl, inr, slice_get, refl, sym, ap, subst, ◌∙◌, arith}
use Rattle.lists.proofs.Lemmas.{after_push, after_set, push_before, push_length, push_there, set_length, set_other, set_there, within}
use Rattle.graphs.specs.declared.cycles.Edge.{Edge}
use Rattle.graphs.specs.declared.cycles.search.Mark.{Mark}
use Rattle.graphs.specs.declared.cycles.search.Mark.TheVariants.{Unseen, Open, Done}
use Rattle.graphs.specs.Cycles.Links.{Leads}
use Rattle.graphs.specs.Cycles.Search.{State, entered, In, ArePlaces, AreSegments, IsMet, is_done, is_open, AreFollowed, IsPath, AreComponents, IsSound}
use Rattle.graphs.proofs.OfCycles.Lists.{in_before, in_last, in_push, rises_on}
use Rattle.graphs.proofs.OfCycles.Marks.{one_mark, unseen_open, unseen_done, open_done, one_open, one_seen}

module _ (nodes : ℕ) (edges : List Edge) where
  -- a node is opened

  module _ (hand : Option ℕ) (s : State) (x : ℕ) (mark : slice_get s.marks x ≡ Some Unseen) (leads : (p y : ℕ) → slice_get s.opened p ≡ Some y → Leads nodes edges y x) (sound : IsSound nodes edges hand s) where
    not_x : (y : ℕ) (m : Mark) → slice_get s.marks y ≡ Some m → (Unseen ≡ m → ⊥) → x ≡ y → ⊥
    not_x y m e n q = n (one_mark _ Unseen m (subst (λ w. slice_get s.marks w ≡ Some Unseen) q mark) e)

    stays : (y : ℕ) (m : Mark) → slice_get s.marks y ≡ Some m → (Unseen ≡ m → ⊥) → slice_get (set s.marks x (Open (length s.opened))) y ≡ Some m
    stays y m e n = set_other s.marks x y (Open (length s.opened)) (not_x y m e n) ∙ e

    pub enters_there : slice_get (set s.marks x (Open (length s.opened))) x ≡ Some (Open (length s.opened))
    enters_there = set_there s.marks x (Open (length s.opened)) (within s.marks x Unseen mark)

    was_open : (y p : ℕ) → slice_get (set s.marks x (Open (length s.opened))) y ≡ Some (Open p) → ((x ≡ y) × (length s.opened ≡ p)) ⊎ (slice_get s.marks y ≡ Some (Open p))
    was_open y p e = elim (after_set s.marks x y (Open (length s.opened)) (Open p) e) [ inl h ↦ inl (h.0, one_open (length s.opened) p h.1) | inr h ↦ inr h.1 ]

    was_done : (y c : ℕ) → slice_get (set s.marks x (Open (length s.opened))) y ≡ Some (Done c) → slice_get s.marks y ≡ Some (Done c)
    was_done y c e = elim (after_set s.marks x y (Open (length s.opened)) (Done c) e) [ inl h ↦ absurd (open_done (length s.opened) c h.1) | inr h ↦ h.1 ]

    pub was_unseen : (y : ℕ) → slice_get (set s.marks x (Open (length s.opened))) y ≡ Some Unseen → slice_get s.marks y ≡ Some Unseen
    was_unseen y e = elim (after_set s.marks x y (Open (length s.opened)) Unseen e) [ inl h ↦ absurd (unseen_open (length s.opened) (sym h.1)) | inr h ↦ h.1 ]

    new_places : ArePlaces nodes (set s.marks x (Open (length s.opened))) (s.opened ++ x ∷ [])
    new_places = record {
      all = set_length s.marks x (Open (length s.opened)) ∙ sound.places.all;
      there = λ p y e. elim (after_push s.opened x p y e) [ inl h ↦ subst (λ r. slice_get (set s.marks x (Open (length s.opened))) y ≡ Some (Open r)) h.0 (subst (λ w. slice_get (set s.marks x (Open (length s.opened))) w ≡ Some (Open (length s.opened))) h.1 enters_there) | inr h ↦ stays y (Open p) (sound.places.there p y h) (unseen_open p) ];
      back = λ p y e. elim (was_open y p e) [ inl h ↦ subst (λ r. slice_get (s.opened ++ x ∷ []) r ≡ Some y) h.1 (push_there s.opened x ∙ ap Some h.0) | inr h ↦ push_before s.opened x p y (sound.places.back p y h) ];
    }

    new_segments : AreSegments nodes edges (s.opened ++ x ∷ []) (s.roots ++ length s.opened ∷ [])
    new_segments p q y z i j u = elim (after_push s.opened x p y i) [
      | inl a ↦ elim (after_push s.opened x q z j) [
        | inl b ↦ inl (sym a.1 ∙ b.1)
        | inr b ↦ (let far = u (length s.opened) (in_last s.roots (length s.opened)) (omega (arith, a.0)) in let near = within s.opened q z b in absurd (omega (arith, far, near)))
      ]
      | inr a ↦ elim (after_push s.opened x q z j) [
        | inl b ↦ subst (λ w. Leads nodes edges y w) b.1 (leads p y a)
        | inr b ↦ sound.segments p q y z a b (λ r t l. u r (in_before s.roots (length s.opened) r t) l)
      ]
    ]

    met_still : (p y : ℕ) → p < length s.opened → IsMet s.marks s.roots p y → IsMet (set s.marks x (Open (length s.opened))) (s.roots ++ length s.opened ∷ []) p y
    met_still p y l (is_done c m) = is_done c (stays y (Done c) m (unseen_done c))
    met_still p y l (is_open q m u) = is_open q (stays y (Open q) m (unseen_open q)) (λ b i h. elim (in_push s.roots (length s.opened) b i) [ inl e ↦ absurd (omega (arith, e, h, l)) | inr t ↦ u b t h ])

    new_followed : AreFollowed nodes edges hand s.heads (set s.marks x (Open (length s.opened))) (s.roots ++ length s.opened ∷ [])
    new_followed = record {
      fresh = λ e y z j m. sound.followed.fresh e y z j (was_unseen y m);
      live = λ e y z p j m n. elim (was_open y p m) [ inl h ↦ inl (sound.followed.fresh e y z j (subst (λ w. slice_get s.marks w ≡ Some Unseen) h.0 mark)) | inr h ↦ elim (sound.followed.live e y z p j h n) [ inl a ↦ inl a | inr t ↦ inr (met_still p z (within s.opened p y (sound.places.back p y h)) t) ] ];
      over = λ e y z c j m. let b = sound.followed.over e y z c j (was_done y c m) in record { at = b.at; there = stays z (Done b.at) b.there (unseen_done b.at); most = b.most };
    }

    first_or_more : (n : ℕ) → n ≡ length s.opened → In (s.roots ++ length s.opened ∷ []) 0
    first_or_more zero e = subst (λ r. In (s.roots ++ length s.opened ∷ []) r) (sym e) (in_last s.roots (length s.opened))
    first_or_more (suc n) e = in_before s.roots (length s.opened) 0 (sound.on.bottom (omega (arith, e)))

    new_path : IsPath s.heads (s.opened ++ x ∷ []) (s.roots ++ length s.opened ∷ []) (s.path ++ length s.opened ∷ [])
    new_path = record {
      path_rises = rises_on s.path (length s.opened) sound.on.path_rises sound.on.path_within;
      path_within = λ p i. let l = push_length s.opened x in elim (in_push s.path (length s.opened) p i) [ inl e ↦ omega (arith, e, l) | inr t ↦ (let m = sound.on.path_within p t in omega (arith, m, l)) ];
      roots_rise = rises_on s.roots (length s.opened) sound.on.roots_rise (λ b i. sound.on.path_within b (sound.on.roots_on b i));
      roots_on = λ b i. elim (in_push s.roots (length s.opened) b i) [ inl e ↦ subst (λ r. In (s.path ++ length s.opened ∷ []) r) e (in_last s.path (length s.opened)) | inr t ↦ in_before s.path (length s.opened) b (sound.on.roots_on b t) ];
      waits = λ p y e. elim (after_push s.opened x p y e) [ inl h ↦ inl (subst (λ r. In (s.path ++ length s.opened ∷ []) r) h.0 (in_last s.path (length s.opened))) | inr h ↦ elim (sound.on.waits p y h) [ inl i ↦ inl (in_before s.path (length s.opened) p i) | inr n ↦ inr n ] ];
      bottom = λ l. first_or_more (length s.opened) refl;
    }

    new_components : AreComponents nodes edges (set s.marks x (Open (length s.opened))) (s.opened ++ x ∷ []) s.done
    new_components = record {
      below = λ y c m. sound.components.below y c (was_done y c m);
      same = λ y z c m n. sound.components.same y z c (was_done y c m) (was_done z c n);
      count = let l = push_length s.opened x in let u = one_seen s.marks x (length s.opened) mark in let h = sound.components.count in omega (arith, l, u, h);
    }

    pub enters : IsSound nodes edges hand (entered x s)
    enters = record {
      places = new_places;
      segments = new_segments;
      followed = new_followed;
      have = sound.have;
      on = new_path;
      components = new_components;
    }
